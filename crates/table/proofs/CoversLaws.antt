-- What covering means: some enabled slot of the partition has the byte; in a lawful table only one has, since two that had it would overlap.
-- Assumes nothing.
use mathlib.Core.Path.{◌≡◌, refl, sym, ◌∙◌, ap}
use mathlib.Core.Bool.{true, false, not, ◌&&◌, true≢false}
use mathlib.Core.Logic.{◌↔◌}
use mathlib.Core.List.{[], ◌∷◌}
use Prim.Native.Nat.{ℕ, ◌+◌, ◌≤◌, ◌<◌, zero-le}
use native.Mathlib.Omega.{arith}
use borrow.Author.Tests.{ltb-true, leb-true, lt-ltb, le-leb, le-ltb, ltb-false, not-true, not-false}
use lib.Dec.{ltb, leb, lit<}
use Rattle.laws.specs.Refuse.{◌⇒◌}
use Rattle.laws.proofs.BoolLaws.{and_left, and_right, both}
use Rattle.laws.proofs.RefuseLaws.{accepted, given}
use Rattle.laws.proofs.SearchLaws.{some_exactly}
use Rattle.region.proofs.OverlapLaws.{overlaps_exactly}
use Rattle.table.specs.declared.Table.{Table}
use Rattle.table.specs.declared.Entry.{Entry}
use Rattle.table.specs.Numbers.{parts}
use Rattle.table.specs.Table.{slot_entry}
use Rattle.table.specs.Entries.{range_of, covers_byte}
use Rattle.table.specs.Lawful.{Lawful}
use Rattle.table.specs.Covers.{Has, beyond, covers, cover_answer}

-- ---- one entry
pub byte_exactly : (a : ℕ) (e : Entry) → (covers_byte a e ≡ true) ↔ Has e a
byte_exactly a e =
    let l = leb e.base a in
    let r = ltb a (e.base + e.size) in (
      λ h. record { on = and_left e.enabled (l && r) h; from = leb-true _ _ (and_left l r (and_right e.enabled (l && r) h)); below = ltb-true _ _ (and_right l r (and_right e.enabled (l && r) h)) },
      λ h. both h.on (both (le-leb _ _ h.from) (lt-ltb _ _ h.below)),
    )

-- ---- a partition
pub covers_exactly : (n : ℕ) (t : Table) (p a : ℕ) → (covers n t p a ≡ true) ↔ ((s : ℕ) × (s < n) × Has (slot_entry n t p s) a)
unfolding covers
covers_exactly n t p a =
    let found = some_exactly (λ s. covers_byte a (slot_entry n t p s)) {i = 0} {m = n} zero-le in
    (λ e. let w = found.0 e in (w.0, w.2, (byte_exactly a _).0 w.3), λ w. found.1 (w.0, zero-le, w.1, (byte_exactly a _).1 w.2))

-- two slots that have one byte are one slot
pub covers_unique : (n : ℕ) (t : Table) (p a : ℕ) → Lawful n t p → (i j : ℕ) → i < n → j < n → Has (slot_entry n t p i) a → Has (slot_entry n t p j) a → i ≡ j
covers_unique n t p a l i j h k x y =
    let c : ¬ (i < j) = apart i j k x y in
    let d : ¬ (j < i) = apart j i h y x in
    omega arith
  where
    apart : (i j : ℕ) → j < n → Has (slot_entry n t p i) a → Has (slot_entry n t p j) a → i < j → ⊥
    apart i j k x y h =
        true≢false
        (sym ((overlaps_exactly (range_of (slot_entry n t p i)) (range_of (slot_entry n t p j))).1 (omega (arith, x.from, y.below), omega (arith, y.from, x.below))) ∙ l.disjoint i j h k x.on y.on)

-- ---- the answer
module _ (n : ℕ) (t : Table) (p a : ℕ) where
  pub cover_accepted : ((cover_answer n t p a).no ≡ 0) ↔ (p < parts)
  unfolding cover_answer
  cover_accepted =
      let quiet = accepted ((beyond p ⇒ 1) ∷ []) refl in
      (λ e. ltb-true _ _ (not-false _ (quiet.0 e).0), λ h. quiet.1 (ap not (lt-ltb _ _ h), tt))

  pub cover_refused : ((cover_answer n t p a).no ≡ 1) ↔ (parts ≤ p)
  unfolding cover_answer
  cover_refused =
      let why = given ((beyond p ⇒ 1) ∷ []) refl refl 0 (lit< tt) in
      (λ e. ltb-false _ _ (not-true _ (why.0 e).1), λ h. why.1 (tt, ap not (le-ltb _ _ h)))

  pub cover_answers : p < parts → (cover_answer n t p a).yes ≡ covers n t p a
  unfolding cover_answer
  cover_answers h = rw (lt-ltb p parts h)

  pub cover_refused_no : parts ≤ p → (cover_answer n t p a).yes ≡ false
  unfolding cover_answer
  cover_refused_no h = rw (le-ltb p parts h)
