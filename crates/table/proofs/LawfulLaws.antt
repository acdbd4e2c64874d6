-- What lawful means, both ways: every enabled entry is sound, and no two enabled entries of one partition overlap. Each test is a search, and its
-- meaning law turns it into the fact. Assumes nothing.
use mathlib.Core.Path.{◌≡◌, ap}
use mathlib.Core.Bool.{true, false, not}
use mathlib.Core.Logic.{◌↔◌}
use Prim.Native.Nat.{ℕ, ◌+◌, ◌≤◌, ◌<◌, zero-le}
use native.Mathlib.Omega.{arith}
use borrow.Author.Tests.{eqb-true, eq-eqb, not-true, not-false}
use Rattle.laws.specs.Search.{some}
use Rattle.laws.proofs.BoolLaws.{and_left, and_right, both, unless}
use Rattle.laws.proofs.SearchLaws.{none_exactly, every_exactly}
use Rattle.region.specs.Sound.{region_no}
use Rattle.region.specs.Overlap.{overlaps}
use Rattle.table.specs.declared.Table.{Table}
use Rattle.table.specs.Numbers.{parts}
use Rattle.table.specs.Table.{slot_entry}
use Rattle.table.specs.Entries.{range_of, is_unsound, meets}
use Rattle.table.specs.Lawful.{clash_at, lawful_part, lawful, Lawful}

module _ (n : ℕ) (t : Table) (p : ℕ) where
  no_unsound : (some (λ s. is_unsound (slot_entry n t p s)) 0 n ≡ false) ↔ ((s : ℕ) → s < n → (slot_entry n t p s).enabled ≡ true → region_no (slot_entry n t p s).base (slot_entry n t p s).size ≡ 0)
  no_unsound =
      let none = none_exactly (λ s. is_unsound (slot_entry n t p s)) {i = 0} {m = n} zero-le in
      (λ e s h on. eqb-true _ _ (not-false _ (unless.0 (none.0 e s zero-le h) on)), λ f. none.1 (λ s l h. unless.1 (λ on. ap not (eq-eqb _ _ (f s h on)))))

  no_clash : (some (clash_at n t p) 0 n ≡ false) ↔ ((i j : ℕ) → i < j → j < n → (slot_entry n t p i).enabled ≡ true → (slot_entry n t p j).enabled ≡ true → overlaps (range_of (slot_entry n t p i)) (range_of (slot_entry n t p j)) ≡ false)
  unfolding clash_at
  no_clash =
      let none = none_exactly (clash_at n t p) {i = 0} {m = n} zero-le in (
        λ e i j h k a b. unless.0 ((later i (omega arith)).0 (unless.0 (none.0 e i zero-le (omega arith)) a) j (omega arith) k) b,
        λ f. none.1 (λ i l h. unless.1 (λ a. (later i h).1 (λ j u k. unless.1 (λ b. f i j (omega arith) k a b)))),
      )
    where
      later : (i : ℕ) → i < n → (some (λ j. meets (range_of (slot_entry n t p i)) (slot_entry n t p j)) (i + 1) n ≡ false) ↔ ((j : ℕ) → i + 1 ≤ j → j < n → meets (range_of (slot_entry n t p i)) (slot_entry n t p j) ≡ false)
      later i h = none_exactly (λ j. meets (range_of (slot_entry n t p i)) (slot_entry n t p j)) {i = i + 1} {m = n} (omega arith)

  pub part_lawful : (lawful_part n t p ≡ true) ↔ Lawful n t p
  unfolding lawful_part
  part_lawful =
      let u = not (some (λ s. is_unsound (slot_entry n t p s)) 0 n) in
      let c = not (some (clash_at n t p) 0 n) in (
        λ e. record { sound = no_unsound.0 (not-true _ (and_left u c e)); disjoint = no_clash.0 (not-true _ (and_right u c e)) },
        λ l. both (ap not (no_unsound.1 l.sound)) (ap not (no_clash.1 l.disjoint)),
      )

pub lawful_exactly : (n : ℕ) (t : Table) → (lawful n t ≡ true) ↔ ((p : ℕ) → p < parts → Lawful n t p)
unfolding lawful
lawful_exactly n t =
    let all = every_exactly (lawful_part n t) {i = 0} {m = parts} zero-le in
    (λ e p h. (part_lawful n t p).0 (all.0 e p zero-le h), λ f. all.1 (λ p l h. (part_lawful n t p).1 (f p h)))
