-- Every built table is whole and lawful, and its enabled slots come first: the empty one is, and adding keeps it so. Assumes nothing.
use mathlib.Core.Path.{◌≡◌, refl, sym, ◌∙◌, ap}
use mathlib.Core.Bool.{true, false, true≢false}
use Prim.Native.Nat.{ℕ, zero, suc, ◌*◌, ◌<◌}
use native.Mathlib.Decide.{ℕ_discrete}
use native.Mathlib.Omega.{arith}
use lib.ListN.{get_or, replicate}
use Rattle.laws.proofs.BoolLaws.{fails_unless}
use Rattle.table.specs.declared.Table.{Table}
use Rattle.table.specs.declared.Entry.{Entry}
use Rattle.table.specs.declared.Request.{Request}
use Rattle.table.specs.Numbers.{parts, flat_index}
use Rattle.table.specs.Table.{empty_table, slot_entry}
use Rattle.table.specs.Whole.{Whole}
use Rattle.table.specs.Lawful.{lawful}
use Rattle.table.specs.Covers.{covers}
use Rattle.table.specs.Builder.{try_add, Grants}
use Rattle.table.specs.Built.{Built, empty, add, Packed}
use Rattle.table.proofs.EntryLaws.{empty_whole}
use Rattle.table.proofs.LawfulLaws.{lawful_exactly}
use Rattle.table.proofs.CoversLaws.{covers_exactly}
use Rattle.table.proofs.AddLaws.{refused_same, grants}
use Rattle.table.proofs.KeepLaws.{add_whole, add_lawful, grants_elsewhere}

-- ---- the empty table: nothing is enabled
all_false : (m i : ℕ) → get_or (replicate m false) i false ≡ false
all_false zero i = refl
all_false (suc m) zero = refl
all_false (suc m) (suc i) = all_false m i

pub empty_free : (n p s : ℕ) → (slot_entry n (empty_table n) p s).enabled ≡ false
unfolding slot_entry
empty_free n p s = all_false (parts * n) (flat_index n p s)

pub empty_lawful : (n : ℕ) → lawful n (empty_table n) ≡ true
empty_lawful n =
    (lawful_exactly n (empty_table n)).1
    (λ p h.
    record { sound = λ s k on. absurd (true≢false (sym on ∙ empty_free n p s)); disjoint = λ i j k m a b. absurd (true≢false (sym a ∙ empty_free n p i)) })

pub empty_covers : (n p a : ℕ) → covers n (empty_table n) p a ≡ false
empty_covers n p a = fails_unless (λ e. let w = (covers_exactly n (empty_table n) p a).0 e in true≢false (sym w.2.on ∙ empty_free n p w.0))

-- ---- every built table
pub built_whole : {n : ℕ} {t : Table} → Built n t → Whole n t
built_whole {n} empty = empty_whole n
built_whole {n} (add {t} b p q) = add_whole n t p q (built_whole b)

pub built_lawful : {n : ℕ} {t : Table} → Built n t → lawful n t ≡ true
built_lawful {n} empty = empty_lawful n
built_lawful {n} (add {t} b p q) = add_lawful n t p q (built_whole b) (built_lawful b)

-- a free slot is taken only when all before it are enabled, so no enabled slot follows a free one
module _ (n : ℕ) (t : Table) (r : ℕ) (q : Request) (u : Table) (g : Grants n t r q u) where
  taken : (p s : ℕ) → p ≡ r → s ≡ g.slot → (slot_entry n u p s).enabled ≡ true
  taken p s d e = rw (d, e, g.entry)

  kept : (p s : ℕ) → s < n → ¬ ((p ≡ r) × (s ≡ g.slot)) → (slot_entry n u p s).enabled ≡ (slot_entry n t p s).enabled
  kept p s h d = ap (λ (e : Entry). e.enabled) (grants_elsewhere n t r q u g p s h d)

  grants_packed : ((p : ℕ) → Packed n t p) → (p : ℕ) → Packed n u p
  grants_packed old p i j h k on = by (ℕ_discrete p r) (ℕ_discrete i g.slot) (ℕ_discrete j g.slot)
    where
      before : i < n
      before = omega (arith, h, k)

      by : Dec (p ≡ r) → Dec (i ≡ g.slot) → Dec (j ≡ g.slot) → (slot_entry n u p i).enabled ≡ true
      by (no d) x y = kept p i before (λ e. d e.0) ∙ old p i j h k (sym (kept p j k (λ e. d e.0)) ∙ on)
      by (yes d) (yes x) y = taken p i d x
      by (yes d) (no x) (yes y) = kept p i before (λ e. x e.1) ∙ rw d (g.lowest i (omega (arith, h, y)))
      by (yes d) (no x) (no y) = kept p i before (λ e. x e.1) ∙ old p i j h k (sym (kept p j k (λ e. y e.1)) ∙ on)

add_packed : (n : ℕ) (t : Table) (r : ℕ) (q : Request) → Whole n t → ((p : ℕ) → Packed n t p) → (p : ℕ) → Packed n (try_add n t r q).table p
add_packed n t r q w old = by (ℕ_discrete (try_add n t r q).no 0)
  where
    by : Dec ((try_add n t r q).no ≡ 0) → (p : ℕ) → Packed n (try_add n t r q).table p
    by (yes e) = grants_packed n t r q (try_add n t r q).table (grants n t r q w e) old
    by (no d) = rw (refused_same n t r q d) old

pub built_packed : {n : ℕ} {t : Table} → Built n t → (p : ℕ) → Packed n t p
built_packed {n} empty = λ p i j h k on. absurd (true≢false (sym on ∙ empty_free n p j))
built_packed {n} (add {t} b r q) = add_packed n t r q (built_whole b) (built_packed b)
