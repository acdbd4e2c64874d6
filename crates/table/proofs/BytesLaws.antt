-- Lawful, and apart, by the four arrays and in whole numbers: entries of one partition are apart if one ends where the other begins, or before. Assumes nothing.
--   Plain n t p == what lawful asks of a partition, by the places n * p + s of the arrays
use mathlib.Core.Path.{◌≡◌}
use mathlib.Core.Bool.{true, false}
use mathlib.Core.Logic.{◌↔◌, ◌⊎◌}
use Prim.Native.Nat.{ℕ, ◌+◌, ◌*◌, ◌≤◌, ◌<◌}
use lib.ListN.{get_or}
use Rattle.region.specs.Sound.{region_no}
use Rattle.region.proofs.OverlapLaws as region
use Rattle.table.specs.declared.Table.{Table}
use Rattle.table.specs.declared.Request.{Request}
use Rattle.table.specs.Table.{slot_entry}
use Rattle.table.specs.Lawful.{lawful}
use Rattle.table.specs.Builder.{overlaps_any}
use Rattle.table.proofs.LawfulLaws.{lawful_exactly}
use Rattle.table.proofs.AddLaws.{apart_exactly}

module _ (n : ℕ) (t : Table) (p : ℕ) where
  abbrev pub On : ℕ → Type 0
  On s = get_or t.enabled (n * p + s) false ≡ true

  abbrev pub from : ℕ → ℕ
  from s = get_or t.base (n * p + s) 0

  abbrev pub size : ℕ → ℕ
  size s = get_or t.size (n * p + s) 0

pub record Plain (n : ℕ) (t : Table) (p : ℕ) : Type 0 where
  pub sound : (s : ℕ) → s < n → On n t p s → region_no (from n t p s) (size n t p s) ≡ 0
  pub apart : (i j : ℕ) → i < j → j < n → On n t p i → On n t p j → (from n t p j + size n t p j ≤ from n t p i) ⊎ (from n t p i + size n t p i ≤ from n t p j)

pub lawful_bytes : (n : ℕ) (t : Table) → (lawful n t ≡ true) ↔ ((p : ℕ) → p < 4 → Plain n t p)
unfolding slot_entry
lawful_bytes n t = (
  λ e p h. let l = (lawful_exactly n t).0 e p h in record { sound = l.sound; apart = λ i j a b x y. (region.apart_exactly _ _).0 (l.disjoint i j a b x y) },
  λ f. (lawful_exactly n t).1 (λ p h. record { sound = (f p h).sound; disjoint = λ i j a b x y. (region.apart_exactly _ _).1 ((f p h).apart i j a b x y) }),
)

-- the request overlaps no enabled entry of its partition
pub request_bytes : (n : ℕ) (t : Table) (p : ℕ) (q : Request) → (overlaps_any n t p q ≡ false) ↔ ((s : ℕ) → s < n → On n t p s → (from n t p s + size n t p s ≤ q.base) ⊎ (q.base + q.size ≤ from n t p s))
unfolding slot_entry
request_bytes n t p q = (
  λ e s h on. (region.apart_exactly _ _).0 ((apart_exactly n t p q).0 e s h on),
  λ f. (apart_exactly n t p q).1 (λ s h on. (region.apart_exactly _ _).1 (f s h on)),
)
