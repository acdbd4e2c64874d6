-- What SIZE means. An accepted size is 2 ^ k with k from 5 to 31, so its logarithm is k and SIZE is k - 1. Assumes nothing.
use mathlib.Core.Path.{◌≡◌, refl, sym, ◌∙◌, ap, subst}
use mathlib.Core.Bool.{Bool, true, false, not}
use mathlib.Core.Logic.Iff
use mathlib.Core.Logic.{◌↔◌}
use Prim.Native.Nat.{ℕ, ◌+◌, ◌-◌, ◌^◌, ◌≤◌, ◌<◌, zero-le}
use native.Mathlib.Nat.{le_of_lt}
use native.Mathlib.Omega.{arith}
use borrow.Author.Tests.{ltb-false, le-ltb, ne_eqb, not-false}
use lib.Dec.{eqb, ltb, lit<}
use lib.Pow.{pow_mono, pow-lt}
use Rattle.laws.specs.Power.{log2, Pow2}
use Rattle.laws.proofs.RefuseLaws.{accepted, given}
use Rattle.laws.specs.Pick.{pick}
use Rattle.laws.proofs.SearchLaws.{lowest_least}
use Rattle.laws.proofs.PowerLaws.{log2-pow, pow_below, pow2_exactly}
use Rattle.region.specs.Sound.{min_region_size}
use Rattle.region.proofs.SoundLaws.{why_2, why_3}
use Rattle.fields.specs.Fields.{size_field, sizing, size_answer}

-- ---- each number exactly when stated
module _ (size : ℕ) (word : size < 2 ^ 32) where
  pub size_accepted : ((size_answer size).no ≡ 0) ↔ (Pow2 size × (min_region_size ≤ size))
  unfolding size_answer sizing
  size_accepted =
      let power = pow2_exactly size word in
      Iff.trans (accepted (sizing size) refl)
      (λ q. (power.0 (not-false _ q.0), ltb-false _ _ q.1.0), λ s. (ap not (power.1 s.0), (le-ltb _ _ s.1, tt)))

  pub size_refused_2 : ((size_answer size).no ≡ 2) ↔ ¬ Pow2 size
  unfolding size_answer sizing
  size_refused_2 = Iff.trans (given (sizing size) refl refl 0 (lit< tt)) (why_2 size word)

  pub size_refused_3 : ((size_answer size).no ≡ 3) ↔ (Pow2 size × (size < min_region_size))
  unfolding size_answer sizing
  size_refused_3 = Iff.trans (given (sizing size) refl refl 1 (lit< tt)) (why_3 size word)

-- ---- the value beside the number
pub size_value : (size : ℕ) → (size_answer size).no ≡ 0 → (size_answer size).value ≡ size_field size
unfolding size_answer sizing
size_value size e = rw e

pub size_refused_value : (size : ℕ) → ¬ ((size_answer size).no ≡ 0) → (size_answer size).value ≡ 0
unfolding size_answer sizing
size_refused_value size h = rw (ne_eqb (size_answer size).no 0 h)

-- any answer, refused or not, fits its five bits
pub size_most : (size : ℕ) → (size_answer size).value ≤ 31
unfolding size_answer sizing size_field log2
size_most size = by (eqb (size_answer size).no 0)
  where
    by : (b : Bool) → pick b (size_field size) 0 ≤ 31
    by true = omega (arith, (lowest_least (λ (k : ℕ). ltb size (2 ^ (k + 1))) {i = 0} {m = 32} zero-le).within)
    by false = zero-le

-- ---- SIZE and the size determine each other
pub size_of_power : (f : ℕ) → f < 32 → size_field (2 ^ (f + 1)) ≡ f
unfolding size_field
size_of_power f h = rw (log2-pow (f + 1) (omega arith)) (omega arith)

-- an accepted size is 2 ^ (f + 1) with f from 4 to 30, and that f is its SIZE
pub record Sized (size : ℕ) : Type 0 where
  pub power : 2 ^ (size_field size + 1) ≡ size
  pub least : 4 ≤ size_field size
  pub most : size_field size ≤ 30

pub sized : (size : ℕ) → size < 2 ^ 32 → Pow2 size → min_region_size ≤ size → Sized size
unfolding size_field
sized size word p h = record { power = ap (λ (x : ℕ). 2 ^ x) (omega (arith, is, low)) ∙ sym p.1; least = omega (arith, is, low); most = omega (arith, is, high) }
  where
    k : ℕ
    k = p.0

    high : k < 32
    high = pow_below k 32 (subst (λ (n : ℕ). n < 2 ^ 32) p.1 word)

    low : 4 < k
    low = pow_below 4 k (subst (λ (n : ℕ). 16 < n) p.1 (omega arith))

    is : size_field size ≡ k - 1
    is = ap (λ (n : ℕ). log2 n - 1) p.1 ∙ ap (λ (n : ℕ). n - 1) (log2-pow k (le_of_lt high))

pub size_sized : (size : ℕ) → size < 2 ^ 32 → (size_answer size).no ≡ 0 → Sized size
size_sized size word e = let s = (size_accepted size word).0 e in sized size word s.0 s.1

-- each number from 4 to 30 is some size's
pub size_onto : (f : ℕ) → 4 ≤ f → f ≤ 30 → (size : ℕ) × (size < 2 ^ 32) × ((size_answer size).no ≡ 0) × ((size_answer size).value ≡ f)
size_onto f h k = (2 ^ (f + 1), word, ok, size_value (2 ^ (f + 1)) ok ∙ size_of_power f (omega arith))
  where
    word : 2 ^ (f + 1) < 2 ^ 32
    word = pow-lt {i = f + 1} {j = 32} (omega arith)

    ok : (size_answer (2 ^ (f + 1))).no ≡ 0
    ok = (size_accepted (2 ^ (f + 1)) word).1 ((f + 1, refl), pow_mono {i = 5} {j = f + 1} (omega arith))
