-- What the search for a pair finds: lowest i, then lowest j. Both searches are `lowest`, so its laws answer: what is found is the first pair,
-- only one pair is first, and none is found exactly if no pair passes. Assumes nothing.
use mathlib.Core.Path.{◌≡◌, sym, ◌∙◌, ap, subst}
use mathlib.Core.Bool.{Bool, true, false, true≢false}
use mathlib.Core.Logic.{◌↔◌}
use Prim.Native.Nat.{ℕ, ◌+◌, ◌<◌, zero-le}
use native.Mathlib.Omega.{arith}
use borrow.Author.Tests.{ltb-true, lt-ltb, le-ltb}
use Rattle.laws.specs.Search.{lowest, some, paired, pair_low, pair_high, Least, FirstPair}
use Rattle.laws.proofs.SearchLaws.{lowest_here, lowest_next, lowest_least, least_one, none_exactly}

-- ---- how the two loops take the search on: `left` says that the pairs of the places before i are passed
module _ (f : ℕ → ℕ → Bool) (n : ℕ) {i : ℕ} (left : pair_low f n ≡ lowest (paired f n) i n) (h : i < n) where
  pub pair_here : {j : ℕ} → lowest (f i) (i + 1) n ≡ j → j < n → (pair_low f n ≡ i) × (pair_high f n ≡ j)
  pair_here {j} e k = (low, ap (λ (x : ℕ). lowest (f x) (x + 1) n) low ∙ e)
    where
      low : pair_low f n ≡ i
      low = left ∙ lowest_here (paired f n) h (lt-ltb (lowest (f i) (i + 1) n) n (omega (arith, e, k)))

  pub pair_next : lowest (f i) (i + 1) n ≡ n → pair_low f n ≡ lowest (paired f n) (i + 1) n
  pair_next e = left ∙ lowest_next (paired f n) h (le-ltb (lowest (f i) (i + 1) n) n (omega (arith, e)))

-- ---- what is found
module _ (f : ℕ → ℕ → Bool) (n : ℕ) where
  -- no place after a is paired with a
  alone : (a : ℕ) → paired f n a ≡ false → (b : ℕ) → a < b → b < n → f a b ≡ false
  alone a e b h k = (none_exactly (f a) {i = a + 1} {m = n} (omega arith)).0 e b (omega arith) k

  pub no_pair : (some (paired f n) 0 n ≡ false) ↔ ((a b : ℕ) → a < b → b < n → f a b ≡ false)
  no_pair = (
    λ e a b h k. alone a ((none_exactly (paired f n) zero-le).0 e a zero-le (omega arith)) b h k,
    λ apart. (none_exactly (paired f n) zero-le).1 (λ a l h. (none_exactly (f a) {i = a + 1} {m = n} (omega arith)).1 (λ b p k. apart a b (omega arith) k)),
  )

  pub pair_first : some (paired f n) 0 n ≡ true → FirstPair f n (pair_low f n) (pair_high f n)
  pair_first e =
      record { ordered = omega (arith, second.from); within = high; passes = second.passes high; earlier = λ a b h. alone a (low.none a zero-le h) b; nearer = λ b h k. second.none b (omega arith) k }
    where
      low : Least (paired f n) 0 n (pair_low f n)
      low = lowest_least (paired f n) zero-le

      here : pair_low f n < n
      here = ltb-true _ _ e

      second : Least (f (pair_low f n)) (pair_low f n + 1) n (pair_high f n)
      second = lowest_least (f (pair_low f n)) (omega (arith, here))

      high : pair_high f n < n
      high = ltb-true _ _ (low.passes here)

-- a first pair is the one found: no pair has a lower place than it, and it passes
pub first_pair_one : (f : ℕ → ℕ → Bool) {n i j a b : ℕ} → FirstPair f n i j → FirstPair f n a b → (i ≡ a) × (j ≡ b)
first_pair_one f {n} {i} {j} {a} {b} p q = (one, two)
  where
    not_before : {i j a b : ℕ} → FirstPair f n i j → FirstPair f n a b → i < a → ⊥
    not_before {i} {j} p q h = true≢false (sym p.passes ∙ q.earlier i j h p.ordered p.within)

    one : i ≡ a
    one =
        let l : ¬ (i < a) = not_before p q in
        let r : ¬ (a < i) = not_before q p in
        omega arith

    least : {i j : ℕ} → FirstPair f n i j → Least (f i) (i + 1) n j
    least p = record { from = omega arith; within = omega arith; passes = λ h. p.passes; none = λ k l h. p.nearer k (omega arith) h }

    two : j ≡ b
    two = least_one (f a) (subst (λ (x : ℕ). Least (f x) (x + 1) n j) one (least p)) (least q)
