-- A rule that a computed test finds at every entry of a table holds at each: by going down the table. Assumes nothing.
use mathlib.Core.Path.{◌≡◌, subst}
use mathlib.Core.Bool.{Bool, true}
use mathlib.Core.List.{List, [], ◌∷◌}
use Prim.Native.Nat.{ℕ, zero, suc, ◌+◌, ◌<◌}
use native.Mathlib.Nat.{le_of_suc-le-suc, not-suc-le-zero}
use native.Mathlib.Omega.{arith}
use lib.ListN.{length, get_or}
use Rattle.laws.specs.Rows.{ruled}
use Rattle.laws.proofs.BoolLaws.{and_left, and_right}

module _ (f : ℕ → ℕ → Bool) where
  from : (xs : List ℕ) (i : ℕ) → ruled f i xs ≡ true → (k n : ℕ) → i + k ≡ n → k < length xs → f n (get_or xs k 0) ≡ true
  from [] i t k n e h = absurd (not-suc-le-zero h)
  from (x ∷ xs) i t zero n e h =
      let same : i ≡ n = omega arith in
      subst (λ (m : ℕ). f m x ≡ true) same (and_left (f i x) (ruled f (suc i) xs) t)
  from (x ∷ xs) i t (suc k) n e h =
      from xs (suc i) (and_right (f i x) (ruled f (suc i) xs) t) k n (omega arith) (le_of_suc-le-suc h)

  pub row_rule : (xs : List ℕ) → ruled f 0 xs ≡ true → (k : ℕ) → k < length xs → f k (get_or xs k 0) ≡ true
  row_rule xs t k h = from xs 0 t k k (omega arith) h
