-- Powers of two among the numbers of 32 bits.
--   log2 n    == the k with 2 ^ k ≤ n < 2 ^ (k + 1); 0 for 0
--   is_pow2 n == n is 2 ^ k for some k: for its own logarithm, then
--   Pow2 n    == the same, as a fact
use Rattle.std.specs.Prelude.{◌≡◌, Bool, ℕ, ◌+◌, ◌^◌, ltb, eqb}
use Rattle.laws.specs.Search.{lowest}

unfoldable pub log2 : ℕ → ℕ
log2 n = lowest (λ k. ltb n (2 ^ (k + 1))) 0 32

unfoldable pub is_pow2 : ℕ → Bool
is_pow2 n = eqb (2 ^ log2 n) n

abbrev pub Pow2 : ℕ → Type 0
Pow2 n = (k : ℕ) × (n ≡ 2 ^ k)
