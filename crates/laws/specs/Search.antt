-- Bounded search, in the direction in which a loop walks. A place passes a test f where f holds of it.
--   lowest f i m                == the lowest place from i on, below m, that passes f; m where none does (for i up to m)
--   highest f n                 == one more than the highest place below n that passes f; 0 where none does
--   some f i m                  == some place from i on, below m, passes f
--   every f i m                 == every place from i on, below m, passes f
--   pair_low f n, pair_high f n == the first pair i < j below n with f i j: the lowest i, then the lowest j
-- What is found, as facts:
--   Least f i m r, Greatest f n r, FirstPair f n i j
use Rattle.std.specs.Prelude.{◌≡◌, Bool, true, false, not, ℕ, zero, suc, ◌+◌, ◌-◌, ◌≤◌, ◌<◌, ltb}
use Rattle.laws.specs.Pick.{pick}

-- the lowest of the n places from i on; i + n where none passes
unfoldable pub first : (ℕ → Bool) → ℕ → ℕ → ℕ
first f i zero = i
first f i (suc n) = pick (f i) i (first f (suc i) n)

unfoldable pub lowest : (ℕ → Bool) → ℕ → ℕ → ℕ
lowest f i m = first f i (m - i)

unfoldable pub highest : (ℕ → Bool) → ℕ → ℕ
highest f zero = 0
highest f (suc n) = pick (f n) (suc n) (highest f n)

abbrev pub some : (ℕ → Bool) → ℕ → ℕ → Bool
some f i m = ltb (lowest f i m) m

abbrev pub every : (ℕ → Bool) → ℕ → ℕ → Bool
every f i m = not (some (λ k. not (f k)) i m)

-- some place after i is paired with i
abbrev pub paired : (ℕ → ℕ → Bool) → ℕ → ℕ → Bool
paired f n i = some (f i) (i + 1) n

abbrev pub pair_low : (ℕ → ℕ → Bool) → ℕ → ℕ
pair_low f n = lowest (paired f n) 0 n

abbrev pub pair_high : (ℕ → ℕ → Bool) → ℕ → ℕ
pair_high f n = lowest (f (pair_low f n)) (pair_low f n + 1) n

-- r is the least place from i on, below m, that passes; m, where none does
pub record Least (f : ℕ → Bool) (i m r : ℕ) : Type 0 where
  pub from : i ≤ r
  pub within : r ≤ m
  pub passes : r < m → f r ≡ true
  pub none : (k : ℕ) → i ≤ k → k < r → f k ≡ false

-- r is one more than the greatest place below n that passes; 0, where none does
pub record Greatest (f : ℕ → Bool) (n r : ℕ) : Type 0 where
  pub within : r ≤ n
  pub passes : 0 < r → f (r - 1) ≡ true
  pub none : (k : ℕ) → r ≤ k → k < n → f k ≡ false

-- i < j below n pass, none before does: no pair with a lower first place, and none of i with a lower second
pub record FirstPair (f : ℕ → ℕ → Bool) (n i j : ℕ) : Type 0 where
  pub ordered : i < j
  pub within : j < n
  pub passes : f i j ≡ true
  pub earlier : (a b : ℕ) → a < i → a < b → b < n → f a b ≡ false
  pub nearer : (b : ℕ) → i < b → b < j → f i b ≡ false
