-- The deciding slot is the highest that matches: the laws of the walk down say what it finds, and that there is one such slot. Assumes nothing.
use mathlib.Core.Path.{◌≡◌, ◌∙◌, ap}
use mathlib.Core.Bool.{true, false}
use mathlib.Core.Logic.{◌↔◌}
use mathlib.Core.List.{List}
use Prim.Native.Nat.{ℕ, suc, ◌-◌, ◌<◌, zero-le}
use native.Mathlib.Omega.{arith}
use Rattle.laws.specs.Search.{Greatest}
use Rattle.laws.proofs.SearchLaws.{highest_greatest, greatest_one}
use Rattle.device.specs.declared.Pair.{Pair}
use Rattle.device.specs.Registers.{slot_at}
use Rattle.device.specs.Decision.{matches, matches_at, deciding}

-- slot k of n is the highest that matches the byte x
pub record Decides (ss : List Pair) (x n k : ℕ) : Type 0 where
  pub within : k < n
  pub matching : matches x (slot_at ss k) ≡ true
  pub none : (j : ℕ) → k < j → j < n → matches x (slot_at ss j) ≡ false

module _ (ss : List Pair) (x n : ℕ) where
  found : Greatest (matches_at ss x) n (deciding n ss x)
  found = highest_greatest (matches_at ss x) n

  pub decides_exactly : (k : ℕ) → Decides ss x n k ↔ (deciding n ss x ≡ suc k)
  decides_exactly k = (λ d. greatest_one (matches_at ss x) found (greatest d), λ e. decides (rw e at found))
    where
      less : suc k - 1 ≡ k
      less = omega arith

      greatest : Decides ss x n k → Greatest (matches_at ss x) n (suc k)
      greatest d = record { within = d.within; passes = λ h. ap (matches_at ss x) less ∙ d.matching; none = d.none }

      decides : Greatest (matches_at ss x) n (suc k) → Decides ss x n k
      decides g = record { within = g.within; matching = rw less at (g.passes (omega arith)); none = g.none }

  pub undecided_exactly : ((k : ℕ) → k < n → matches x (slot_at ss k) ≡ false) ↔ (deciding n ss x ≡ 0)
  undecided_exactly = (
    λ h. greatest_one (matches_at ss x) found (record { within = zero-le; passes = λ l. absurd (omega arith); none = λ k l u. h k u }),
    λ e k l. found.none k (omega arith) l,
  )
