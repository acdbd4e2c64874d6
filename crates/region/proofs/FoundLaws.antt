-- What the search for a pair finds, for records that any function gives: no record before i has a later one that it meets. Where record i has one, it is of the
-- first pair; and where no record is left, there is no pair. Assumes nothing.
use mathlib.Core.Path.{◌≡◌, ◌∙◌}
use mathlib.Core.Bool.{true}
use Prim.Native.Nat.{ℕ, ◌+◌, ◌≤◌, ◌<◌}
use native.Mathlib.Nat.{le_antisymm, le_refl}
use borrow.Author.Tests.{lt-ltb, le-ltb}
use Rattle.laws.specs.Search.{lowest, paired, pair_low}
use Rattle.laws.proofs.SearchLaws.{lowest_here, lowest_end}
use Rattle.laws.proofs.PairLaws.{pair_here}
use Rattle.region.specs.declared.Range.{Range}
use Rattle.region.specs.List.{Valid, Pair, meeting, pair_of}

module _ (at : ℕ → Range) {n i : ℕ} (left : pair_low (meeting at) n ≡ lowest (paired (meeting at) n) i n) where
  pub pair_there : i < n → {j : ℕ} → lowest (meeting at i) (i + 1) n ≡ lowest (meeting at i) j n → j < n → meeting at i j ≡ true → Pair i j ≡ pair_of at n
  unfolding pair_of
  pair_there h beside k e =
      let found = pair_here (meeting at) n left h (beside ∙ lowest_here (meeting at _) k e) k in
      rw (found.1, found.0, lt-ltb _ _ h)

  pub pair_end : i ≤ n → n ≤ i → Valid ≡ pair_of at n
  unfolding pair_of
  pair_end h k =
      let low : pair_low (meeting at) n ≡ n = left ∙ lowest_end (paired (meeting at) n) k ∙ le_antisymm h k in
      rw (low, le-ltb n n (le_refl n))
