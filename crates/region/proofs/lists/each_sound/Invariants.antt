-- No record before i is unsound, so the records that are left decide.
use mathlib.Core.Path.{◌≡◌}
use Rattle.laws.specs.Search.{lowest}
use Rattle.region.specs.List.{unsound, culprit}
use Rattle.region.proofs.lists.each_sound.Given as goal

abbrev pub invariant-loop-i : goal.invariant-loop-i
invariant-loop-i g l =
    let at = g.L.RegionList.range_at l.list in culprit at l.n ≡ lowest (unsound at) l.i-counter l.n
