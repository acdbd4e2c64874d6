-- Record i meets none of the records before j, and no pair has its first record before i.
use mathlib.Core.Path.{◌≡◌}
use Prim.Native.Nat.{◌+◌}
use Rattle.laws.specs.Search.{lowest, paired, pair_low}
use Rattle.region.specs.List.{meeting}
use Rattle.region.proofs.lists.first_pair.Given as goal

abbrev pub invariant-loop-j : goal.invariant-loop-j
invariant-loop-j g l =
    let meets = meeting (g.L.RegionList.range_at l.list) l.i in lowest meets (l.i + 1) l.n ≡ lowest meets l.j l.n

abbrev pub invariant-loop-i : goal.invariant-loop-i
invariant-loop-i g l =
    let meets = meeting (g.L.RegionList.range_at l.list) in pair_low meets l.n ≡ lowest (paired meets l.n) l.i l.n
