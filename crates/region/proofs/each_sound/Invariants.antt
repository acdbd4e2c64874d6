-- No record before i is unsound, so the records that are left decide.
use mathlib.Core.Path.{◌≡◌}
use Rattle.laws.specs.Search.{lowest}
use mathlib.Core.List.{map}
use Rattle.region.specs.List.{unsound, culprit, range_at}
use Rattle.region.proofs.each_sound.Given as goal

abbrev pub invariant-loop-i : goal.invariant-loop-i
invariant-loop-i g l =
    let at = range_at (map g.R.Record.range_of l.list) in culprit at l.n ≡ lowest (unsound at) l.i-counter l.n
