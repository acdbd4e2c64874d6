-- The power is the one that the field stands for, and it has not passed the size.
use mathlib.Core.Path.{◌≡◌}
use Prim.Native.Nat.{◌+◌, ◌-◌, ◌^◌, ◌≤◌}
use Rattle.fields.proofs.size_of.Given as goal

abbrev pub invariant-loop-power : goal.invariant-loop-power
invariant-loop-power l = (l.power ≡ 2 ^ (l.field + 1)) × (l.power ≤ l.size)

abbrev pub decreases-loop-power : goal.decreases-loop-power
decreases-loop-power l = l.size - l.power
