-- The power is not above a size of 32 bits, so its exponent is below 32. Assumes nothing.
use native.Mathlib.Omega.{arith}
use Rattle.fields.proofs.ReachLaws.{exponent}
use Rattle.fields.proofs.size_of.Goals as goal

pub overflow_add-field : goal.overflow_add-field
overflow_add-field c = omega (arith, exponent _ _ _ c.loop-power.invariant.0 c.loop-power.invariant.1 c.ranges.size.fits)
