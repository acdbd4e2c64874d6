-- The value so far and the digits that are left give the value of the run; it is not too large.
use Rattle.text.proofs.RunLaws.{Left}
use Rattle.text.proofs.sized_number.Given as goal

abbrev pub invariant-loop-i : goal.invariant-loop-i
invariant-loop-i l = Left l.b-items l.value l.i
