-- One more answer is stored. Assumes nothing.
use native.Mathlib.Omega.{arith}
use borrow.Author.Rules.{rules}
use Rattle.exports.proofs.FilledLaws.{filled_next}
use Rattle.exports.proofs.decide_many.Goals as goal

pub loop-i-preserved : goal.loop-i-preserved
loop-i-preserved c = filled_next c.loop-i.invariant (omega arith) (search rules)
