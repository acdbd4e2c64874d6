-- The slice has the answers so far.
use Rattle.exports.specs.Many.{case_at}
use Rattle.exports.proofs.FilledLaws.{Filled}
use Rattle.exports.proofs.decide_many.Given as goal

abbrev pub invariant-loop-i : goal.invariant-loop-i
invariant-loop-i l = Filled (case_at l.mpu l.asks) l.initial.cases l.cases l.i
