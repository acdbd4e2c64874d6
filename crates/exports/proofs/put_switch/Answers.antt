-- One more word is stored. Assumes nothing.
use native.Mathlib.Omega.{arith}
use Rattle.exports.proofs.FilledLaws.{filled_next}
use Rattle.exports.proofs.put_switch.Goals as goal

pub loop-k-preserved : goal.loop-k-preserved
loop-k-preserved c = filled_next c.loop-k.invariant (omega arith) c.switch_word.ensures
