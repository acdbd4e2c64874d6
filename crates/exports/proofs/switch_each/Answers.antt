-- One more switch gives one more number, and the switch after it. Assumes nothing.
use native.Mathlib.Omega.{arith}
use borrow.Author.Rules.{rules}
use Rattle.exports.proofs.FilledLaws.{filled_none, filled_next}
use Rattle.exports.proofs.AfterLaws.{switch_none, switch_next}
use Rattle.exports.proofs.switch_each.Goals as goal

pub loop-i-init : goal.loop-i-init
loop-i-init c = (filled_none, search (rules, switch_none))

pub loop-i-preserved : goal.loop-i-preserved
loop-i-preserved c = (filled_next c.loop-i.invariant.0 (omega arith) (search rules), search (rules, switch_next))
