-- One more request gives one more number, and the table after it. Assumes nothing.
use native.Mathlib.Omega.{arith}
use borrow.Author.Rules.{rules}
use Rattle.exports.proofs.FilledLaws.{filled_none, filled_next}
use Rattle.exports.proofs.AfterLaws.{table_none, table_next}
use Rattle.exports.proofs.fill_many.Goals as goal

pub loop-i-init : goal.loop-i-init
loop-i-init c = (filled_none, search (rules, table_none))

pub loop-i-preserved : goal.loop-i-preserved
loop-i-preserved c = (filled_next c.loop-i.invariant.0 (omega arith) (search rules), search (rules, table_next))
