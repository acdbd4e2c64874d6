-- Beyond the last place an empty entry, else what the four arrays hold there. Assumes nothing.
use borrow.Author.Tests.{lt-ltb, le-ltb}
use Rattle.table.specs.Table.{cell_answer}
use Rattle.table.proofs.EntryLaws.{blank}
use Rattle.table.proofs.Table.cell.Goals as goal

pub returns-then-i-ge-CELLS : goal.returns-then-i-ge-CELLS
unfolding cell_answer
returns-then-i-ge-CELLS c = rw (le-ltb _ _ c.if-i-ge-CELLS.true) (blank _ c.default.ensures)

pub returns : goal.returns
unfolding cell_answer
returns c = rw (lt-ltb _ _ c.if-i-ge-CELLS.false) c.entry_at.ensures
