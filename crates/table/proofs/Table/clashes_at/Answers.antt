-- An entry that is enabled clashes exactly if a later one meets its range. Assumes nothing.
use mathlib.Core.Path.{sym}
use Rattle.std.proofs.Common.{rules}
use Rattle.table.specs.Entries.{meets}
use Rattle.table.specs.Lawful.{clash_at}
use Rattle.table.proofs.Table.clashes_at.Goals as goal

pub returns-then-e : goal.returns-then-e
unfolding clash_at
returns-then-e c =
    rw (sym c.peek-e.ensures, c.if-e.true, c.some_slot.ensures (meets c.from-r.result) (λ e b k. search rules), c.from-r.ensures, c.number.ensures)

pub returns-else-e : goal.returns-else-e
unfolding clash_at
returns-else-e c = rw (sym c.peek-e.ensures, c.if-e.false)
