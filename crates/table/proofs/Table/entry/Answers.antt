-- Within both bounds the slot's entry, else an empty one. Assumes nothing.
use borrow.Author.Tests.{lt-ltb, le-ltb}
use Rattle.table.specs.Table.{entry_answer}
use Rattle.table.proofs.EntryLaws.{blank}
use Rattle.table.proofs.Table.entry.Goals as goal

pub returns-then-number-ge-PARTS : goal.returns-then-number-ge-PARTS
unfolding entry_answer
returns-then-number-ge-PARTS c =
    let n = c.number in
    rw (le-ltb _ _ (rw n.ensures at c.if-number-ge-PARTS.true)) (blank _ c.default.ensures)

pub returns-then-number-ge-SLOTS : goal.returns-then-number-ge-SLOTS
unfolding entry_answer
returns-then-number-ge-SLOTS c =
    rw (lt-ltb _ _ (rw c.number.ensures at c.if-number-ge-PARTS.false), le-ltb _ _ (rw c.number-2.ensures at c.if-number-ge-SLOTS.true)) (blank _ c.default-then-number-ge-SLOTS.ensures)

pub returns : goal.returns
unfolding entry_answer
returns c =
    rw (lt-ltb _ _ (rw c.number.ensures at c.if-number-ge-PARTS.false), lt-ltb _ _ (rw c.number-2.ensures at c.if-number-ge-SLOTS.false)) c.peek.ensures
