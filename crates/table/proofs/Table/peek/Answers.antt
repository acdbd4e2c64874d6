-- The slot's place is the flat index. Assumes nothing.
use mathlib.Core.Path.{◌∙◌, ap}
use Rattle.table.specs.Table.{entry_at, slot_entry}
use Rattle.table.proofs.Table.peek.Goals as goal

pub returns : goal.returns
unfolding slot_entry
returns c = c.entry_at.ensures ∙ ap (entry_at c.args.self.now) c.flat.ensures
