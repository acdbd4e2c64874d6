-- Every slot from the first one looked at up to s fails the test, so the lowest that passes is among those that are left.
use mathlib.Core.Path.{◌≡◌}
use mathlib.Core.Bool.{Bool}
use Rattle.laws.specs.Search.{lowest}
use Rattle.table.specs.declared.Entry.{Entry}
use Rattle.table.specs.Numbers.{slots}
use Rattle.table.specs.Entries.{slot_asked, Computes}
use Rattle.table.proofs.Table.first_slot.Given as goal

abbrev pub invariant-loop-s : goal.invariant-loop-s
invariant-loop-s g l =
    (f : Entry → Bool) → Computes (goal.F-post g l.test) f → lowest (slot_asked slots l.self l.p.0 f) l.initial.s slots ≡ lowest (slot_asked slots l.self l.p.0 f) l.s slots
