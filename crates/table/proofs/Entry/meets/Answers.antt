-- An enabled entry meets what its range overlaps. Written out, so that a wrong test fails here by this fact, and not at a limit of the search.
-- Assumes nothing.
use mathlib.Core.Path.{sym, ap}
use mathlib.Core.Bool.{Bool, ◌&&◌}
use Rattle.region.specs.Overlap.{overlaps}
use Rattle.table.specs.Entries.{range_of}
use Rattle.table.proofs.Entry.meets.Goals as goal

pub returns-then-self : goal.returns-then-self
returns-then-self c =
    rw (c.ranges_meet.ensures, c.from.ensures)
    (ap (λ (b : Bool). b && overlaps c.args.r (range_of c.args.self)) (sym c.if-self.true))
