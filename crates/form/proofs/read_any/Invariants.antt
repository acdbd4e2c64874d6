-- No form before this place fits, so the choice is among the forms that are left. Each form passed has ended in a newline, so that no more are passed than bytes.
use mathlib.Core.Path.{◌≡◌}
use Prim.Native.Nat.{◌-◌, ◌≤◌}
use lib.ListN.{length}
use Rattle.form.specs.Choice.{chosen, first_of}
use Rattle.form.proofs.ChoiceLaws.{forms_left}
use Rattle.form.proofs.read_any.Given as goal

abbrev pub invariant-loop-end : goal.invariant-loop-end
invariant-loop-end l =
    record {
      passed : l.at ≤ l.from;
      within : l.from ≤ length l.forms;
      left : chosen l.line l.forms ≡ first_of l.line l.at (forms_left l.forms l.from);
    }

abbrev pub decreases-loop-end : goal.decreases-loop-end
decreases-loop-end l = length l.forms - l.from
