-- The form was read n times over, and the line goes on after each time before.
use mathlib.Core.Path.{◌≡◌}
use Rattle.laws.specs.Search.{lowest}
use Rattle.form.specs.Form.{form_at}
use Rattle.form.specs.Choice.{times, follows}
use Rattle.form.proofs.count_repeats.Given as goal

abbrev pub invariant-loop-n : goal.invariant-loop-n
invariant-loop-n l =
    record {
      read : l.f ≡ times l.line l.form l.n (form_at l.line 0 l.head);
      left : lowest (follows l.line l.head l.form) 0 l.m ≡ lowest (follows l.line l.head l.form) l.n l.m;
    }
