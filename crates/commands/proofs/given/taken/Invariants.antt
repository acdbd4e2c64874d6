-- The form was read as often as places are filled, and each of these is what was made of it there.
use Rattle.std.proofs.Common.{◌≡◌, ◌<◌, ℕ, suc, length, get_or}
use Rattle.form.specs.Form.{form_at}
use Rattle.form.specs.Choice.{times}
use Rattle.commands.proofs.given.taken.Given as goal

abbrev pub invariant-loop-place : goal.invariant-loop-place
invariant-loop-place g l = record {
  long : length l.place-items ≡ l.place-index-end;
  read : l.f ≡ times l.line l.form l.place-index (form_at l.line 0 l.head);
  each : (k : ℕ) (z : _) → k < l.place-index → goal.F-post g l.make (times l.line l.form (suc k) (form_at l.line 0 l.head)) (get_or l.place-items k z);
}
