-- The bytes of the form that are left, after what was read, give the whole reading.
use mathlib.Core.Path.{◌≡◌}
use lib.ListN.{drop}
use Rattle.form.specs.Form.{formed, form_at}
use Rattle.form.proofs.read_form.Given as goal

abbrev pub invariant-loop-c : goal.invariant-loop-c
invariant-loop-c l = form_at l.bytes l.at l.form ≡ formed l.bytes l.f (drop l.c-index l.form)
