-- The whole reading is what is left of it: by the bytes of the form from the next on, after what was read before them. Assumes nothing.
use mathlib.Core.Path.{sym, ◌∙◌}
use Rattle.form.proofs.FormLaws.{formed_next, formed_stops, formed_end}
use Rattle.form.proofs.read_form.Goals as goal

pub returns-in_err-f : goal.returns-in_err-f
returns-in_err-f c = c.from_residual.ensures ∙ sym (c.loop-c.invariant ∙ formed_stops _ _ _ c.loop-c-test.true (sym c.in_err-f.ensures))

pub loop-c-preserved : goal.loop-c-preserved
loop-c-preserved c = c.loop-c.invariant ∙ formed_next _ _ _ _ c.loop-c-test.true (sym c.in_ok-f.ensures)

pub returns : goal.returns
returns c = sym (c.loop-c.invariant ∙ formed_end _ _ _ c.loop-c-test.false)
