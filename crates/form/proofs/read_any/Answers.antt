-- A form is the bytes up to the next newline; where the line has it, it is chosen, and else the choice is among those behind it. Assumes nothing.
use mathlib.Core.Path.{sym, ◌∙◌}
use native.Mathlib.Omega.{arith}
use Rattle.form.proofs.ChoiceLaws.{newline_within, form_found, form_next, form_end}
use Rattle.form.proofs.read_any.Goals as goal

pub returns-in-Some-read_whole : goal.returns-in-Some-read_whole
returns-in-Some-read_whole c = sym (c.loop-end.invariant.left ∙ form_found _ _ _ _ c.in-Some.ensures c.in-Some-read_whole.ensures)

pub loop-end-preserved : goal.loop-end-preserved
loop-end-preserved c =
    let v = c.loop-end.invariant in
    let w = newline_within _ _ c.in-Some.ensures in
    record { passed = omega (arith, v.passed, w.0); within = omega (arith, w.1); left = v.left ∙ form_next _ _ _ _ c.in-Some.ensures c.in_default-read_whole.ensures }

pub returns : goal.returns
returns c = sym (c.loop-end.invariant.left ∙ form_end _ _ _ _ c.loop-end.invariant.within c.in_default.ensures)
