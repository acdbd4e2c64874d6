-- The first newline of what is left, counted from the place. Assumes nothing.
use mathlib.Core.Path.{sym, ◌∙◌}
use Rattle.text.proofs.NewlineLaws.{newline_position}
use Rattle.text.proofs.line_end.Goals as goal

pub returns-in_err-i : goal.returns-in_err-i
returns-in_err-i c =
    let there = c.in_ok-get.ensures.lookup.0 in
    c.from_residual-in_err-i.ensures ∙ newline_position _ _ _ _ there.0 there.2 (sym c.in_err-i.was ∙ c.first_newline.ensures)

pub returns : goal.returns
returns c =
    let there = c.in_ok-get.ensures.lookup.0 in
    newline_position _ _ _ _ there.0 there.2 (sym c.in_ok-i.was ∙ c.first_newline.ensures)
