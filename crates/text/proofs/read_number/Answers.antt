-- The tests of the definition, in its order. Assumes nothing.
use mathlib.Core.Path.{sym, ◌∙◌}
use mathlib.Core.Bool.{true, false}
use Rattle.text.proofs.NumberLaws.{number_run}
use Rattle.text.proofs.read_number.Goals as goal

pub returns-then-not-begins_number : goal.returns-then-not-begins_number
returns-then-not-begins_number c =
    number_run _ _ _ false c.in_ok-get.ensures.lookup.0.2 (sym c.if-not-begins_number.true ∙ c.begins_number.ensures)

pub returns : goal.returns
returns c = c.sized_number.ensures ∙ number_run _ _ _ true c.in_ok-get.ensures.lookup.0.2 (sym c.if-not-begins_number.false ∙ c.begins_number.ensures)
