-- The worked values hold, and none is refused: computed. Assumes nothing.
use mathlib.Core.Path.{◌≡◌, refl}
use mathlib.Core.Bool.{true, ◌&&◌}
use lib.Dec.{eqb}
use Rattle.laws.specs.Cases.{holds}
use Rattle.laws.specs.Search.{first, lowest}
use Rattle.laws.specs.Power.{log2, is_pow2}
use Rattle.fields.specs.Fields.{size_field, rasr, sizing, rasr_answer}
use Rattle.fields.specs.Worked.{cases}

worked : holds (λ c. eqb (rasr_answer c.encoded).no 0 && eqb (rasr_answer c.encoded).value c.due) cases ≡ true
unfolding rasr_answer rasr sizing size_field is_pow2 log2 lowest first
worked = refl
