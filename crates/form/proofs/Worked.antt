-- The worked cases hold: computed. Assumes nothing.
use mathlib.Core.Path.{◌≡◌, refl}
use mathlib.Core.Bool.{true}
use Rattle.laws.specs.Cases.{holds}
use Rattle.laws.specs.Search.{first, lowest}
use Rattle.text.specs.Digits.{run}
use Rattle.text.specs.Read.{begins, number_at}
use Rattle.text.specs.Worked.{same}
use Rattle.form.specs.Form.{value_at, kept, read_on, formed}
use Rattle.form.specs.Choice.{lines_from, first_of, onward, times, repeats}
use Rattle.form.specs.Worked.{cases, choices}

worked : holds (λ c. same c.got c.due) cases ≡ true
unfolding run begins number_at value_at kept read_on formed
worked = refl

chosen_worked : holds (λ c. same c.got c.due) choices ≡ true
unfolding first lowest run begins number_at value_at kept read_on formed lines_from first_of onward times repeats
chosen_worked = refl
