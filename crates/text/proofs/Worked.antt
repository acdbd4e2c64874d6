-- The worked cases hold: computed. Assumes nothing.
use mathlib.Core.Path.{◌≡◌, refl}
use mathlib.Core.Bool.{true}
use Rattle.text.specs.Digits.{spelt, digits, run}
use Rattle.text.specs.Put.{put, after}
use Rattle.text.specs.Read.{begins, number_at, word_at, newline_from}
use Rattle.text.specs.Line.{line_text, lines, log_text}
use Rattle.laws.specs.Search.{first, lowest}
use Rattle.laws.specs.Cases.{holds}
use Rattle.text.specs.Worked.{same, cases}

worked : holds (λ c. same c.got c.due) cases ≡ true
unfolding spelt digits run begins number_at line_text lines log_text put after word_at newline_from lowest first
worked = refl
