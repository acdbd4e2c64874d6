-- A line among forms: which of several it has, and how often a form follows another.
--   lines_from part bs       == the lines of the bytes bs, each without its newline, where `part` stands before them; what follows the last newline is none
--   first_of line k forms    == the first of the forms that the line has, the first being counted k, and the line's numbers
--   chosen line text         == the same of the lines of a text, counted from 0
--   times line form n f      == what is read with n times the form, one after the other, f being read before them
--   follows line head form n == the line is the head and then n times the form, and nothing more
--   repeats line head form m == how often the form follows the head, if that is below m; m where the line is none such
use Rattle.std.specs.Prelude.{Bool, false, List, [], ◌∷◌, ◌++◌, ℕ, zero, suc, ◌+◌, eqb, length, Option, Some, None}
use Rattle.laws.specs.Pick.{pick}
use Rattle.laws.specs.Search.{lowest}
use Rattle.text.specs.Read.{◌>>=◌, newline}
use Rattle.form.specs.declared.Formed.{Formed}
use Rattle.form.specs.declared.Chosen.{Chosen}
use Rattle.form.specs.Form.{form_at, form_of}

unfoldable pub lines_from : List ℕ → List ℕ → List (List ℕ)
lines_from part [] = []
lines_from part (b ∷ bs) = pick (eqb b newline) (part ∷ lines_from [] bs) (lines_from (part ++ (b ∷ [])) bs)

-- the form that is there, counted k, and its numbers; else what the others give
abbrev pub or_else : Option Formed → ℕ → Option Chosen → Option Chosen
or_else None k rest = rest
or_else (Some f) k rest = Some (record { at = k; values = f.values })

unfoldable pub first_of : List ℕ → ℕ → List (List ℕ) → Option Chosen
first_of line k [] = None
first_of line k (form ∷ forms) = or_else (form_of line form) k (first_of line (k + 1) forms)

abbrev pub chosen : List ℕ → List ℕ → Option Chosen
chosen line text = first_of line 0 (lines_from [] text)

-- ---- a form that follows another
unfoldable pub onward : List ℕ → List ℕ → Option Formed → Option Formed
onward line form f = f >>= λ g. form_at line g.next form

unfoldable pub times : List ℕ → List ℕ → ℕ → Option Formed → Option Formed
times line form zero f = f
times line form (suc n) f = onward line form (times line form n f)

abbrev pub whole : List ℕ → Option Formed → Bool
whole line None = false
whole line (Some f) = eqb f.next (length line)

abbrev pub follows : List ℕ → List ℕ → List ℕ → ℕ → Bool
follows line head form n = whole line (times line form n (form_at line 0 head))

unfoldable pub repeats : List ℕ → List ℕ → List ℕ → ℕ → ℕ
repeats line head form m = lowest (follows line head form) 0 m
