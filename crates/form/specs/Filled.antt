-- The line that a form and its numbers make.
--   filled form ws       == the form, with the digits of ws in turn where it asks for numbers
--   apart form           == no digit and no number comes first in the form, so that a number before it ends there
--   fits form ws         == ws are as many as the form asks for, none too large, marks 0 or 1, each apart from what follows it
--   kept_all k vs ws     == the kept numbers vs, of which there are k, with ws after them as far as there is room
--   Means bytes form f g == what it means that g is read by a form, after f: some numbers stand in its places, and are kept
--   LineMeans line form  == the same of a whole line: it is the form with these numbers
use Rattle.std.specs.Prelude.{◌≡◌, Bool, true, false, not, ◌&&◌, List, [], ◌∷◌, ◌++◌, ℕ, ◌+◌, leb, ltb, get_or, set}
use Rattle.laws.specs.Pick.{pick}
use Rattle.text.specs.Digits.{largest, digits, is_digit}
use Rattle.text.specs.Read.{Stands}
use Rattle.form.specs.declared.Formed.{Formed}
use Rattle.form.specs.Form.{most, zeros, takes_number, no_mark, form_of, values_of}

unfoldable pub filled : List ℕ → List ℕ → List ℕ
filled [] ws = []
filled (c ∷ form) [] = c ∷ filled form []
filled (c ∷ form) (w ∷ ws) = pick (takes_number c) (digits w ++ filled form ws) (c ∷ filled form (w ∷ ws))

abbrev pub apart : List ℕ → Bool
apart form = not (is_digit (get_or form 0 0)) && not (takes_number (get_or form 0 0))

unfoldable pub fits : List ℕ → List ℕ → Bool
fits [] [] = true
fits [] (w ∷ ws) = false
fits (c ∷ form) [] = not (takes_number c) && fits form []
fits (c ∷ form) (w ∷ ws) =
    pick (takes_number c) ((leb w largest && not (no_mark c w)) && (apart form && fits form ws)) (fits form (w ∷ ws))

unfoldable pub kept_all : ℕ → List ℕ → List ℕ → List ℕ
kept_all k vs [] = vs
kept_all k vs (w ∷ ws) = pick (ltb k most) (kept_all (k + 1) (set vs k w) ws) vs

pub record Means (bytes form : List ℕ) (f g : Formed) : Type 0 where
  pub numbers : List ℕ
  pub text : Stands bytes f.next (filled form numbers) g.next
  pub values : g.values ≡ kept_all f.count f.values numbers

pub record LineMeans (line form : List ℕ) : Type 0 where
  pub numbers : List ℕ
  pub text : line ≡ filled form numbers
  pub values : values_of (form_of line form) ≡ kept_all 0 zeros numbers
