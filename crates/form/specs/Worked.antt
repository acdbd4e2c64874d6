-- Worked cases as data: lines, forms, and what is read of them.
--   shown f  == whether the form is there, the place after it, how many numbers it has, and the numbers
--   picked c == whether a form is found, which, and the numbers
--   cases    == each kind of byte of a form, met and missed; marks; a line that goes on; a number that is none
--   choices  == the first form of several, none, one that is not ended; a form that follows another not at all, twice, too often, and not to the end
use Rattle.std.specs.Prelude.{List, [], ◌∷◌, ℕ, Option, Some, None}
use Rattle.text.specs.Ascii.{ascii}
use Rattle.text.specs.Worked.{Case}
use Rattle.form.specs.declared.Formed.{Formed}
use Rattle.form.specs.declared.Chosen.{Chosen}
use Rattle.form.specs.Form.{form_at, form_of, values_of}
use Rattle.form.specs.Choice.{chosen, repeats}

abbrev pub shown : Option Formed → List ℕ
shown None = 0 ∷ 0 ∷ 0 ∷ values_of None
shown (Some f) = 1 ∷ f.next ∷ f.count ∷ f.values

abbrev pub nothing : List ℕ
nothing = 0 ∷ 0 ∷ 0 ∷ 0 ∷ 0 ∷ 0 ∷ 0 ∷ 0 ∷ []

abbrev pub cases : List Case
cases =
    record { got = shown (form_of (ascii "pow2 n=64") (ascii "pow2 n=#")); due = 1 ∷ 9 ∷ 1 ∷ 64 ∷ 0 ∷ 0 ∷ 0 ∷ 0 ∷ [] }
    ∷ record { got = shown (form_of (ascii "rasr size=32 write=1") (ascii "rasr size=# write=!")); due = 1 ∷ 20 ∷ 2 ∷ 32 ∷ 1 ∷ 0 ∷ 0 ∷ 0 ∷ [] }
    ∷ record { got = shown (form_of (ascii "step") (ascii "step")); due = 1 ∷ 4 ∷ 0 ∷ 0 ∷ 0 ∷ 0 ∷ 0 ∷ 0 ∷ [] }
    ∷ record { got = shown (form_at (ascii "list count=2 base=0") 0 (ascii "list count=#")); due = 1 ∷ 12 ∷ 1 ∷ 2 ∷ 0 ∷ 0 ∷ 0 ∷ 0 ∷ [] }
    ∷ record { got = shown (form_at (ascii "ab=7") 1 (ascii "b=#")); due = 1 ∷ 4 ∷ 1 ∷ 7 ∷ 0 ∷ 0 ∷ 0 ∷ 0 ∷ [] }
    ∷ record { got = shown (form_of (ascii "1 2 3 4 5 6") (ascii "# # # # # #")); due = 1 ∷ 11 ∷ 5 ∷ 1 ∷ 2 ∷ 3 ∷ 4 ∷ 5 ∷ [] }
    ∷ record { got = shown (form_of (ascii "pow2 n=64 ") (ascii "pow2 n=#")); due = nothing }
    ∷ record { got = shown (form_of (ascii "pow2  n=64") (ascii "pow2 n=#")); due = nothing }
    ∷ record { got = shown (form_of (ascii "pow2 n=") (ascii "pow2 n=#")); due = nothing }
    ∷ record { got = shown (form_of (ascii "pow2 n=064") (ascii "pow2 n=#")); due = nothing }
    ∷ record { got = shown (form_of (ascii "pow2 n=4294967296") (ascii "pow2 n=#")); due = nothing }
    ∷ record { got = shown (form_of (ascii "rasr size=32 write=2") (ascii "rasr size=# write=!")); due = nothing }
    ∷ record { got = shown (form_of (ascii "ste") (ascii "step")); due = nothing }
    ∷ record { got = shown (form_of [] (ascii "step")); due = nothing }
    ∷ []

abbrev pub picked : Option Chosen → List ℕ
picked None = 0 ∷ 0 ∷ values_of None
picked (Some c) = 1 ∷ c.at ∷ c.values

abbrev pub choices : List Case
choices =
    record { got = picked (chosen (ascii "b=7") (ascii "a=#\nb=#\nb=#\n")); due = 1 ∷ 1 ∷ 7 ∷ 0 ∷ 0 ∷ 0 ∷ 0 ∷ [] }
    ∷ record { got = picked (chosen (ascii "a=8") (ascii "a=#\nb=#\n")); due = 1 ∷ 0 ∷ 8 ∷ 0 ∷ 0 ∷ 0 ∷ 0 ∷ [] }
    ∷ record { got = picked (chosen (ascii "c=7") (ascii "a=#\nb=#\n")); due = 0 ∷ 0 ∷ 0 ∷ 0 ∷ 0 ∷ 0 ∷ 0 ∷ [] }
    ∷ record { got = picked (chosen (ascii "b=7") (ascii "a=#\nb=#")); due = 0 ∷ 0 ∷ 0 ∷ 0 ∷ 0 ∷ 0 ∷ 0 ∷ [] }
    ∷ record { got = picked (chosen [] (ascii "\n")); due = 1 ∷ 0 ∷ 0 ∷ 0 ∷ 0 ∷ 0 ∷ 0 ∷ [] }
    ∷ record { got = repeats (ascii "sum") (ascii "sum") (ascii " n=#") 3 ∷ []; due = 0 ∷ [] }
    ∷ record { got = repeats (ascii "sum n=1 n=2") (ascii "sum") (ascii " n=#") 3 ∷ []; due = 2 ∷ [] }
    ∷ record { got = repeats (ascii "sum n=1 n=2 n=3") (ascii "sum") (ascii " n=#") 3 ∷ []; due = 3 ∷ [] }
    ∷ record { got = repeats (ascii "sum n=1 n=") (ascii "sum") (ascii " n=#") 3 ∷ []; due = 3 ∷ [] }
    ∷ record { got = repeats (ascii "add n=1") (ascii "sum") (ascii " n=#") 3 ∷ []; due = 3 ∷ [] }
    ∷ record { got = repeats (ascii " n=1") (ascii "sum") (ascii " n=#") 3 ∷ []; due = 3 ∷ [] }
    ∷ []
