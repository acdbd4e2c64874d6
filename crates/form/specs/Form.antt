-- The form of a line: `#` stands for a number, `!` for a mark, 0 or 1, any other byte for itself.
--   takes_number c        == the byte c of a form stands for a number or a mark
--   value_at c bytes at   == the number at a place; where c asks for a mark, 0 or 1
--   stands_at bytes at c  == the byte c stands at a place
--   kept f v p            == f with one more number v, where there is room for it, and p for the place after it
--   read_on bytes f c     == what is read with one more byte c of a form, f being read before it
--   formed bytes f form   == what is read with the rest of a form; nothing from the first byte on that is not met
--   form_at bytes at form == what is read where a form stands at a place: its numbers in turn, and the place after it
--   form_of line form     == the same, where the line has nothing more
--   values_of r          == the numbers that were read, zeros where nothing was
use Rattle.std.specs.Prelude.{Bool, ◌&&◌, ◌||◌, List, [], ◌∷◌, ℕ, ◌+◌, ltb, eqb, length, get_or, set, replicate, Option, Some, None}
use Rattle.laws.specs.Pick.{pick}
use Rattle.text.specs.Read.{Read, ◌>>=◌, number_at}
use Rattle.form.specs.declared.Formed.{Formed}

-- the most numbers that are kept; one beyond them is read and not kept
abbrev pub most : ℕ
most = 5

-- `#`
abbrev pub number_sign : ℕ
number_sign = 35

-- `!`
abbrev pub mark_sign : ℕ
mark_sign = 33

abbrev pub zeros : List ℕ
zeros = replicate most 0

abbrev pub begun : ℕ → Formed
begun at = record { next = at; count = 0; values = zeros }

abbrev pub takes_number : ℕ → Bool
takes_number c = eqb c number_sign || eqb c mark_sign

-- a number that is no mark, where one is asked for
abbrev pub no_mark : ℕ → ℕ → Bool
no_mark c v = eqb c mark_sign && ltb 1 v

unfoldable pub value_at : ℕ → List ℕ → ℕ → Read ℕ
value_at c bytes at = number_at bytes at >>= λ n. pick (no_mark c n.0) None (Some n)

abbrev pub stands_at : List ℕ → ℕ → ℕ → Bool
stands_at bytes at c = ltb at (length bytes) && eqb (get_or bytes at 0) c

unfoldable pub kept : Formed → ℕ → ℕ → Formed
kept f v p =
    pick (ltb f.count most)
    (record { next = p; count = f.count + 1; values = set f.values f.count v })
    (record { next = p; count = f.count; values = f.values })

abbrev pub moved_on : Formed → Formed
moved_on f = record { next = f.next + 1; count = f.count; values = f.values }

unfoldable pub read_on : List ℕ → Formed → ℕ → Option Formed
read_on bytes f c =
    pick (takes_number c)
    (value_at c bytes f.next >>= λ n. Some (kept f n.0 n.1))
    (pick (stands_at bytes f.next c) (Some (moved_on f)) None)

unfoldable pub formed : List ℕ → Formed → List ℕ → Option Formed
formed bytes f [] = Some f
formed bytes f (c ∷ form) = read_on bytes f c >>= λ g. formed bytes g form

abbrev pub form_at : List ℕ → ℕ → List ℕ → Option Formed
form_at bytes at form = formed bytes (begun at) form

-- the line and the form end together
abbrev pub form_of : List ℕ → List ℕ → Option Formed
form_of line form = form_at line 0 form >>= λ f. pick (eqb f.next (length line)) (Some f) None

abbrev pub values_of : Option Formed → List ℕ
values_of None = zeros
values_of (Some f) = f.values
