-- What stands at a place of given bytes, if it does.
--   Read X                == an X that is read, and the place after it
--   o >>= f               == what f reads after o, if o is there
--   number_of ds at       == the number that the run of digits ds at a place is: some digit, no leading zero, at most 4294967295
--   number_at bytes at    == the number whose digits are the longest run from at on, and the place after them
--   begins bs word        == bs begins with word
--   word_at bytes at word == the place after word, where the bytes from at on begin with it
--   newline_from bytes at == the place of the first newline from at on
--   Stands bytes at s p   == s stands at the place at, and p is the place after it
use Rattle.std.specs.Prelude.{◌≡◌, Bool, true, false, ◌&&◌, List, [], ◌∷◌, ◌++◌, ℕ, ◌+◌, leb, ltb, eqb, length, get_or, drop, Option, Some, None, option_and_then}
use Rattle.laws.specs.Pick.{pick}
use Rattle.laws.specs.Search.{lowest, some}
use Rattle.text.specs.Digits.{zero_byte, largest, run, value}

abbrev pub Read : Type 0 → Type 0
Read X = Option (X × ℕ)

-- one step, and what goes on from it: `?`
infixl 10 ◌>>=◌
abbrev pub ◌>>=◌ : {X Y : Type 0} → Option X → (X → Option Y) → Option Y
o >>= f = option_and_then f o

-- there is a digit
abbrev pub any : List ℕ → Bool
any [] = false
any (d ∷ ds) = true

-- a zero with a digit after it
abbrev pub leading_zero : List ℕ → Bool
leading_zero [] = false
leading_zero (d ∷ ds) = eqb d zero_byte && any ds

-- the number that the run ds at a place says, if it is not too large
abbrev pub sized : List ℕ → ℕ → Read ℕ
sized ds at = pick (ltb largest (value ds)) None (Some (value ds, at + length ds))

abbrev pub number_of : List ℕ → ℕ → Read ℕ
number_of ds at = pick (any ds) (pick (leading_zero ds) None (sized ds at)) None

unfoldable pub number_at : List ℕ → ℕ → Read ℕ
number_at bytes at = number_of (run (drop at bytes)) at

unfoldable pub begins : List ℕ → List ℕ → Bool
begins bs [] = true
begins [] (w ∷ ws) = false
begins (b ∷ bs) (w ∷ ws) = eqb b w && begins bs ws

unfoldable pub word_at : List ℕ → ℕ → List ℕ → Option ℕ
word_at bytes at word =
    pick (leb at (length bytes) && begins (drop at bytes) word) (Some (at + length word)) None

abbrev pub newline : ℕ
newline = 10

abbrev pub is_newline : List ℕ → ℕ → Bool
is_newline bytes i = eqb (get_or bytes i 0) newline

unfoldable pub newline_from : List ℕ → ℕ → Option ℕ
newline_from bytes at =
    pick (some (is_newline bytes) at (length bytes)) (Some (lowest (is_newline bytes) at (length bytes))) None

pub record Stands (bytes : List ℕ) (at : ℕ) (s : List ℕ) (p : ℕ) : Type 0 where
  pub text : drop at bytes ≡ s ++ drop p bytes
  pub next : p ≡ at + length s
