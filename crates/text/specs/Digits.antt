-- Decimal numbers as bytes, the most significant digit first.
--   digits n    == the bytes of n, up to the largest: no leading zero, "0" for 0
--   is_digit b  == the byte b is one of 0 to 9
--   all_digits  == every byte is
--   run bs      == the longest run of digits that bs begins with
--   horner v ds == the number that begins with the digits of v and goes on with ds
--   value ds    == the number that the digits ds say, by Horner's rule
use Rattle.std.specs.Prelude.{Bool, true, ◌&&◌, List, [], ◌∷◌, ◌++◌, ℕ, zero, suc, ◌+◌, ◌-◌, ◌*◌, ◌/◌, ◌%◌, leb, ltb}
use Rattle.laws.specs.Pick.{pick}

-- the byte of 0; those of 1 to 9 follow it
abbrev pub zero_byte : ℕ
zero_byte = 48

-- the largest number that is read or written
abbrev pub largest : ℕ
largest = 4294967295

abbrev pub most_digits : ℕ
most_digits = 10

-- the digits of n, of which there are at most k + 1
unfoldable pub spelt : ℕ → ℕ → List ℕ
spelt zero n = (zero_byte + n) ∷ []
spelt (suc k) n = pick (ltb n 10) ((zero_byte + n) ∷ []) (spelt k (n / 10) ++ ((zero_byte + n % 10) ∷ []))

-- the largest number has the most digits
unfoldable pub digits : ℕ → List ℕ
digits n = spelt (most_digits - 1) n

abbrev pub is_digit : ℕ → Bool
is_digit b = leb zero_byte b && leb b (zero_byte + 9)

abbrev pub all_digits : List ℕ → Bool
all_digits [] = true
all_digits (b ∷ bs) = is_digit b && all_digits bs

unfoldable pub run : List ℕ → List ℕ
run [] = []
run (b ∷ bs) = pick (is_digit b) (b ∷ run bs) []

abbrev pub horner : ℕ → List ℕ → ℕ
horner v [] = v
horner v (d ∷ ds) = horner (v * 10 + (d - zero_byte)) ds

abbrev pub value : List ℕ → ℕ
value ds = horner 0 ds
