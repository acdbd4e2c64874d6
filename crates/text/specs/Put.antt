-- Bytes put into a lent buffer, whole or not at all.
--   room out at s  == s fits into out from at on
--   over out at s  == out, with s in the place of what stood there from at on
--   put out at s   == the place after s where it fits
--   after out at s == the buffer then: with s in it where it fits, else as it was
use Rattle.std.specs.Prelude.{Bool, List, ◌++◌, ℕ, ◌+◌, leb, length, take, drop, Option, Some, None}
use Rattle.laws.specs.Pick.{pick}

abbrev pub room : List ℕ → ℕ → List ℕ → Bool
room out at s = leb (at + length s) (length out)

abbrev pub over : List ℕ → ℕ → List ℕ → List ℕ
over out at s = take at out ++ s ++ drop (at + length s) out

unfoldable pub put : List ℕ → ℕ → List ℕ → Option ℕ
put out at s = pick (room out at s) (Some (at + length s)) None

unfoldable pub after : List ℕ → ℕ → List ℕ → List ℕ
after out at s = pick (room out at s) (over out at s) out
