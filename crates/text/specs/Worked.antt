-- Worked cases as data: what a definition gives, and what is due.
--   log01      == the first three writes of document 01's log
--   cases      == its text; the edges of a number, written and read; bytes put where they fit and where not; a newline and a word, found and not
--   answered r == the number and the place after it, nothing where there is none
--   placed r   == the place, nothing where there is none
--   same xs ys == the two texts are alike
use Rattle.std.specs.Prelude.{Bool, ◌&&◌, List, [], ◌∷◌, ℕ, eqb, length, Option, Some, None}
use Rattle.text.specs.Ascii.{ascii}
use Rattle.text.specs.Digits.{digits}
use Rattle.text.specs.Put.{put, after}
use Rattle.text.specs.Read.{Read, begins, number_at, word_at, newline_from}
use Rattle.text.specs.Line.{Triple, log_text}

pub record Case : Type 0 where
  pub got : List ℕ
  pub due : List ℕ

abbrev pub answered : Read ℕ → List ℕ
answered None = []
answered (Some (v, p)) = v ∷ p ∷ []

abbrev pub placed : Option ℕ → List ℕ
placed None = []
placed (Some p) = p ∷ []

abbrev pub same : List ℕ → List ℕ → Bool
same xs ys = eqb (length xs) (length ys) && begins xs ys

abbrev pub log01 : List Triple
log01 =
    record { rnr = 4294967295; rbar = 0; rasr = 0 }
    ∷ record { rnr = 0; rbar = 536870912; rasr = 50331667 }
    ∷ record { rnr = 1; rbar = 134217728; rasr = 100663327 }
    ∷ []

abbrev pub cases : List Case
cases =
    record {
      got = log_text log01;
      due = ascii "n=0 rnr=4294967295 rbar=0 rasr=0\nn=1 rnr=0 rbar=536870912 rasr=50331667\nn=2 rnr=1 rbar=134217728 rasr=100663327\n";
    }
    ∷ record { got = digits 0; due = ascii "0" }
    ∷ record { got = digits 10; due = ascii "10" }
    ∷ record { got = digits 4294967295; due = ascii "4294967295" }
    ∷ record { got = answered (number_at (ascii "0") 0); due = 0 ∷ 1 ∷ [] }
    ∷ record { got = answered (number_at (ascii "n=10 rnr") 2); due = 10 ∷ 4 ∷ [] }
    ∷ record { got = answered (number_at (ascii "4294967295\n") 0); due = 4294967295 ∷ 10 ∷ [] }
    ∷ record { got = answered (number_at (ascii "4294967296") 0); due = [] }
    ∷ record { got = answered (number_at (ascii "01") 0); due = [] }
    ∷ record { got = answered (number_at (ascii "n=") 2); due = [] }
    ∷ record { got = after (ascii "......") 2 (ascii "ab"); due = ascii "..ab.." }
    ∷ record { got = after (ascii "......") 4 (ascii "ab"); due = ascii "....ab" }
    ∷ record { got = after (ascii "......") 5 (ascii "ab"); due = ascii "......" }
    ∷ record { got = placed (put (ascii "......") 4 (ascii "ab")); due = 6 ∷ [] }
    ∷ record { got = placed (put (ascii "......") 5 (ascii "ab")); due = [] }
    ∷ record { got = placed (newline_from (ascii "ab\ncd\n") 0); due = 2 ∷ [] }
    ∷ record { got = placed (newline_from (ascii "ab\ncd\n") 3); due = 5 ∷ [] }
    ∷ record { got = placed (newline_from (ascii "ab\ncd\n") 6); due = [] }
    ∷ record { got = placed (word_at (ascii "n=10 rnr") 4 (ascii " rnr")); due = 8 ∷ [] }
    ∷ record { got = placed (word_at (ascii "n=10 rnr") 4 (ascii " rnr=")); due = [] }
    ∷ []
