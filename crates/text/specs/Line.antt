-- The log as text: a line for each write, counted from 0.
--   line_text l           == the bytes of one line, as `n=0 rnr=4294967295 rbar=0 rasr=0` and a newline
--   lines f i ws          == one after the other what f makes of each of ws and its count, the first being counted i
--   log_text ws           == the lines of the triples ws, counted from 0
--   field_at bytes at key == the number behind a key that stands at a place, and the place after it
--   line_at bytes at      == the line that stands at a place, and the place after it
use Rattle.std.specs.Prelude.{List, [], ◌∷◌, ◌++◌, ℕ, suc, Some}
use Rattle.text.specs.declared.Line.{Line}
use Rattle.text.specs.Ascii.{ascii}
use Rattle.text.specs.Digits.{digits}
use Rattle.text.specs.Read.{Read, ◌>>=◌, newline, number_at, word_at}

-- ---- the words of a line
abbrev pub n_key : List ℕ
n_key = ascii "n="

abbrev pub rnr_key : List ℕ
rnr_key = ascii " rnr="

abbrev pub rbar_key : List ℕ
rbar_key = ascii " rbar="

abbrev pub rasr_key : List ℕ
rasr_key = ascii " rasr="

abbrev pub end_key : List ℕ
end_key = newline ∷ []

-- a key and its value
abbrev pub field : List ℕ → ℕ → List ℕ
field key v = key ++ digits v

unfoldable pub line_text : Line → List ℕ
line_text l = field n_key l.n ++ field rnr_key l.rnr ++ field rbar_key l.rbar ++ field rasr_key l.rasr ++ end_key

-- ---- a log
pub record Triple : Type 0 where
  pub rnr : ℕ
  pub rbar : ℕ
  pub rasr : ℕ

abbrev pub numbered : ℕ → Triple → Line
numbered i w = record { n = i; rnr = w.rnr; rbar = w.rbar; rasr = w.rasr }

unfoldable pub lines : {W : Type 0} → (ℕ → W → List ℕ) → ℕ → List W → List ℕ
lines f i [] = []
lines f i (w ∷ ws) = f i w ++ lines f (suc i) ws

unfoldable pub log_text : List Triple → List ℕ
log_text ws = lines (λ i w. line_text (numbered i w)) 0 ws

-- ---- a line read back
unfoldable pub field_at : List ℕ → ℕ → List ℕ → Read ℕ
field_at bytes at key = word_at bytes at key >>= number_at bytes

unfoldable pub line_at : List ℕ → ℕ → Read Line
line_at bytes at = do
  (n, p) ← field_at bytes at n_key
  (rnr, q) ← field_at bytes p rnr_key
  (rbar, r) ← field_at bytes q rbar_key
  (rasr, s) ← field_at bytes r rasr_key
  next ← word_at bytes s end_key
  Some (record { n = n; rnr = rnr; rbar = rbar; rasr = rasr }, next)
