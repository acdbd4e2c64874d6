-- The longest run of digits at a place: what stands there, if it is a digit, and then the run after it. Past the end `get_or` gives 0, which is none.
-- Assumes nothing.
use mathlib.Core.Path.{◌≡◌, refl, sym, ◌∙◌, ap}
use mathlib.Core.Bool.{Bool, true, false, ◌&&◌, true≢false}
use mathlib.Core.List.{List, [], ◌∷◌, ◌++◌}
use Prim.Native.Nat.{ℕ, zero, suc, ◌+◌, ◌-◌, ◌*◌, ◌≤◌, ◌<◌}
use native.Mathlib.Nat.{le_refl, add-zero}
use native.Mathlib.Numerals.{add-one}
use native.Mathlib.Decide.{dec_lt}
use native.Mathlib.Omega.{arith}
use borrow.Author.Tests.{leb-true, lt-ltb, le-ltb, ne_eqb}
use lib.Dec.{leb, eqb}
use lib.ListN.{length, get_or, drop, get_or-eq_default}
use Rattle.std.proofs.Common.{Some, None}
use Rattle.laws.specs.Pick.{pick}
use Rattle.laws.proofs.BoolLaws.{and_left, and_right}
use Rattle.text.specs.Digits.{zero_byte, largest, is_digit, all_digits, run, horner, value}
use Rattle.text.specs.Read.{any, leading_zero, sized}

pub run_at : (bytes : List ℕ) (i : ℕ) → run (drop i bytes) ≡ pick (is_digit (get_or bytes i 0)) (get_or bytes i 0 ∷ run (drop (suc i) bytes)) []
unfolding run
run_at [] zero = refl
run_at [] (suc i) = refl
run_at (b ∷ bs) zero = refl
run_at (b ∷ bs) (suc i) = run_at bs i

module _ (bytes : List ℕ) (i : ℕ) where
  pub run_next : is_digit (get_or bytes i 0) ≡ true → run (drop i bytes) ≡ get_or bytes i 0 ∷ run (drop (i + 1) bytes)
  run_next e = run_at bytes i ∙ rw (e, add-one)

  pub run_none : is_digit (get_or bytes i 0) ≡ false → run (drop i bytes) ≡ []
  run_none e = run_at bytes i ∙ rw e

  pub any_digit : any (run (drop i bytes)) ≡ is_digit (get_or bytes i 0)
  any_digit = rw (run_at bytes i) (by (is_digit (get_or bytes i 0)))
    where
      by : (b : Bool) → any (pick b (get_or bytes i 0 ∷ run (drop (suc i) bytes)) []) ≡ b
      by true = refl
      by false = refl

  pub digit_within : is_digit (get_or bytes i 0) ≡ true → i < length bytes
  digit_within e = by (dec_lt i (length bytes))
    where
      by : Dec (i < length bytes) → i < length bytes
      by (yes h) = h
      by (no h) = absurd (true≢false (sym e ∙ ap is_digit (get_or-eq_default bytes 0 {n = i} (omega arith))))

-- the run begins with a zero before another digit where a zero stands at the place, and a digit after it
pub leading_zero_lem : (bytes : List ℕ) (i : ℕ) → leading_zero (run (drop i bytes)) ≡ (eqb (get_or bytes i 0) zero_byte && is_digit (get_or bytes (i + 1) 0))
leading_zero_lem bytes i = by (is_digit (get_or bytes i 0)) refl
  where
    by : (b : Bool) → is_digit (get_or bytes i 0) ≡ b → leading_zero (run (drop i bytes)) ≡ (eqb (get_or bytes i 0) zero_byte && is_digit (get_or bytes (i + 1) 0))
    by true e = rw (run_next bytes i e, any_digit bytes (i + 1))
    by false e = rw (run_none bytes i e, ne_eqb (get_or bytes i 0) zero_byte (λ z. true≢false (sym (ap is_digit z) ∙ e)))

-- a digit is from 48 to 57
pub digit_range : (b : ℕ) → is_digit b ≡ true → (zero_byte ≤ b) × (b ≤ zero_byte + 9)
digit_range b e = (
  leb-true _ _ (and_left (leb zero_byte b) (leb b (zero_byte + 9)) e),
  leb-true _ _ (and_right (leb zero_byte b) (leb b (zero_byte + 9)) e),
)

-- further digits make no number less
pub horner_grows : (v : ℕ) (ds : List ℕ) → v ≤ horner v ds
horner_grows v [] = le_refl v
horner_grows v (d ∷ ds) = omega (arith, horner_grows (v * 10 + (d - zero_byte)) ds)

-- ---- the run of a whole text
pub run_all : (ds rest : List ℕ) → all_digits ds ≡ true → run (ds ++ rest) ≡ ds ++ run rest
unfolding run
run_all [] rest e = refl
run_all (d ∷ ds) rest e = rw (and_left (is_digit d) (all_digits ds) e, run_all ds rest (and_right (is_digit d) (all_digits ds) e))

pub all_run : (bs : List ℕ) → all_digits (run bs) ≡ true
unfolding run
all_run [] = refl
all_run (b ∷ bs) = by (is_digit b) refl (all_run bs)
  where
    by : (t : Bool) → is_digit b ≡ t → all_digits (run bs) ≡ true → all_digits (pick t (b ∷ run bs) []) ≡ true
    by true e rest = rw (e) rest
    by false e rest = refl

-- the bytes are the run and what follows it, which begins with no digit
pub run_split : (bs : List ℕ) → (bs ≡ run bs ++ drop (length (run bs)) bs) × (is_digit (get_or (drop (length (run bs)) bs) 0 0) ≡ false)
unfolding run
run_split [] = (refl, refl)
run_split (b ∷ bs) = by (is_digit b) refl (run_split bs)
  where
    by : (t : Bool) → is_digit b ≡ t → (bs ≡ run bs ++ drop (length (run bs)) bs) × (is_digit (get_or (drop (length (run bs)) bs) 0 0) ≡ false) → let r = pick t (b ∷ run bs) [] in ((b ∷ bs) ≡ r ++ drop (length r) (b ∷ bs)) × (is_digit (get_or (drop (length r) (b ∷ bs)) 0 0) ≡ false)
    by true e rest = (ap (λ (l : List ℕ). b ∷ l) rest.0, rest.1)
    by false e rest = (refl, e)

-- ---- the number of a run, one digit after the other: v is the value of the first i of them
pub record Left (bs : List ℕ) (v i : ℕ) : Type 0 where
  pub small : v ≤ largest
  pub rest : value (run bs) ≡ horner v (run (drop i bs))
  pub count : length (run bs) ≡ i + length (run (drop i bs))

module _ (bs : List ℕ) (v i at : ℕ) (w : Left bs v i) where
  -- the run ends here
  pub left_end : (p : ℕ) → p ≡ at + i → is_digit (get_or bs i 0) ≡ false → Some (v, p) ≡ sized (run bs) at
  left_end p q e = rw (q, w.rest, w.count, run_none bs i e, le-ltb largest v w.small, add-zero)

  module _ (e : is_digit (get_or bs i 0) ≡ true) where
    pub left_next : (n : ℕ) → n ≤ largest → n ≡ v * 10 + (get_or bs i 0 - zero_byte) → Left bs n (i + 1)
    left_next n h q = record {
      small = h;
      rest = w.rest ∙ rw (run_next bs i e, q);
      count = w.count ∙ rw (run_next bs i e) (omega arith);
    }

    -- further digits make a value that is too large no less
    pub left_past : largest < v * 10 + (get_or bs i 0 - zero_byte) → None ≡ sized (run bs) at
    left_past l =
        let more = v * 10 + (get_or bs i 0 - zero_byte) in
        let ds = run (drop (i + 1) bs) in
        rw (w.rest, run_next bs i e, lt-ltb largest (horner more ds) (omega (arith, horner_grows more ds)))
