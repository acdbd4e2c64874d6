-- Horner's rule undoes the digits, and the digits undo it. The last digit is what is added last, so the value of n's digits is n; and a number that
-- goes on with further digits is written as its digits and then those. Assumes nothing.
use mathlib.Core.Path.{◌≡◌, refl, sym, ◌∙◌, ap}
use mathlib.Core.Bool.{true, false, and-true, true≢false}
use mathlib.Core.List.{List, [], ◌∷◌, ◌++◌, append-nil}
use Prim.Native.Nat.{ℕ, ◌+◌, ◌-◌, ◌*◌, ◌/◌, ◌%◌, ◌≤◌, ◌<◌}
use native.Mathlib.Omega.{arith}
use borrow.Author.Tests.{eqb-false}
use lib.Dec.{eqb}
use lib.Seq.{append_snoc}
use Rattle.laws.proofs.BoolLaws.{and_left, and_right}
use Rattle.text.specs.Digits.{zero_byte, largest, digits, is_digit, all_digits, horner, value}
use Rattle.text.specs.Read.{any, leading_zero}
use Rattle.text.proofs.DigitsLaws.{digits_one, digits_more, by_digits}
use Rattle.text.proofs.RunLaws.{digit_range, horner_grows}

horner_last : (v : ℕ) (ds : List ℕ) (d : ℕ) → horner v (ds ++ (d ∷ [])) ≡ horner v ds * 10 + (d - zero_byte)
horner_last v [] d = refl
horner_last v (e ∷ ds) d = horner_last (v * 10 + (e - zero_byte)) ds d

pub value_digits : (n : ℕ) → n ≤ largest → value (digits n) ≡ n
value_digits =
    by_digits (λ (n : ℕ). value (digits n) ≡ n) (λ n h. rw (digits_one n h) (omega arith))
    (λ n s h rest. rw (digits_more n s h, horner_last 0 (digits (n / 10)), rest) (omega arith))

-- the numbers are told apart by their digits
pub digits_apart : (m n : ℕ) → m ≤ largest → n ≤ largest → digits m ≡ digits n → m ≡ n
digits_apart m n s t e = sym (value_digits m s) ∙ ap value e ∙ value_digits n t

-- ---- the digits of a number that is said
one_more : (v d : ℕ) → v * 10 + (d - zero_byte) ≤ largest → 0 < v → is_digit d ≡ true → digits (v * 10 + (d - zero_byte)) ≡ digits v ++ (d ∷ [])
one_more v d s h e =
    let r = digit_range d e in
    let q : (v * 10 + (d - zero_byte)) / 10 ≡ v = omega arith in
    let m : zero_byte + (v * 10 + (d - zero_byte)) % 10 ≡ d = omega arith in
    digits_more (v * 10 + (d - zero_byte)) s (omega arith) ∙ rw (q, m)

pub digits_horner : (v : ℕ) (ds : List ℕ) → horner v ds ≤ largest → 0 < v → all_digits ds ≡ true → digits (horner v ds) ≡ digits v ++ ds
digits_horner v [] s h e = sym (append-nil (digits v))
digits_horner v (d ∷ ds) s h e =
    let more = v * 10 + (d - zero_byte) in
    digits_horner more ds s (omega arith) (and_right (is_digit d) (all_digits ds) e)
    ∙ rw (one_more v d (omega (arith, horner_grows more ds)) h (and_left (is_digit d) (all_digits ds) e), append_snoc)

first_one : (d : ℕ) → is_digit d ≡ true → digits (0 + (d - zero_byte)) ≡ d ∷ []
first_one d e =
    let r = digit_range d e in
    let m : zero_byte + (0 + (d - zero_byte)) ≡ d = omega arith in
    digits_one (0 + (d - zero_byte)) (omega arith) ∙ rw m

pub digits_value : (ds : List ℕ) → value ds ≤ largest → any ds ≡ true → all_digits ds ≡ true → leading_zero ds ≡ false → digits (value ds) ≡ ds
digits_value [] s a e z = absurd (true≢false (sym a))
digits_value (d ∷ []) s a e z = first_one d (and_left (is_digit d) true e)
digits_value (d ∷ x ∷ xs) s a e z =
    let e1 = and_left (is_digit d) (all_digits (x ∷ xs)) e in
    let r = digit_range d e1 in
    let other : d ≡ zero_byte → ⊥ = eqb-false d zero_byte (sym (and-true (eqb d zero_byte)) ∙ z) in
    digits_horner (0 + (d - zero_byte)) (x ∷ xs) s (omega arith) (and_right (is_digit d) (all_digits (x ∷ xs)) e) ∙ rw (first_one d e1)
