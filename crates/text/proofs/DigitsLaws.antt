-- The digits of n: below 10 its one digit, else those of n / 10 and then the digit n % 10, since ten are enough for both. From these two
-- equations, by induction on n / 10: digits only, none of them a leading zero, and as few as n needs. Assumes nothing.
use mathlib.Core.Path.{◌≡◌, refl, ap}
use mathlib.Core.Bool.{true, false}
use mathlib.Core.List.{List, [], ◌∷◌, ◌++◌}
use Prim.Native.Nat.{ℕ, zero, suc, ◌+◌, ◌/◌, ◌%◌, ◌^◌, ◌≤◌, ◌<◌}
use native.Mathlib.Nat.{le_refl, pow-suc}
use native.Mathlib.Decide.{dec_lt}
use native.Mathlib.Omega.{arith}
use borrow.Author.Tests.{lt-ltb, le-ltb, le-leb, ne_eqb}
use lib.ListN.{length, get_or, length-append, get_or-append}
use Rattle.laws.proofs.BoolLaws.{and_left, and_right}
use Rattle.text.specs.Digits.{zero_byte, largest, spelt, digits, is_digit, all_digits}
use Rattle.text.specs.Read.{any, leading_zero}

-- ---- the two equations
enough : (k j n : ℕ) → n < 10 ^ suc k → n < 10 ^ suc j → spelt k n ≡ spelt j n
unfolding spelt
enough zero zero n h l = refl
enough zero (suc j) n h l = rw (lt-ltb n 10 h)
enough (suc k) zero n h l = rw (lt-ltb n 10 l)
enough (suc k) (suc j) n h l =
    rw (enough k j (n / 10) (omega (arith, pow-suc 10 (suc k))) (omega (arith, pow-suc 10 (suc j))))

pub digits_one : (n : ℕ) → n < 10 → digits n ≡ (zero_byte + n) ∷ []
unfolding digits spelt
digits_one n h = rw (lt-ltb n 10 h)

pub digits_more : (n : ℕ) → n ≤ largest → 10 ≤ n → digits n ≡ digits (n / 10) ++ ((zero_byte + n % 10) ∷ [])
unfolding digits spelt
digits_more n s h = rw (le-ltb n 10 h) (ap (λ (ds : List ℕ). ds ++ ((zero_byte + n % 10) ∷ [])) (enough 8 9 (n / 10) (omega arith) (omega arith)))

-- from the digit of a number below 10, and from n / 10 to n
pub by_digits : (P : ℕ → Type 0) → ((n : ℕ) → n < 10 → P n) → ((n : ℕ) → n ≤ largest → 10 ≤ n → P (n / 10) → P n) → (n : ℕ) → n ≤ largest → P n
by_digits P one more n = go n n (le_refl n)
  where
    go : (k m : ℕ) → m ≤ k → m ≤ largest → P m
    go zero m h s = one m (omega arith)
    go (suc k) m h s = by (dec_lt m 10) (go k (m / 10) (omega arith) (omega arith))
      where
        by : Dec (m < 10) → P (m / 10) → P m
        by (yes l) rest = one m l
        by (no l) rest = more m s (omega arith) rest

-- ---- digits only
pub is_digit_lem : (d : ℕ) → d < 10 → is_digit (zero_byte + d) ≡ true
is_digit_lem d h = rw (le-leb zero_byte (zero_byte + d) (omega arith), le-leb (zero_byte + d) (zero_byte + 9) (omega arith))

pub all_append : (xs ys : List ℕ) → all_digits xs ≡ true → all_digits ys ≡ true → all_digits (xs ++ ys) ≡ true
all_append [] ys p q = q
all_append (x ∷ xs) ys p q =
    rw (and_left (is_digit x) (all_digits xs) p) (all_append xs ys (and_right (is_digit x) (all_digits xs) p) q)

pub all_digits_lem : (n : ℕ) → n ≤ largest → all_digits (digits n) ≡ true
all_digits_lem =
    by_digits (λ (n : ℕ). all_digits (digits n) ≡ true) (λ n h. rw (digits_one n h, is_digit_lem n h))
    (λ n s h rest. rw (digits_more n s h) (all_append (digits (n / 10)) _ rest (rw (is_digit_lem (n % 10) (omega arith)))))

-- ---- no leading zero
pub some_digit : (n : ℕ) → n ≤ largest → 0 < length (digits n)
some_digit =
    by_digits (λ (n : ℕ). 0 < length (digits n)) (λ n h. rw (digits_one n h) (omega arith))
    (λ n s h rest. rw (digits_more n s h, length-append) (omega arith))

first_digit : (n : ℕ) → n ≤ largest → 0 < n → zero_byte < get_or (digits n) 0 0
first_digit =
    by_digits (λ (n : ℕ). 0 < n → zero_byte < get_or (digits n) 0 0) (λ n h p. rw (digits_one n h) (omega arith))
    (λ n s h rest p. rw (digits_more n s h, get_or-append (digits (n / 10)) _ 0 0 (some_digit (n / 10) (omega arith))) (rest (omega arith)))

pub any_digits : (n : ℕ) → n ≤ largest → any (digits n) ≡ true
any_digits n s = by (digits n) (some_digit n s)
  where
    by : (ds : List ℕ) → 0 < length ds → any ds ≡ true
    by [] h = absurd (omega arith)
    by (d ∷ ds) h = refl

pub no_leading_zero : (n : ℕ) → n ≤ largest → leading_zero (digits n) ≡ false
no_leading_zero zero s = rw (digits_one 0 (omega arith))
no_leading_zero (suc n) s = by (digits (suc n)) (first_digit (suc n) s (omega arith))
  where
    by : (ds : List ℕ) → zero_byte < get_or ds 0 0 → leading_zero ds ≡ false
    by [] h = refl
    by (d ∷ ds) h = rw (ne_eqb d zero_byte (λ e. omega arith))

-- ---- as few as it needs
pub few_digits : (k n : ℕ) → n ≤ largest → n < 10 ^ suc k → length (digits n) ≤ suc k
few_digits zero n s h = rw (digits_one n h) (omega arith)
few_digits (suc k) n s h = by (dec_lt n 10) (few_digits k (n / 10) (omega arith) (omega (arith, pow-suc 10 (suc k))))
  where
    by : Dec (n < 10) → length (digits (n / 10)) ≤ suc k → length (digits n) ≤ suc (suc k)
    by (yes l) rest = rw (digits_one n l) (omega arith)
    by (no l) rest = rw (digits_more n s (omega arith), length-append) (omega arith)
