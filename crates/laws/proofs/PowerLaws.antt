-- Powers of two. A power is its own logarithm's: the lowest k with 2 ^ j < 2 ^ (k + 1) is j. And n has one digit set, so that n - 1 has none
-- in its place and all below, exactly if n is a power: by halving n. Assumes nothing.
use mathlib.Core.Path.{◌≡◌, refl, sym, ◌∙◌, subst}
use mathlib.Core.Bool.{true, false}
use mathlib.Core.Logic.{◌↔◌}
use Prim.Native.Nat.{ℕ, zero, suc, ◌+◌, ◌-◌, ◌*◌, ◌/◌, ◌%◌, ◌^◌, ◌≤◌, ◌<◌, zero-le, min}
use native.Mathlib.Nat.{pow-suc, mod_self, mul-mod_left, not-le_of_lt}
use native.Mathlib.Decide.{dec_lt}
use native.Mathlib.Numerals.{add-one}
use native.Mathlib.Omega.{arith}
use borrow.Author.Tests.{lt-ltb, le-ltb, eqb-true, eq-eqb}
use lib.Dec.{ltb, eqb}
use lib.Pow.{pow_mono, pow-lt, pow-add}
use lib.Arith.{bin_ind}
use lib.Bits.{bit_and, and_step, and_mask, and_self}
use Rattle.laws.specs.Search.{first, lowest, Least}
use Rattle.laws.specs.Power.{log2, is_pow2, Pow2}
use Rattle.laws.proofs.BoolLaws.{same_test}
use Rattle.laws.proofs.SearchLaws.{lowest_least, least_one}

pub log2-pow : (k : ℕ) → k ≤ 32 → log2 (2 ^ k) ≡ k
unfolding log2
log2-pow k h = least_one (λ j. ltb (2 ^ k) (2 ^ (j + 1))) (lowest_least _ zero-le) own
  where
    own : Least (λ j. ltb (2 ^ k) (2 ^ (j + 1))) 0 32 k
    own =
        record { from = zero-le; within = h; passes = λ l. lt-ltb _ _ (pow-lt {i = k} {j = k + 1} (omega arith)); none = λ j l u. le-ltb _ _ (pow_mono {i = j + 1} {j = k} (omega arith)) }

pub pow_below : (j k : ℕ) → 2 ^ j < 2 ^ k → j < k
pow_below j k h = by (dec_lt j k)
  where
    by : Dec (j < k) → j < k
    by (yes l) = l
    by (no l) = absurd (not-le_of_lt h (pow_mono {i = k} {j = j} (omega arith)))

pub pow2_exactly : (n : ℕ) → n < 2 ^ 32 → (is_pow2 n ≡ true) ↔ Pow2 n
unfolding is_pow2
pow2_exactly n h = (λ e. (log2 n, sym (eqb-true (2 ^ log2 n) n e)), λ p. eq-eqb (2 ^ log2 n) n (own p.0 p.1))
  where
    own : (k : ℕ) → n ≡ 2 ^ k → 2 ^ log2 n ≡ n
    own k e =
        let l : k < 32 = pow_below k 32 (subst (λ (m : ℕ). m < 2 ^ 32) e h) in
        rw (e, log2-pow k (omega arith))

pub pow_double : (j : ℕ) → 2 ^ j * 2 ≡ 2 ^ (j + 1)
pow_double j = sym (rw (add-one j) (pow-suc 2 j))

pub zero_no_power : is_pow2 0 ≡ false
unfolding is_pow2 log2 lowest first
zero_no_power = refl

-- from a power to the next that is not above n
pub next_power : (j : ℕ) {n : ℕ} → Pow2 n → 2 ^ j < n → 2 ^ (j + 1) ≤ n
next_power j {n} p h = subst (λ (m : ℕ). 2 ^ (j + 1) ≤ m) (sym p.1) (pow_mono {i = j + 1} {j = p.0} (omega (arith, pow_below j p.0 (subst (λ (m : ℕ). 2 ^ j < m) p.1 h))))

-- a power is a multiple of each lower one
pub power_multiple : (j k : ℕ) → j ≤ k → 2 ^ k % 2 ^ j ≡ 0
power_multiple j k h =
    let sum : (k - j) + j ≡ k = omega arith in
    rw (sym sum, pow-add 2 (k - j) j) (mul-mod_left (2 ^ (k - j)) (2 ^ j))

-- ---- one digit
mask_pow : (k : ℕ) → bit_and (2 ^ k) (2 ^ k - 1) ≡ 0
mask_pow k = and_mask (2 ^ k) k ∙ mod_self (2 ^ k)

-- half of n, and n less one, by n's lowest digit
halved : (n : ℕ) → (0 < n / 2 → bit_and (n / 2) (n / 2 - 1) ≡ 0 → Pow2 (n / 2)) → 0 < n → bit_and n (n - 1) ≡ 0 → Pow2 n
halved n ih h e = by (n % 2) refl
  where
    half : bit_and (n / 2) ((n - 1) / 2) * 2 + min (n % 2) ((n - 1) % 2) ≡ 0
    half = sym (and_step n (n - 1)) ∙ e

    by : (d : ℕ) → n % 2 ≡ d → Pow2 n
    by zero d =
        let less : (n - 1) / 2 ≡ n / 2 - 1 = omega arith in
        let none : bit_and (n / 2) (n / 2 - 1) ≡ 0 = subst (λ (m : ℕ). bit_and (n / 2) m ≡ 0) less (omega (arith, half)) in
        let p = ih (omega arith) none in
        (suc p.0, omega (arith, p.1, pow-suc 2 p.0))
    by (suc d) q =
        let less : (n - 1) / 2 ≡ n / 2 = omega arith in
        let none : bit_and (n / 2) (n / 2) ≡ 0 = subst (λ (m : ℕ). bit_and (n / 2) m ≡ 0) less (omega (arith, half)) in
        (0, omega (arith, none, and_self (n / 2)))

pub mask_exactly : (n : ℕ) → 0 < n → (bit_and n (n - 1) ≡ 0) ↔ Pow2 n
mask_exactly n h = (
  bin_ind (λ (m : ℕ). 0 < m → bit_and m (m - 1) ≡ 0 → Pow2 m) (λ l. absurd (omega arith)) halved n h,
  λ p. subst (λ (m : ℕ). bit_and m (m - 1) ≡ 0) (sym p.1) (mask_pow p.0),
)

-- ---- the two masks of the source
pub mask_test : (n : ℕ) → n < 2 ^ 32 → 0 < n → eqb (bit_and n (n - 1)) 0 ≡ is_pow2 n
mask_test n h pos =
    same_test _ _
    (λ e. (pow2_exactly n h).1 ((mask_exactly n pos).0 (eqb-true _ _ e)), λ e. eq-eqb _ _ ((mask_exactly n pos).1 ((pow2_exactly n h).0 e)))

pub mask_mod : (b n : ℕ) → Pow2 n → bit_and b (n - 1) ≡ b % n
mask_mod b n p = subst (λ (m : ℕ). bit_and b (m - 1) ≡ b % m) (sym p.1) (and_mask b p.0)
