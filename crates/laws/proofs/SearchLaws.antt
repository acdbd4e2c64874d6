-- What a bounded search finds, and how one turn of a loop takes it on. The step laws: the first place passes, or the search goes on after it,
-- or no place is left. The meaning laws, by induction on the places looked at: what is found is the least, or the greatest, that passes, and
-- it is what is found. Assumes nothing.
use mathlib.Core.Path.{◌≡◌, refl, sym, ◌∙◌, ap}
use mathlib.Core.Bool.{Bool, true, false, not, true≢false}
use mathlib.Core.Logic.{◌↔◌, ⊎_elim}
use Prim.Native.Nat.{ℕ, zero, suc, ◌+◌, ◌-◌, ◌≤◌, ◌<◌, zero-le}
use native.Mathlib.Nat.{eq-or-lt_of_le, le_refl, le_of_suc-le-suc}
use native.Mathlib.Numerals.{add-one}
use native.Mathlib.Omega.{arith}
use borrow.Author.Tests.{ltb-true, ltb-false, lt-ltb, le-ltb, not-true, not-false}
use lib.Dec.{ltb}
use Rattle.laws.specs.Pick.{pick}
use Rattle.laws.proofs.BoolLaws.{same_test}
use Rattle.laws.specs.Search.{first, lowest, highest, some, every, Least, Greatest}

-- ---- lowest, from the front
module _ (f : ℕ → Bool) where
  pub lowest_here : {i m : ℕ} → i < m → f i ≡ true → lowest f i m ≡ i
  unfolding lowest first
  lowest_here {i} {m} h e =
      let left : m - i ≡ suc (m - suc i) = omega arith in
      rw (left, e)

  pub lowest_next : {i m : ℕ} → i < m → f i ≡ false → lowest f i m ≡ lowest f (i + 1) m
  unfolding lowest first
  lowest_next {i} {m} h e =
      let left : m - i ≡ suc (m - suc i) = omega arith in
      rw (left, e, add-one)

  pub lowest_end : {i m : ℕ} → m ≤ i → lowest f i m ≡ i
  unfolding lowest first
  lowest_end {i} {m} h =
      let left : m - i ≡ 0 = omega arith in
      rw left

module _ (f : ℕ → Bool) where
  first_least : (n i m : ℕ) → i + n ≡ m → Least f i m (first f i n)
  unfolding first
  first_least zero i m e =
      record { from = le_refl i; within = omega arith; passes = λ h. absurd (omega arith); none = λ k a b. absurd (omega arith) }
  first_least (suc n) i m e = by (f i) refl (first_least n (suc i) m (omega arith))
    where
      by : (b : Bool) → f i ≡ b → Least f (suc i) m (first f (suc i) n) → Least f i m (pick b i (first f (suc i) n))
      by true e rest = record { from = le_refl i; within = omega arith; passes = λ h. e; none = λ k a b. absurd (omega arith) }
      by false e rest =
          record { from = omega arith; within = rest.within; passes = rest.passes; none = λ k a b. ⊎_elim (λ q. ap f (sym q) ∙ e) (λ l. rest.none k l b) (eq-or-lt_of_le a) }

  pub lowest_least : {i m : ℕ} → i ≤ m → Least f i m (lowest f i m)
  unfolding lowest
  lowest_least {i} {m} h = first_least (m - i) i m (omega arith)

  -- two least places are one: neither is below the other
  pub least_one : {i m r s : ℕ} → Least f i m r → Least f i m s → r ≡ s
  least_one {i} {m} {r} {s} a b =
      let p : ¬ (r < s) = apart a b in
      let q : ¬ (s < r) = apart b a in
      omega arith
    where
      apart : {r s : ℕ} → Least f i m r → Least f i m s → r < s → ⊥
      apart {r} {s} a b h = true≢false (sym (a.passes (omega arith)) ∙ b.none r a.from h)

-- ---- some and every
module _ (f : ℕ → Bool) where
  pub some_here : {i m : ℕ} → i < m → f i ≡ true → some f i m ≡ true
  some_here {i} {m} h e = rw (lowest_here f h e) (lt-ltb i m h)

  pub some_next : {i m : ℕ} → i < m → f i ≡ false → some f i m ≡ some f (i + 1) m
  some_next {i} {m} h e = ap (λ (r : ℕ). ltb r m) (lowest_next f h e)

  pub some_end : {i m : ℕ} → m ≤ i → some f i m ≡ false
  some_end {i} {m} h = rw (lowest_end f h) (le-ltb i m h)

  module _ {i m : ℕ} (h : i ≤ m) where
    least : Least f i m (lowest f i m)
    least = lowest_least f h

    pub none_exactly : (some f i m ≡ false) ↔ ((k : ℕ) → i ≤ k → k < m → f k ≡ false)
    none_exactly = (λ e k a b. least.none k a (omega (arith, b, ltb-false (lowest f i m) m e)), λ n. by (some f i m) refl n)
      where
        by : (b : Bool) → some f i m ≡ b → ((k : ℕ) → i ≤ k → k < m → f k ≡ false) → b ≡ false
        by true e n = let l : lowest f i m < m = ltb-true _ _ e in absurd (true≢false (sym (least.passes l) ∙ n _ least.from l))
        by false e n = refl

    pub some_exactly : (some f i m ≡ true) ↔ ((k : ℕ) × (i ≤ k) × (k < m) × (f k ≡ true))
    some_exactly = (λ e. let l : lowest f i m < m = ltb-true _ _ e in (lowest f i m, least.from, l, least.passes l), by (some f i m) refl)
      where
        by : (b : Bool) → some f i m ≡ b → ((k : ℕ) × (i ≤ k) × (k < m) × (f k ≡ true)) → b ≡ true
        by true e w = refl
        by false e w = absurd (true≢false (sym w.3 ∙ none_exactly.0 e w.0 w.1 w.2))

pub every_exactly : (f : ℕ → Bool) {i m : ℕ} → i ≤ m → (every f i m ≡ true) ↔ ((k : ℕ) → i ≤ k → k < m → f k ≡ true)
every_exactly f {i} {m} h =
    let none = none_exactly (λ k. not (f k)) h in
    (λ e k a b. not-false (f k) (none.0 (not-true _ e) k a b), λ n. ap not (none.1 (λ k a b. ap not (n k a b))))

-- ---- highest, from the back
module _ (f : ℕ → Bool) where
  pub highest_here : (n : ℕ) → 0 < n → f (n - 1) ≡ true → highest f n ≡ n
  unfolding highest
  highest_here zero h e = refl
  highest_here (suc n) h e = let p : suc n - 1 ≡ n = omega arith in rw (rw p at e)

  pub highest_next : (n : ℕ) → 0 < n → f (n - 1) ≡ false → highest f n ≡ highest f (n - 1)
  unfolding highest
  highest_next zero h e = refl
  highest_next (suc n) h e = let p : suc n - 1 ≡ n = omega arith in rw (p, rw p at e)

module _ (f : ℕ → Bool) where
  pub highest_greatest : (n : ℕ) → Greatest f n (highest f n)
  unfolding highest
  highest_greatest zero = record { within = zero-le; passes = λ h. absurd (omega arith); none = λ k a b. absurd (omega arith) }
  highest_greatest (suc n) = by (f n) refl (highest_greatest n)
    where
      by : (b : Bool) → f n ≡ b → Greatest f n (highest f n) → Greatest f (suc n) (pick b (suc n) (highest f n))
      by true e rest =
          let p : suc n - 1 ≡ n = omega arith in
          record { within = le_refl (suc n); passes = λ h. ap f p ∙ e; none = λ k a b. absurd (omega arith) }
      by false e rest =
          record { within = omega arith; passes = rest.passes; none = λ k a b. ⊎_elim (λ q. ap f q ∙ e) (λ l. rest.none k a l) (eq-or-lt_of_le (le_of_suc-le-suc b)) }

  pub greatest_one : {n r s : ℕ} → Greatest f n r → Greatest f n s → r ≡ s
  greatest_one {n} {r} {s} a b =
      let p : ¬ (r < s) = apart a b in
      let q : ¬ (s < r) = apart b a in
      omega arith
    where
      apart : {r s : ℕ} → Greatest f n r → Greatest f n s → r < s → ⊥
      apart {r} {s} a b h = true≢false (sym (b.passes (omega arith)) ∙ a.none (s - 1) (omega arith) (omega arith))

-- ---- searches whose tests agree below n
module _ {f g : ℕ → Bool} where
  pub some_same : (n : ℕ) → ((k : ℕ) → k < n → f k ≡ g k) → some f 0 n ≡ some g 0 n
  some_same n h =
      let some-f = some_exactly f {i = 0} {m = n} zero-le in
      let some-g = some_exactly g {i = 0} {m = n} zero-le in
      same_test _ _
      (λ e. let w = some-f.0 e in some-g.1 (w.0, w.1, w.2, sym (h w.0 w.2) ∙ w.3), λ e. let w = some-g.0 e in some-f.1 (w.0, w.1, w.2, h w.0 w.2 ∙ w.3))

  pub highest_same : (n : ℕ) → ((k : ℕ) → k < n → f k ≡ g k) → highest f n ≡ highest g n
  unfolding highest
  highest_same zero h = refl
  highest_same (suc n) h = rw (h n (le_refl (suc n)), highest_same n (λ k l. h k (omega arith)))
