-- A lent slice that a loop fills: after i turns it has the first i values, and then what was there. Assumes nothing.
--   Filled f d s i == s is d after i turns that store f 0, f 1, ..
use mathlib.Core.Path.{◌≡◌, refl, subst, ◌∙◌, ap, ap₂}
use mathlib.Core.List.{List, ◌++◌}
use Prim.Native.Nat.{ℕ, ◌+◌, ◌*◌, ◌/◌, ◌≤◌, ◌<◌, zero-le}
use native.Mathlib.Omega.{arith}
use lib.ListN.{length, set, drop, length-set}
use Rattle.laws.specs.Listed.{listed}
use Rattle.laws.proofs.ListedLaws.{fill_next, fill_end}
use Rattle.exports.specs.Words.{found_words}

pub record Filled (f : ℕ → ℕ) (d s : List ℕ) (i : ℕ) : Type 0 where
  pub within : i ≤ length d
  pub size : length s ≡ length d
  pub is : s ≡ listed f 0 i ++ drop i d

module _ {f : ℕ → ℕ} {d : List ℕ} where
  pub filled_none : Filled f d d 0
  filled_none = record { within = zero-le; size = refl; is = refl }

  pub filled_next : {s : List ℕ} {i v : ℕ} → Filled f d s i → i < length s → v ≡ f i → Filled f d (set s i v) (i + 1)
  filled_next {s} {i} {v} h below e =
      let room : i < length d = rw h.size at below in
      record { within = omega arith; size = length-set s i v ∙ h.size; is = ap₂ (λ (l : List ℕ) (x : ℕ). set l i x) h.is e ∙ fill_next f d 0 i room }

  pub filled_ended : {s : List ℕ} {i : ℕ} → Filled f d s i → length s ≤ i → i ≡ length d
  filled_ended {s} {i} h past = let room : length d ≤ i = rw h.size at past in omega (arith, h.within)

  pub filled_all : {s : List ℕ} {i : ℕ} → Filled f d s i → length s ≤ i → s ≡ listed f 0 (length d)
  filled_all {s} {i} h past = h.is ∙ fill_end f d i (rw h.size at past) ∙ ap (listed f 0) (filled_ended h past)

  -- ---- three words a turn
  pub filled_three : {s : List ℕ} {i a b c : ℕ} → Filled f d s (3 * i) → i < length s / 3 → a ≡ f (3 * i) → b ≡ f (3 * i + 1) → c ≡ f (3 * i + 2) → Filled f d (set (set (set s (3 * i) a) (3 * i + 1) b) (3 * i + 2) c) (3 * (i + 1))
  filled_three {s} {i} {a} {b} {c} h below p q r =
      let s1 = set s (3 * i) a in
      let s2 = set s1 (3 * i + 1) b in
      let at2 : 3 * i + 1 + 1 ≡ 3 * i + 2 = omega arith in
      let at3 : 3 * i + 2 + 1 ≡ 3 * (i + 1) = omega arith in
      let two = subst (λ (k : ℕ). Filled f d s2 k) at2 (filled_next (filled_next h (omega arith) p) (simp length-set (omega arith)) q) in
      subst (λ (k : ℕ). Filled f d (set s2 (3 * i + 2) c) k) at3 (filled_next two (simp length-set (omega arith)) r)

  pub filled_threes : {s : List ℕ} {i : ℕ} → Filled f d s (3 * i) → length s / 3 ≤ i → s ≡ found_words f d
  filled_threes {s} {i} h past =
      let size : length s ≡ length d = h.size in
      let ended : 3 * i ≡ 3 * (length d / 3) = omega (arith, h.within) in
      h.is ∙ ap (λ (n : ℕ). listed f 0 n ++ drop n d) ended
