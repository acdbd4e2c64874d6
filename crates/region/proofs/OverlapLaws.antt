-- What overlap means. Both halves of the formula hold at once: then the higher of the two bases lies in both ranges, unless one is empty; and a
-- byte in both gives both halves. Assumes nothing.
use mathlib.Core.Path.{◌≡◌, refl, sym, ◌∙◌}
use mathlib.Core.Bool.{true, false, ◌||◌, and_comm, and-false, or_comm, true≢false}
use mathlib.Core.List.{[], ◌∷◌}
use mathlib.Core.Logic.{◌↔◌, ◌⊎◌, inl, inr, ⊎_elim}
use Prim.Native.Nat.{ℕ, ◌+◌, ◌≤◌, ◌<◌, max}
use native.Mathlib.Decide.{dec_lt}
use native.Mathlib.Omega.{arith}
use borrow.Author.Tests.{ltb-true, ltb-false, lt-ltb, le-ltb}
use lib.Dec.{ltb, lit<}
use Rattle.laws.proofs.BoolLaws.{and_left, and_right, both, or_left, or_right, neither, holds_unless, fails_unless}
use Rattle.laws.specs.Refuse.{◌⇒◌}
use Rattle.laws.proofs.RefuseLaws.{accepted, given}
use Rattle.region.specs.declared.Range.{Range}
use Rattle.region.specs.Overlap.{overlaps, passes, overlap_answer, Inside}

abbrev range : ℕ → ℕ → Range
range base size = record { base = base; size = size }

module _ (a b : Range) where
  pub overlaps_exactly : (overlaps a b ≡ true) ↔ ((a.base < b.base + b.size) × (b.base < a.base + a.size))
  unfolding overlaps
  overlaps_exactly =
      let l = ltb a.base (b.base + b.size) in
      let r = ltb b.base (a.base + a.size) in
      (λ e. (ltb-true _ _ (and_left l r e), ltb-true _ _ (and_right l r e)), λ p. both (lt-ltb _ _ p.0) (lt-ltb _ _ p.1))

  pub overlaps_symmetric : overlaps a b ≡ overlaps b a
  unfolding overlaps
  overlaps_symmetric = and_comm (ltb a.base (b.base + b.size)) (ltb b.base (a.base + a.size))

  pub overlaps_share : 0 < a.size → 0 < b.size → (overlaps a b ≡ true) ↔ ((x : ℕ) × Inside x a × Inside x b)
  overlaps_share h k = (
    λ e.
        let p = overlaps_exactly.0 e in
        (max a.base b.base, record { from = omega arith; below = omega (arith, p.1) }, record { from = omega arith; below = omega (arith, p.0) }),
    λ w. overlaps_exactly.1 (omega (arith, w.1.from, w.2.below), omega (arith, w.1.below, w.2.from)),
  )

-- ---- apart: one range ends where the other begins, or before
pub apart_exactly : (a b : Range) → (overlaps a b ≡ false) ↔ ((b.base + b.size ≤ a.base) ⊎ (a.base + a.size ≤ b.base))
apart_exactly a b = (λ e. by (dec_lt a.base (b.base + b.size)) e, λ s. fails_unless (λ e. let p = (overlaps_exactly a b).0 e in ⊎_elim (λ l. omega (arith, p.0, l)) (λ r. omega (arith, p.1, r)) s))
  where
    not_below : ¬ (b.base < a.base + a.size) → a.base + a.size ≤ b.base
    not_below h = omega arith

    by : Dec (a.base < b.base + b.size) → overlaps a b ≡ false → (b.base + b.size ≤ a.base) ⊎ (a.base + a.size ≤ b.base)
    by (no h) e = inl (omega arith)
    by (yes h) e = inr (not_below (λ k. true≢false (sym ((overlaps_exactly a b).1 (h, k)) ∙ e)))

-- ---- a range with no byte
pub empty_inside : (a : Range) (x : ℕ) → a.base < x → x < a.base + a.size → overlaps a (range x 0) ≡ true
empty_inside a x h k = (overlaps_exactly a (range x 0)).1 (omega arith, k)

pub empty_at_base : (a : Range) → overlaps a (range a.base 0) ≡ false
unfolding overlaps
empty_at_base a = rw (le-ltb a.base (a.base + 0) (omega arith))

pub empty_at_end : (a : Range) → overlaps a (range (a.base + a.size) 0) ≡ false
unfolding overlaps
empty_at_end a = rw (le-ltb (a.base + a.size) (a.base + a.size) (omega arith)) (and-false (ltb a.base (a.base + a.size + 0)))

-- ---- the number beside the answer
module _ (a b : Range) where
  fit : (passes a || passes b ≡ false) ↔ ((a.base + a.size ≤ 4294967295) × (b.base + b.size ≤ 4294967295))
  fit = (
    λ e. (ltb-false _ _ (or_left (passes a) (passes b) e), ltb-false _ _ (or_right (passes a) (passes b) e)),
    λ p. neither (le-ltb _ _ p.0) (le-ltb _ _ p.1),
  )

  pub overlap_accepted : ((overlap_answer a b).no ≡ 0) ↔ ((a.base + a.size ≤ 4294967295) × (b.base + b.size ≤ 4294967295))
  unfolding overlap_answer
  overlap_accepted =
      let quiet = accepted ((passes a || passes b ⇒ 5) ∷ []) refl in
      (λ e. fit.0 (quiet.0 e).0, λ p. quiet.1 (fit.1 p, tt))

  pub overlap_refused : ((overlap_answer a b).no ≡ 5) ↔ ¬ ((a.base + a.size ≤ 4294967295) × (b.base + b.size ≤ 4294967295))
  unfolding overlap_answer
  overlap_refused =
      let why = given ((passes a || passes b ⇒ 5) ∷ []) refl refl 0 (lit< tt) in
      (λ e p. true≢false (sym (why.0 e).1 ∙ fit.1 p), λ n. why.1 (tt, holds_unless (λ e. n (fit.0 e))))

  pub overlap_answers : (overlap_answer a b).no ≡ 0 → (overlap_answer a b).yes ≡ overlaps a b
  unfolding overlap_answer
  overlap_answers e = rw (fit.1 (overlap_accepted.0 e))

  pub overlap_answer_symmetric : overlap_answer a b ≡ overlap_answer b a
  unfolding overlap_answer
  overlap_answer_symmetric = rw (or_comm (passes a) (passes b), overlaps_symmetric a b)

  pub overlap_refused_no : (overlap_answer a b).no ≡ 5 → (overlap_answer a b).yes ≡ false
  unfolding overlap_answer
  overlap_refused_no e = rw ((given ((passes a || passes b ⇒ 5) ∷ []) refl refl 0 (lit< tt)).0 e).1
