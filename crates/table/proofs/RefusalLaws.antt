-- Each number of the builder, exactly when the paper states it. The list of refusals tells its conditions; those of one region stand in it whole,
-- and are told by that region's own number. Assumes nothing.
use mathlib.Core.Path.{◌≡◌, refl, sym, ◌∙◌}
use mathlib.Core.Bool.{Bool, true, false, not}
use mathlib.Core.Logic.{◌↔◌}
use Prim.Native.Nat.{ℕ, ◌≤◌}
use native.Mathlib.Omega.{arith}
use borrow.Author.Tests.{not-true, not-false}
use lib.Dec.{eqb, lit<}
use Rattle.laws.specs.Pick.{pick}
use Rattle.laws.proofs.RefuseLaws.{accepted, given}
use Rattle.region.specs.Sound.{soundness, region_no}
use Rattle.table.specs.declared.Table.{Table}
use Rattle.table.specs.declared.Request.{Request}
use Rattle.table.specs.Lawful.{lawful}
use Rattle.table.specs.Covers.{beyond}
use Rattle.table.specs.Builder.{overlaps_any, full, refusals, builder_no}
use Rattle.table.proofs.BuilderNo.{builder_no_lem, no_1, no_9, no_region, no_6, no_7, no_0}

module _ (n : ℕ) (t : Table) (p : ℕ) (q : Request) where
  pub refused_1 : (builder_no n t p q ≡ 1) ↔ (beyond p ≡ true)
  unfolding builder_no refusals soundness
  refused_1 = (λ e. ((given (refusals n t p q) refl refl 0 (lit< tt)).0 e).1, no_1 n t p q)

  pub refused_9 : (builder_no n t p q ≡ 9) ↔ ((beyond p ≡ false) × (lawful n t ≡ false))
  unfolding builder_no refusals soundness
  refused_9 =
      (λ e. let w = (given (refusals n t p q) refl refl 1 (lit< tt)).0 e in (w.0.0, not-true _ w.1), λ w. no_9 n t p q w.0 w.1)

  -- 2, 3, 4 and 5: the region's own number
  pub refused_region : (k : ℕ) → 2 ≤ k → k ≤ 5 → (builder_no n t p q ≡ k) ↔ ((beyond p ≡ false) × (lawful n t ≡ true) × (region_no q.base q.size ≡ k))
  refused_region k a b = (
    λ e. by (beyond p) (lawful n t) (eqb (region_no q.base q.size) 0) (overlaps_any n t p q) (full n t p) refl refl (sym builder ∙ e),
    λ w. no_region n t p q w.0 w.1 (λ z. omega (arith, a, w.2, z)) ∙ w.2,
  )
    where
      builder : builder_no n t p q ≡ pick (beyond p) 1 (pick (not (lawful n t)) 9 (pick (eqb (region_no q.base q.size) 0) (pick (overlaps_any n t p q) 6 (pick (full n t p) 7 0)) (region_no q.base q.size)))
      builder = builder_no_lem n t p q

      by : (x l z o f : Bool) → beyond p ≡ x → lawful n t ≡ l → pick x 1 (pick (not l) 9 (pick z (pick o 6 (pick f 7 0)) (region_no q.base q.size))) ≡ k → (beyond p ≡ false) × (lawful n t ≡ true) × (region_no q.base q.size ≡ k)
      by true l z o f g h e = absurd (omega (arith, a, e))
      by false false z o f g h e = absurd (omega (arith, b, e))
      by false true true true f g h e = absurd (omega (arith, b, e))
      by false true true false true g h e = absurd (omega (arith, b, e))
      by false true true false false g h e = absurd (omega (arith, a, e))
      by false true false o f g h e = (g, h, e)

  pub refused_6 : (builder_no n t p q ≡ 6) ↔ ((beyond p ≡ false) × (lawful n t ≡ true) × (region_no q.base q.size ≡ 0) × (overlaps_any n t p q ≡ true))
  unfolding builder_no refusals soundness region_no
  refused_6 = (
    λ e.
        let w = (given (refusals n t p q) refl refl 6 (lit< tt)).0 e in
        let s = w.0.1.1 in
        (w.0.0, not-false _ w.0.1.0, (accepted (soundness q.base q.size) refl).1 (s.0, (s.1.0, (s.1.1.0, (s.1.1.1.0, tt)))), w.1),
    λ w. no_6 n t p q w.0 w.1 w.2 w.3,
  )

  pub refused_7 : (builder_no n t p q ≡ 7) ↔ ((beyond p ≡ false) × (lawful n t ≡ true) × (region_no q.base q.size ≡ 0) × (overlaps_any n t p q ≡ false) × (full n t p ≡ true))
  unfolding builder_no refusals soundness region_no
  refused_7 = (
    λ e.
        let w = (given (refusals n t p q) refl refl 7 (lit< tt)).0 e in
        let s = w.0.1.1 in
        (w.0.0, not-false _ w.0.1.0, (accepted (soundness q.base q.size) refl).1 (s.0, (s.1.0, (s.1.1.0, (s.1.1.1.0, tt)))), s.1.1.1.1.0, w.1),
    λ w. no_7 n t p q w.0 w.1 w.2 w.3 w.4,
  )

  -- accepted exactly if nothing speaks against it
  pub accepted_exactly : (builder_no n t p q ≡ 0) ↔ ((beyond p ≡ false) × (lawful n t ≡ true) × (region_no q.base q.size ≡ 0) × (overlaps_any n t p q ≡ false) × (full n t p ≡ false))
  unfolding builder_no refusals soundness region_no
  accepted_exactly = (
    λ e.
        let w = (accepted (refusals n t p q) refl).0 e in
        let s = w.1.1 in
        (w.0, not-false _ w.1.0, (accepted (soundness q.base q.size) refl).1 (s.0, (s.1.0, (s.1.1.0, (s.1.1.1.0, tt)))), s.1.1.1.1.0, s.1.1.1.1.1.0),
    λ w. no_0 n t p q w.0 w.1 w.2 w.3 w.4,
  )
