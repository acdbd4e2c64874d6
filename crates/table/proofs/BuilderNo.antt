-- The builder's number, test by test, and its answer either way. One region's refusals stand in the middle of the list, and speak there by their
-- own number. Assumes nothing.
use mathlib.Core.Path.{◌≡◌, ap}
use mathlib.Core.Bool.{true, false, not}
use mathlib.Core.List.{[], ◌∷◌}
use Prim.Native.Nat.{ℕ}
use borrow.Author.Tests.{ne_eqb}
use lib.Dec.{eqb}
use Rattle.laws.specs.Pick.{pick}
use Rattle.laws.specs.Refuse.{◌⇒◌}
use Rattle.laws.proofs.RefuseLaws.{refuse-append}
use Rattle.region.specs.Sound.{soundness, region_no}
use Rattle.region.proofs.SoundLaws.{soundness_numbered}
use Rattle.table.specs.declared.Table.{Table}
use Rattle.table.specs.declared.Request.{Request}
use Rattle.table.specs.Numbers.{flat_index}
use Rattle.table.specs.Table.{with_entry}
use Rattle.table.specs.Lawful.{lawful}
use Rattle.table.specs.Covers.{beyond}
use Rattle.table.specs.Builder.{granted, overlaps_any, first_free, full, refusals, builder_no, try_add}

module _ (n : ℕ) (t : Table) (p : ℕ) (q : Request) where
  pub builder_no_lem : builder_no n t p q ≡ pick (beyond p) 1 (pick (not (lawful n t)) 9 (pick (eqb (region_no q.base q.size) 0) (pick (overlaps_any n t p q) 6 (pick (full n t p) 7 0)) (region_no q.base q.size)))
  unfolding builder_no refusals region_no
  builder_no_lem = ap (λ (k : ℕ). pick (beyond p) 1 (pick (not (lawful n t)) 9 k)) (refuse-append (soundness q.base q.size) ((overlaps_any n t p q ⇒ 6) ∷ (full n t p ⇒ 7) ∷ []) (soundness_numbered q.base q.size))

  -- ---- the number by what holds, in the paper's order
  pub no_1 : beyond p ≡ true → builder_no n t p q ≡ 1
  no_1 b = rw (builder_no_lem, b)

  module _ (b : beyond p ≡ false) where
    pub no_9 : lawful n t ≡ false → builder_no n t p q ≡ 9
    no_9 l = rw (builder_no_lem, b, l)

    module _ (l : lawful n t ≡ true) where
      pub no_region : ¬ (region_no q.base q.size ≡ 0) → builder_no n t p q ≡ region_no q.base q.size
      no_region s = rw (builder_no_lem, b, l, ne_eqb _ 0 s)

      module _ (s : region_no q.base q.size ≡ 0) where
        pub no_6 : overlaps_any n t p q ≡ true → builder_no n t p q ≡ 6
        no_6 o = rw (builder_no_lem, b, l, s, o)

        pub no_7 : overlaps_any n t p q ≡ false → full n t p ≡ true → builder_no n t p q ≡ 7
        no_7 o f = rw (builder_no_lem, b, l, s, o, f)

        pub no_0 : overlaps_any n t p q ≡ false → full n t p ≡ false → builder_no n t p q ≡ 0
        no_0 o f = rw (builder_no_lem, b, l, s, o, f)

  -- ---- the answer
  pub add_refused : {k : ℕ} → builder_no n t p q ≡ k → ¬ (k ≡ 0) → try_add n t p q ≡ record { no = k; table = t }
  unfolding try_add
  add_refused {k} e h = rw (e, ne_eqb k 0 h)

  pub add_accepted : builder_no n t p q ≡ 0 → try_add n t p q ≡ record { no = 0; table = with_entry t (flat_index n p (first_free n t p)) (granted q) }
  unfolding try_add
  add_accepted e = rw e
