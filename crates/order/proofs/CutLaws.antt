-- The three functions of a cut say the same as the count of the write events before an access: by going down the events, in each function up
-- to the next. And the count gives one of the three maps, by its two tests. Assumes nothing.
use mathlib.Core.Path.{◌≡◌, refl, sym, ap}
use mathlib.Core.Bool.{Bool, true, false}
use mathlib.Core.List.{List, [], ◌∷◌}
use Prim.Native.Nat.{ℕ, zero, suc, ◌+◌, ◌≤◌, ◌<◌}
use native.Mathlib.Omega.{arith}
use borrow.Author.Tests.{lt-ltb, le-ltb, ne_eqb}
use lib.Dec.{ltb, eqb}
use Rattle.laws.specs.Pick.{pick}
use Rattle.order.specs.Play.{Event, write, ask, counted}
use Rattle.order.specs.Cut.{ended, under_way, cut, in_force, OneOf, the_old, the_dark, the_new}

module _ {A R : Type 0} (old dark new : A → R) (n : ℕ) where
  -- ---- the map in force
  pub in_force_dark : (k : ℕ) → 0 < k → k < n + 2 → in_force old dark new n k ≡ dark
  in_force_dark k pos h = rw (ne_eqb k 0 (omega arith), lt-ltb k (n + 2) h)

  pub in_force_new : (k : ℕ) → n + 2 ≤ k → in_force old dark new n k ≡ new
  in_force_new k h = rw (ne_eqb k 0 (omega arith), le-ltb k (n + 2) h)

  pub in_force_one : (k : ℕ) → OneOf old dark new (in_force old dark new n k)
  in_force_one k = by (eqb k 0) (ltb k (n + 2))
    where
      by : (b c : Bool) → OneOf old dark new (pick b old (pick c dark new))
      by true c = the_old refl
      by false true = the_dark refl
      by false false = the_new refl

  -- ---- the cut, by counting
  ended_counted : (k : ℕ) (es : List (Event A)) → n + 2 ≤ k → ended new es ≡ counted (in_force old dark new n) k es
  ended_counted k [] h = refl
  ended_counted k (ask a ∷ es) h = λ i. sym (in_force_new k h) i a ∷ ended_counted k es h i
  ended_counted k (write ∷ es) h = ended_counted (suc k) es (omega arith)

  under_way_counted : (m k : ℕ) (es : List (Event A)) → 0 < k → m + suc k ≡ n + 2 → under_way dark new m es ≡ counted (in_force old dark new n) k es
  under_way_counted m k [] pos e = refl
  under_way_counted m k (ask a ∷ es) pos e = λ i. sym (in_force_dark k pos (omega arith)) i a ∷ under_way_counted m k es pos e i
  under_way_counted zero k (write ∷ es) pos e = ended_counted (suc k) es (omega arith)
  under_way_counted (suc m) k (write ∷ es) pos e = under_way_counted m (suc k) es (omega arith) (omega arith)

  pub cut_counted : (es : List (Event A)) → cut old dark new n es ≡ counted (in_force old dark new n) 0 es
  cut_counted [] = refl
  cut_counted (ask a ∷ es) = ap (λ (rs : List R). old a ∷ rs) (cut_counted es)
  cut_counted (write ∷ es) = under_way_counted n 1 es (omega arith) (omega arith)
