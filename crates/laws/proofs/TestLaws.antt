-- What a test says, as a fact, both ways: by its cases. Assumes nothing.
use mathlib.Core.Path.{◌≡◌, refl, sym, ap}
use mathlib.Core.Bool.{Bool, true, false, not, ◌&&◌, ◌||◌, true≢false}
use mathlib.Core.Logic.{◌↔◌, ◌⊎◌, inl, inr}
use Prim.Native.Nat.{ℕ, ◌≤◌, ◌<◌}
use borrow.Author.Tests.{lt-ltb, le-ltb, ltb-true, ltb-false, le-leb, leb-true, eq-eqb, ne_eqb, eqb-true, eqb-false, not-true, not-false}
use lib.Dec.{ltb, leb, eqb}
use Rattle.laws.specs.Pick.{pick}
use Rattle.laws.proofs.BoolLaws.{and_left, and_right}

pub and_exactly : (a b : Bool) → ((a && b) ≡ true) ↔ ((a ≡ true) × (b ≡ true))
and_exactly a b = (λ e. (and_left a b e, and_right a b e), λ h. rw (h.0, h.1))

pub or_exactly : (a b : Bool) → ((a || b) ≡ true) ↔ ((a ≡ true) ⊎ (b ≡ true))
or_exactly true b = (λ e. inl refl, λ h. refl)
or_exactly false b = (inr, by)
  where
    by : (false ≡ true) ⊎ (b ≡ true) → b ≡ true
    by (inl e) = absurd (true≢false (sym e))
    by (inr e) = e

pub not_exactly : (a : Bool) → (not a ≡ true) ↔ (a ≡ false)
not_exactly a = (not-true a, λ e. ap not e)

pub unless_exactly : (a : Bool) → (not a ≡ false) ↔ (a ≡ true)
unless_exactly a = (not-false a, λ e. ap not e)

pub lt_exactly : (x y : ℕ) → (ltb x y ≡ true) ↔ (x < y)
lt_exactly x y = (ltb-true x y, lt-ltb x y)

pub ge_exactly : (x y : ℕ) → (ltb x y ≡ false) ↔ (y ≤ x)
ge_exactly x y = (ltb-false x y, le-ltb x y)

pub le_exactly : (x y : ℕ) → (leb x y ≡ true) ↔ (x ≤ y)
le_exactly x y = (leb-true x y, le-leb x y)

pub eq_exactly : (x y : ℕ) → (eqb x y ≡ true) ↔ (x ≡ y)
eq_exactly x y = (eqb-true x y, eq-eqb x y)

pub ne_exactly : (x y : ℕ) → (eqb x y ≡ false) ↔ (¬ (x ≡ y))
ne_exactly x y = (eqb-false x y, ne_eqb x y)

pub pick_same : {X : Type 0} (b : Bool) (x : X) → pick b x x ≡ x
pick_same true x = refl
pick_same false x = refl
