-- A test taken apart, and two tests compared, by their two cases. Assumes nothing.
use mathlib.Core.Path.{◌≡◌, refl, sym, ◌∙◌}
use mathlib.Core.Bool.{Bool, true, false, ◌&&◌, ◌||◌, true≢false}
use mathlib.Core.Logic.{◌↔◌, ◌⊎◌, inl, inr}
use Rattle.laws.specs.Pick.{pick}

pub and_left : (a b : Bool) → (a && b) ≡ true → a ≡ true
and_left true b e = refl
and_left false b e = e

pub and_right : (a b : Bool) → (a && b) ≡ true → b ≡ true
and_right true b e = e
and_right false b e = absurd (true≢false (sym e))

-- two tests that hold for the same reasons are one
pub same_test : (a b : Bool) → (a ≡ true) ↔ (b ≡ true) → a ≡ b
same_test true b h = sym (h.0 refl)
same_test false true h = h.1 refl
same_test false false h = refl

-- a function of what is picked
pub pick-ap : {X Y : Type 0} (g : X → Y) (b : Bool) (x y : X) → g (pick b x y) ≡ pick b (g x) (g y)
pick-ap g true x y = refl
pick-ap g false x y = refl

-- a test fails exactly if what it means does not hold
pub fails_exactly : {b : Bool} {P : Type 0} → (b ≡ true) ↔ P → (b ≡ false) ↔ ¬ P
fails_exactly {b} {P} m = (λ e p. true≢false (sym (m.1 p) ∙ e), by b m)
  where
    by : (b : Bool) → (b ≡ true) ↔ P → ¬ P → b ≡ false
    by true m n = absurd (n (m.0 refl))
    by false m n = refl

pub both : {a b : Bool} → a ≡ true → b ≡ true → (a && b) ≡ true
both {a} {b} p q = rw (p, q)

pub or_left : (a b : Bool) → (a || b) ≡ false → a ≡ false
or_left true b e = e
or_left false b e = refl

pub or_right : (a b : Bool) → (a || b) ≡ false → b ≡ false
or_right true b e = absurd (true≢false e)
or_right false b e = e

pub neither : {a b : Bool} → a ≡ false → b ≡ false → (a || b) ≡ false
neither {a} {b} p q = rw (p, q)

pub holds_unless : {b : Bool} → (b ≡ false → ⊥) → b ≡ true
holds_unless {b} = by b
  where
    by : (b : Bool) → (b ≡ false → ⊥) → b ≡ true
    by true n = refl
    by false n = absurd (n refl)

-- two tests do not hold together exactly if the second fails wherever the first holds
pub unless : {a b : Bool} → ((a && b) ≡ false) ↔ (a ≡ true → b ≡ false)
unless {a} {b} = (λ e h. sym (rw h) ∙ e, by a)
  where
    by : (a : Bool) → (a ≡ true → b ≡ false) → (a && b) ≡ false
    by true f = f refl
    by false f = refl

pub fails_unless : {b : Bool} → (b ≡ true → ⊥) → b ≡ false
fails_unless {b} = by b
  where
    by : (b : Bool) → (b ≡ true → ⊥) → b ≡ false
    by true n = absurd (n refl)
    by false n = refl

-- which of two was picked
pub pick_cases : {X : Type 0} (b : Bool) {x y z : X} → pick b x y ≡ z → ((b ≡ true) × (x ≡ z)) ⊎ ((b ≡ false) × (y ≡ z))
pick_cases true e = inl (refl, e)
pick_cases false e = inr (refl, e)
