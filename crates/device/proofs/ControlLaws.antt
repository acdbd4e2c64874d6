-- A control value is allowed exactly if it is one of the four: by the four tests. Assumes nothing.
use mathlib.Core.Path.{◌≡◌, refl, sym}
use mathlib.Core.Bool.{Bool, true, false, ◌||◌, true≢false}
use mathlib.Core.Logic.{◌↔◌, ◌⊎◌, inl, inr}
use Prim.Native.Nat.{ℕ}
use borrow.Author.Tests.{eqb-true}
use lib.Dec.{eqb}
use Rattle.device.specs.Registers.{allowed}

-- 0, 1, 4 or 5
abbrev pub Allowed : ℕ → Type 0
Allowed c = (c ≡ 0) ⊎ (c ≡ 1) ⊎ (c ≡ 4) ⊎ (c ≡ 5)

pub allowed_exactly : (c : ℕ) → (allowed c ≡ true) ↔ Allowed c
unfolding allowed
allowed_exactly c = (one (eqb c 0) (eqb c 1) (eqb c 4) (eqb c 5) refl refl refl refl, passes)
  where
    one : (p q r s : Bool) → eqb c 0 ≡ p → eqb c 1 ≡ q → eqb c 4 ≡ r → eqb c 5 ≡ s → (p || q || r || s) ≡ true → Allowed c
    one true q r s e f g h t = inl (eqb-true c 0 e)
    one false true r s e f g h t = inr (inl (eqb-true c 1 f))
    one false false true s e f g h t = inr (inr (inl (eqb-true c 4 g)))
    one false false false true e f g h t = inr (inr (inr (eqb-true c 5 h)))
    one false false false false e f g h t = absurd (true≢false (sym t))

    passes : Allowed c → allowed c ≡ true
    passes (inl e) = rw e
    passes (inr (inl e)) = rw e
    passes (inr (inr (inl e))) = rw e
    passes (inr (inr (inr e))) = rw e
