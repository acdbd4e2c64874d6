-- The numbers of the paper, one by one, from 1 to 12 in its order. No two refusals have the same, since each number leads back to its case; and
-- none has 0, which accepts. Assumes nothing.
use mathlib.Core.Path.{◌≡◌, refl, sym, ◌∙◌, ap}
use Rattle.std.specs.Prelude.{[], ◌∷◌, map, ℕ, zero, suc, ◌≤◌}
use native.Mathlib.Omega.{arith}
use Rattle.refusal.specs.declared.Refusal.{Refusal}
use Rattle.refusal.specs.declared.Refusal.TheVariants.{NoPartition, NoPowerOfTwo, TooSmall, Misaligned, TooFar, Overlap, Full, Short, Unlawful, NoRegister, ValidBit, BadControl}
use Rattle.refusal.specs.Refusal.{number}

pub numbers : map number (NoPartition ∷ NoPowerOfTwo ∷ TooSmall ∷ Misaligned ∷ TooFar ∷ Overlap ∷ Full ∷ Short ∷ Unlawful ∷ NoRegister ∷ ValidBit ∷ BadControl ∷ [])
    ≡ 1 ∷ 2 ∷ 3 ∷ 4 ∷ 5 ∷ 6 ∷ 7 ∷ 8 ∷ 9 ∷ 10 ∷ 11 ∷ 12 ∷ []
numbers = refl

-- the case of each number
abbrev at : ℕ → Refusal
at (suc zero) = NoPartition
at (suc (suc zero)) = NoPowerOfTwo
at (suc (suc (suc zero))) = TooSmall
at (suc (suc (suc (suc zero)))) = Misaligned
at (suc (suc (suc (suc (suc zero))))) = TooFar
at (suc (suc (suc (suc (suc (suc zero)))))) = Overlap
at (suc (suc (suc (suc (suc (suc (suc zero))))))) = Full
at (suc (suc (suc (suc (suc (suc (suc (suc zero)))))))) = Short
at (suc (suc (suc (suc (suc (suc (suc (suc (suc zero))))))))) = Unlawful
at (suc (suc (suc (suc (suc (suc (suc (suc (suc (suc zero)))))))))) = NoRegister
at (suc (suc (suc (suc (suc (suc (suc (suc (suc (suc (suc zero))))))))))) = ValidBit
at n = BadControl

back : (e : Refusal) → at (number e) ≡ e
back NoPartition = refl
back NoPowerOfTwo = refl
back TooSmall = refl
back Misaligned = refl
back TooFar = refl
back Overlap = refl
back Full = refl
back Short = refl
back Unlawful = refl
back NoRegister = refl
back ValidBit = refl
back BadControl = refl

pub number_one : (e f : Refusal) → number e ≡ number f → e ≡ f
number_one e f p = sym (back e) ∙ ap at p ∙ back f

pub number_within : (e : Refusal) → (1 ≤ number e) × (number e ≤ 12)
number_within NoPartition = (omega arith, omega arith)
number_within NoPowerOfTwo = (omega arith, omega arith)
number_within TooSmall = (omega arith, omega arith)
number_within Misaligned = (omega arith, omega arith)
number_within TooFar = (omega arith, omega arith)
number_within Overlap = (omega arith, omega arith)
number_within Full = (omega arith, omega arith)
number_within Short = (omega arith, omega arith)
number_within Unlawful = (omega arith, omega arith)
number_within NoRegister = (omega arith, omega arith)
number_within ValidBit = (omega arith, omega arith)
number_within BadControl = (omega arith, omega arith)

pub number_some : (e : Refusal) → ¬ (number e ≡ 0)
number_some e p = omega (arith, p, number_within e)
