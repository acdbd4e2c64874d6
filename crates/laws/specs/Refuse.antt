-- Refusals in the order of the paper: the first whose condition holds gives the number.
--   b ⇒ k      == refused with k where b holds
--   refuse cs  == the number of the first of cs that holds; 0, accepted, where none does
--   Quiet cs   == none of cs holds
--   fresh k cs == k is no number of cs
--   apart cs   == no two numbers of cs are alike, so that each says which condition held
use Rattle.std.specs.Prelude.{◌≡◌, Bool, true, false, not, ◌&&◌, List, [], ◌∷◌, ℕ, eqb}
use Rattle.laws.specs.Pick.{pick}

pub record Refusal : Type 0 where
  pub when : Bool
  pub number : ℕ

infix 6 ◌⇒◌
abbrev pub ◌⇒◌ : Bool → ℕ → Refusal
b ⇒ k = record { when = b; number = k }

abbrev pub refuse : List Refusal → ℕ
refuse [] = 0
refuse (c ∷ cs) = pick c.when c.number (refuse cs)

abbrev pub Quiet : List Refusal → Type 0
Quiet [] = Unit
Quiet (c ∷ cs) = (c.when ≡ false) × Quiet cs

abbrev pub fresh : ℕ → List Refusal → Bool
fresh k [] = true
fresh k (c ∷ cs) = not (eqb c.number k) && fresh k cs

abbrev pub apart : List Refusal → Bool
apart [] = true
apart (c ∷ cs) = fresh c.number cs && apart cs
