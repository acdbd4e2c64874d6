-- The values of a function as a list.
--   listed f i k == f i, f (i + 1), .., k of them
use Rattle.std.specs.Prelude.{List, [], ◌∷◌, ℕ, zero, suc}

abbrev pub listed : {X : Type 0} → (ℕ → X) → ℕ → ℕ → List X
listed f i zero = []
listed f i (suc k) = f i ∷ listed f (suc i) k
