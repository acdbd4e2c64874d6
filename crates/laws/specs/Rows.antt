-- The computed test of a constant table.
--   ruled f i xs == each entry of xs passes the rule f beside its place, the first being at place i
use Rattle.std.specs.Prelude.{Bool, true, ◌&&◌, List, [], ◌∷◌, ℕ, suc}

abbrev pub ruled : (ℕ → ℕ → Bool) → ℕ → List ℕ → Bool
ruled f i [] = true
ruled f i (x ∷ xs) = f i x && ruled f (suc i) xs
