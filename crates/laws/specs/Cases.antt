-- Worked cases as data.
--   holds f cs == each of the cases cs passes the test f
use Rattle.std.specs.Prelude.{Bool, true, ◌&&◌, List, [], ◌∷◌}

abbrev pub holds : {X : Type 0} → (X → Bool) → List X → Bool
holds f [] = true
holds f (c ∷ cs) = f c && holds f cs
