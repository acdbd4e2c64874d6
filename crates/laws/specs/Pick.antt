-- pick b x y == x where b holds, else y. It is the kit's `cond`, under the word that the definitions use.
use Rattle.std.specs.Prelude.{Bool, cond}

abbrev pub pick : {X : Type 0} → Bool → X → X → X
pick b x y = cond b x y
