-- The rows by number: `read_any` of form numbers forms so, though the code asks them in turn, by `meant`.
--   forms rows       == the forms of the rows
--   made k rows at v == the command of row `at` with the numbers v, the first row being counted k
use Rattle.std.specs.Prelude.{List, [], ◌∷◌, ℕ, ◌+◌, eqb}
use Rattle.laws.specs.Pick.{pick}
use Rattle.commands.specs.declared.Command.{Command}
use Rattle.commands.specs.declared.Command.TheVariants.{Bad}
use Rattle.commands.specs.Command.{Row, Numbers}

abbrev pub forms : List Row → List (List ℕ)
forms [] = []
forms (r ∷ rs) = r.form ∷ forms rs

abbrev pub made : ℕ → List Row → ℕ → Numbers → Command
made k [] at v = Bad
made k (r ∷ rs) at v = pick (eqb at k) (r.make v) (made (k + 1) rs at v)
