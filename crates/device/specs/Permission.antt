-- The permission rows of the paper.
--   Right             == what a row gives to one privilege
--   rows              == at the place of each AP, the privileged right and the unprivileged
--   answered b        == permitted where b holds, else denied
--   grants r k        == the answer to an access of kind k under the right r
--   row_answer ap p k == the answer of AP's row to an access of kind k, privileged where p holds
use Rattle.std.specs.Prelude.{Bool, List, [], ◌∷◌, ℕ, get_or}
use Rattle.laws.specs.Pick.{pick}
use Rattle.device.specs.declared.Kind.{Kind}
use Rattle.device.specs.declared.Kind.TheVariants.{Read, Write}
use Rattle.device.specs.declared.Answer.{Answer}
use Rattle.device.specs.declared.Answer.TheVariants.{Undefined, Permitted, Denied}

pub data Right : Type 0 where
  none : Right
  read : Right
  read_write : Right
  undefined : Right

pub record Row : Type 0 where
  pub privileged : Right
  pub unprivileged : Right

infix 6 ◌beside◌
abbrev pub ◌beside◌ : Right → Right → Row
p beside u = record { privileged = p; unprivileged = u }

abbrev pub rows : List Row
rows =
    (none beside none)
    ∷ (read_write beside none)
    ∷ (read_write beside read)
    ∷ (read_write beside read_write)
    ∷ (undefined beside undefined)
    ∷ (read beside none)
    ∷ (read beside read)
    ∷ (undefined beside undefined)
    ∷ []

abbrev pub row_at : ℕ → Row
row_at ap = get_or rows ap (undefined beside undefined)

abbrev pub answered : Bool → Answer
answered b = pick b Permitted Denied

abbrev pub grants : Right → Kind → Answer
grants none k = Denied
grants read Read = Permitted
grants read Write = Denied
grants read_write k = Permitted
grants undefined k = Undefined

unfoldable pub row_answer : ℕ → Bool → Kind → Answer
row_answer ap p k = grants (pick p (row_at ap).privileged (row_at ap).unprivileged) k
