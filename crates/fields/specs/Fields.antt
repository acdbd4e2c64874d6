-- The fields of RASR.
--   size_field size   == log2(size) - 1
--   ap_field writable == 3 if writable, else 6
--   rasr a            == 1 + 2 x SIZE + 16777216 x AP, the value for an enabled entry
--   sizing size       == what refuses a size, in the order of the paper: 2, 3
--   answer k v        == the number k, beside the value v, or 0 where k refuses
--   size_answer size  == the number for SIZE, beside its value
--   rasr_answer a     == the number for RASR, beside its value
--   field_of r        == what the answer r says in the same words
use Rattle.std.specs.Prelude.{Result, Bool, not, List, [], ◌∷◌, ℕ, ◌+◌, ◌-◌, ◌*◌, ltb, eqb}
use Rattle.laws.specs.Pick.{pick}
use Rattle.laws.specs.Power.{log2, is_pow2}
use Rattle.laws.specs.Refuse.{Refusal as Reason, ◌⇒◌, refuse}
use Rattle.region.specs.Sound.{min_region_size}
use Rattle.fields.specs.declared.Attributes.{Attributes}
use Rattle.refusal.specs.declared.Refusal.{Refusal}
use Rattle.refusal.specs.Refusal.{no_of, value_or}

unfoldable pub size_field : ℕ → ℕ
size_field size = log2 size - 1

abbrev pub ap_field : Bool → ℕ
ap_field writable = pick writable 3 6

unfoldable pub rasr : Attributes → ℕ
rasr a = 1 + 2 * size_field a.size + 16777216 * ap_field a.writable

unfoldable pub sizing : ℕ → List Reason
sizing size = (not (is_pow2 size) ⇒ 2) ∷ (ltb size min_region_size ⇒ 3) ∷ []

-- a value beside a number
pub record Field : Type 0 where
  pub no : ℕ
  pub value : ℕ

abbrev pub answer : ℕ → ℕ → Field
answer k v = record { no = k; value = pick (eqb k 0) v 0 }

unfoldable pub size_answer : ℕ → Field
unfolding sizing
size_answer size = answer (refuse (sizing size)) (size_field size)

unfoldable pub rasr_answer : Attributes → Field
unfolding sizing
rasr_answer a = answer (refuse (sizing a.size)) (rasr a)

-- what an answer says in the paper's words: the number, and the value, which is 0 where it is refused
abbrev pub field_of : Result ℕ Refusal → Field
field_of r = record { no = no_of r; value = value_or 0 r }
