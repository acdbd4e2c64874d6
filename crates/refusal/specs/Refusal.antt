-- The numbers of the paper, and what an answer says in them. An answer is a value, or a refusal in its place.
--   number e      == the number of a refusal
--   answer_no f r == the number of an answer, f giving that of its refusal: 0 where it has a value
--   no_of r       == the same, where a refusal alone is handed back
--   why_no r      == the same, where a refusal hands back what it was given
--   value_or z r  == the value of an answer, z where it is refused
--   held_by r     == the value of an answer, or what is handed back
use Rattle.std.specs.Prelude.{ℕ, Result, Ok, Err}
use Rattle.refusal.specs.declared.Refusal.{Refusal}
use Rattle.refusal.specs.declared.Refusal.TheVariants.{NoPartition, NoPowerOfTwo, TooSmall, Misaligned, TooFar, Overlap, Full, Short, Unlawful, NoRegister, ValidBit, BadControl}
use Rattle.refusal.specs.declared.Refused.{Refused}

abbrev pub number : Refusal → ℕ
number NoPartition = 1
number NoPowerOfTwo = 2
number TooSmall = 3
number Misaligned = 4
number TooFar = 5
number Overlap = 6
number Full = 7
number Short = 8
number Unlawful = 9
number NoRegister = 10
number ValidBit = 11
number BadControl = 12

abbrev pub answer_no : {X E : Type 0} → (E → ℕ) → Result X E → ℕ
answer_no f (Ok x) = 0
answer_no f (Err e) = f e

abbrev pub no_of : {X : Type 0} → Result X Refusal → ℕ
no_of r = answer_no number r

abbrev pub why_no : {X : Type 0} → Result X (Refused X) → ℕ
why_no r = answer_no (λ e. number e.why) r

abbrev pub value_or : {X E : Type 0} → X → Result X E → X
value_or z (Ok x) = x
value_or z (Err e) = z

abbrev pub held_by : {X : Type 0} → Result X (Refused X) → X
held_by (Ok x) = x
held_by (Err e) = e.held
