-- A list check's answer is told whole by what it says: two that say the same are one, since a record's number leads back to why it is refused.
-- And the number that it has is the number of what it says. Assumes nothing.
use mathlib.Core.Path.{◌≡◌, refl}
use Rattle.std.specs.Prelude.{Result, Ok, Err}
use Rattle.refusal.specs.Refusal.{number, answer_no}
use Rattle.refusal.proofs.NumberLaws.{number_one}
use Rattle.region.specs.declared.Fault.{Fault}
use Rattle.region.specs.declared.Fault.TheVariants.{Short, Unsound, Pair}
use Rattle.region.specs.List.{number_of, judged_by, fault_no}

pub judged_one : (r s : Result Unit Fault) → judged_by r ≡ judged_by s → r ≡ s
judged_one (Ok x) (Ok y) p = refl
judged_one (Ok x) (Err Short) p = cc
judged_one (Ok x) (Err (Unsound k f)) p = cc
judged_one (Ok x) (Err (Pair k l)) p = cc
judged_one (Err Short) (Ok y) p = cc
judged_one (Err Short) (Err Short) p = refl
judged_one (Err Short) (Err (Unsound k f)) p = cc
judged_one (Err Short) (Err (Pair k l)) p = cc
judged_one (Err (Unsound i e)) (Ok y) p = cc
judged_one (Err (Unsound i e)) (Err Short) p = cc
judged_one (Err (Unsound i e)) (Err (Unsound k f)) p = let n : number e ≡ number f = cc in let w : e ≡ f = number_one e f n in cc
judged_one (Err (Unsound i e)) (Err (Pair k l)) p = cc
judged_one (Err (Pair i j)) (Ok y) p = cc
judged_one (Err (Pair i j)) (Err Short) p = cc
judged_one (Err (Pair i j)) (Err (Unsound k f)) p = cc
judged_one (Err (Pair i j)) (Err (Pair k l)) p = cc

pub fault_number : {X : Type 0} (r : Result X Fault) → answer_no fault_no r ≡ number_of (judged_by r)
fault_number (Ok x) = refl
fault_number (Err Short) = refl
fault_number (Err (Unsound at why)) = refl
fault_number (Err (Pair i j)) = refl
