-- The answer to one byte access: the first of the five rules of the paper that applies.
--   private_bus x   == the byte x lies from 0xE0000000 to 0xE00FFFFF
--   bad p           == the slot is enabled, with SIZE below 4 or bits 15:8 not zero
--   matches x p     == the slot is enabled, and x and RBAR, both divided by 2^(SIZE+1), are equal
--   deciding n ss x == one more than the highest of n slots that matches; 0 where none does
--   unmatched c p   == what is answered where no slot matches
--   judged n m a    == rules 4 and 5: the deciding slot's row answers, or no slot matches
--   decision n m a  == the answer of the MPU m, of n slots, to the access a; refused where its control is outside the list
--   number_of       == the number of the paper for an answer
--   decision_no m   == the number that is due: 12 for a control outside the list
--   word_of a       == the word that is printed for the answer a
use Rattle.std.specs.Prelude.{Bool, not, ◌&&◌, ◌||◌, List, [], ◌∷◌, ℕ, ◌+◌, ◌-◌, ◌/◌, ◌^◌, ltb, leb, eqb, Result, Ok, Err, codes}
use Rattle.laws.specs.Pick.{pick}
use Rattle.laws.specs.Refuse.{◌⇒◌, refuse}
use Rattle.laws.specs.Search.{some, highest}
use Rattle.refusal.specs.declared.Refusal.{Refusal}
use Rattle.refusal.specs.declared.Refusal.TheVariants.{BadControl}
use Rattle.refusal.specs.Refusal.{number}
use Rattle.device.specs.declared.Pair.{Pair}
use Rattle.device.specs.declared.Mpu.{Mpu}
use Rattle.device.specs.declared.Access.{Access}
use Rattle.device.specs.declared.Answer.{Answer}
use Rattle.device.specs.declared.Answer.TheVariants.{Private, Unchecked, Undefined, Permitted, Denied}
use Rattle.device.specs.Registers.{slot_at, enabled, size_field, subregions, ap_field, enables, priv_def_ena, allowed}
use Rattle.device.specs.Permission.{answered, row_answer}

abbrev pub private_first : ℕ
private_first = 0xE000_0000

abbrev pub private_last : ℕ
private_last = 0xE00F_FFFF

abbrev pub least_size : ℕ
least_size = 4

abbrev pub private_bus : ℕ → Bool
private_bus x = leb private_first x && leb x private_last

unfoldable pub bad : Pair → Bool
bad p = enabled p && (ltb (size_field p) least_size || not (eqb (subregions p) 0))

unfoldable pub matches : ℕ → Pair → Bool
matches x p = enabled p && eqb (x / 2 ^ (size_field p + 1)) (p.rbar / 2 ^ (size_field p + 1))

abbrev pub bad_at : List Pair → ℕ → Bool
bad_at ss k = bad (slot_at ss k)

abbrev pub matches_at : List Pair → ℕ → ℕ → Bool
matches_at ss x k = matches x (slot_at ss k)

abbrev pub deciding : ℕ → List Pair → ℕ → ℕ
deciding n ss x = highest (matches_at ss x) n

abbrev pub unmatched : ℕ → Bool → Answer
unmatched c privileged = answered (privileged && priv_def_ena c)

unfoldable pub judged : ℕ → Mpu → Access → Answer
judged n m a =
    let at = deciding n m.slots a.address in
    pick (eqb at 0) (unmatched m.control a.privileged) (row_answer (ap_field (slot_at m.slots (at - 1))) a.privileged a.kind)

unfoldable pub decision : ℕ → Mpu → Access → Result Answer Refusal
decision n m a =
    pick (not (allowed m.control)) (Err BadControl)
    (Ok
    (pick (private_bus a.address) Private
    (pick (not (enables m.control)) Unchecked
    (pick (some (bad_at m.slots) 0 n) Undefined (judged n m a)))))

abbrev pub number_of : Result Answer Refusal → ℕ
number_of (Ok x) = 0
number_of (Err e) = number e

unfoldable pub decision_no : Mpu → ℕ
decision_no m = refuse ((not (allowed m.control) ⇒ 12) ∷ [])

abbrev pub word_of : Answer → List ℕ
word_of Private = codes "private"
word_of Unchecked = codes "unchecked"
word_of Undefined = codes "undefined"
word_of Permitted = codes "permitted"
word_of Denied = codes "denied"
