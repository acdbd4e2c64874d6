-- One register write, of a triple (register, RBAR, RASR).
--   slot_named n w       == the register is one of the n slots
--   ctrl_named w         == the register is the control
--   valid_bit w          == RBAR bit 4 is set
--   triple_refusals n w  == what refuses the triple alone, in the order of the paper: 10, 11, 12
--   triple_no n w        == the number of the first that holds; 0 for a sound triple
--   write_no n m w       == the same of a write to the MPU m: 12 for the held control, then by the triple
--   stored n m w         == the MPU with the triple stored: a slot's both values unaltered, or the control, the second value ignored
--   write_register n m w == the number, beside the MPU after: as received where it is refused
-- What the code answers, in the paper's words:
--   refused_no r         == the number of what refuses a write; 0 where nothing does
--   written_of r         == the number, beside the MPU after a write, or the one handed back
use Rattle.std.specs.Prelude.{Bool, not, ◌&&◌, List, [], ◌∷◌, ℕ, ◌/◌, ltb, eqb, set, Option, Some, None, Result}
use Rattle.laws.specs.Pick.{pick}
use Rattle.laws.specs.Refuse.{Refusal as Reason, ◌⇒◌, refuse}
use Rattle.refusal.specs.declared.Refusal.{Refusal}
use Rattle.refusal.specs.declared.Refused.{Refused}
use Rattle.refusal.specs.Refusal.{number, why_no, held_by}
use Rattle.device.specs.declared.Write.{Write}
use Rattle.device.specs.declared.Pair.{Pair}
use Rattle.device.specs.declared.Mpu.{Mpu}
use Rattle.device.specs.Registers.{ctrl, bit, allowed}

abbrev pub slot_named : ℕ → Write → Bool
slot_named n w = ltb w.rnr n

abbrev pub ctrl_named : Write → Bool
ctrl_named w = eqb w.rnr ctrl

abbrev pub valid_bit : Write → Bool
valid_bit w = bit (w.rbar / 16)

unfoldable pub triple_refusals : ℕ → Write → List Reason
triple_refusals n w =
    (not (slot_named n w) && not (ctrl_named w) ⇒ 10)
    ∷ (slot_named n w && valid_bit w ⇒ 11)
    ∷ (ctrl_named w && not (allowed w.rasr) ⇒ 12)
    ∷ []

unfoldable pub triple_no : ℕ → Write → ℕ
unfolding triple_refusals
triple_no n w = refuse (triple_refusals n w)

unfoldable pub write_no : ℕ → Mpu → Write → ℕ
unfolding triple_refusals
write_no n m w = refuse ((not (allowed m.control) ⇒ 12) ∷ triple_refusals n w)

abbrev pub pair_of : Write → Pair
pair_of w = record { rbar = w.rbar; rasr = w.rasr }

unfoldable pub stored : ℕ → Mpu → Write → Mpu
stored n m w =
    record { slots = pick (slot_named n w) (set m.slots w.rnr (pair_of w)) m.slots; control = pick (slot_named n w) m.control w.rasr }

-- the MPU after a write, beside a refusal's number
pub record Written : Type 0 where
  pub no : ℕ
  pub mpu : Mpu

unfoldable pub write_register : ℕ → Mpu → Write → Written
write_register n m w = record { no = write_no n m w; mpu = pick (eqb (write_no n m w) 0) (stored n m w) m }

abbrev pub refused_no : Option Refusal → ℕ
refused_no None = 0
refused_no (Some e) = number e

abbrev pub written_of : Result Mpu (Refused Mpu) → Written
written_of r = record { no = why_no r; mpu = held_by r }
