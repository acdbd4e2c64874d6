-- Triples made by hand, applied at once.
--   is_bad n ws i    == triple i would be refused as a register write, whatever the MPU
--   first_bad n ws   == the first such
--   bad_no n ws      == the number of the first bad triple; 0 where none is
--   write_all n m ws == the MPU after all the writes, in order
--   applied_no       == 12 for the held control, else the number of the first bad triple
--   applied n m ws   == the number; all written in order and logged, or nothing written and a log of zeros
--   applied_of r     == what the code answers, in the paper's words: the number, the MPU after or the one handed back, and the log, zeros where it is refused
use Rattle.std.specs.Prelude.{Bool, not, List, [], ◌∷◌, ℕ, ◌+◌, eqb, get_or, Result, Ok, Err}
use Rattle.laws.specs.Pick.{pick}
use Rattle.laws.specs.Refuse.{◌⇒◌, refuse}
use Rattle.laws.specs.Search.{lowest, some}
use Rattle.refusal.specs.declared.Refused.{Refused}
use Rattle.refusal.specs.Refusal.{number}
use Rattle.device.specs.declared.Mpu.{Mpu}
use Rattle.device.specs.declared.Write.{Write}
use Rattle.device.specs.Registers.{allowed}
use Rattle.device.specs.RegisterWrite.{triple_no, write_register}
use Rattle.sequence.specs.Sequence.{triple}
use Rattle.table.specs.Numbers.{slots}
use Rattle.switch.specs.declared.Logged.{Logged}
use Rattle.switch.specs.Switch.{no_log}

pub record Applied : Type 0 where
  pub no : ℕ
  pub mpu : Mpu
  pub log : List Write

abbrev pub number_at : ℕ → List Write → ℕ → ℕ
number_at n ws i = triple_no n (get_or ws i (triple 0 0 0))

abbrev pub is_bad : ℕ → List Write → ℕ → Bool
is_bad n ws i = not (eqb (number_at n ws i) 0)

abbrev pub first_bad : ℕ → List Write → ℕ
first_bad n ws = lowest (is_bad n ws) 0 (n + 2)

abbrev pub bad_no : ℕ → List Write → ℕ
bad_no n ws = refuse ((some (is_bad n ws) 0 (n + 2) ⇒ number_at n ws (first_bad n ws)) ∷ [])

unfoldable pub write_all : ℕ → Mpu → List Write → Mpu
write_all n m [] = m
write_all n m (w ∷ ws) = write_all n (write_register n m w).mpu ws

unfoldable pub applied_no : ℕ → Mpu → List Write → ℕ
applied_no n m ws =
    refuse ((not (allowed m.control) ⇒ 12) ∷ (some (is_bad n ws) 0 (n + 2) ⇒ number_at n ws (first_bad n ws)) ∷ [])

unfoldable pub applied : ℕ → Mpu → List Write → Applied
applied n m ws =
    record { no = applied_no n m ws; mpu = pick (eqb (applied_no n m ws) 0) (write_all n m ws) m; log = pick (eqb (applied_no n m ws) 0) ws (no_log n) }

abbrev pub applied_of : Result Logged (Refused Mpu) → Applied
applied_of (Ok l) = record { no = 0; mpu = l.mpu; log = l.log }
applied_of (Err e) = record { no = number e.why; mpu = e.held; log = no_log slots }
