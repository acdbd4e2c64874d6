-- A switch under way, and what starting, stepping and the whole do. n slots: n + 2 writes.
--   no_log n         == the log of a switch that has written nothing: zeros
--   fresh n m ws     == the switch of the MPU m that is to write ws: position 0, a log of zeros
--   start_no n m t p == what refuses a switch, in the order of the paper: 1, 9, 12
--   sent n m t p     == that number, beside the triples that the switch is to write: the partition's, or zeros where it is refused
--   started n m t p  == the number, beside the switch: the triples of the partition, position 0, a log of zeros; zeros for triples where it refuses
--   due s            == the triple at the switch's position
--   advanced s m     == the switch s once that triple is written, giving the MPU m: logged at its place, and counted
--   stepped n s      == one step: finished from position n + 2 on; refused as its register write is; else the write made, logged, counted
--   steps n k s      == the switch after k steps
--   whole n m t p    == the number, beside the switch after all its steps; as started where it refuses
--   step_no          == the number of the paper for a step's answer
--   step_due n s     == the number that is due: none once finished, else the register write's
-- What the code answers, in the paper's words:
--   started_of r     == the number, beside the switch, or the one handed back
--   stepped_of r     == what the step did, beside the switch after it, or the one handed back
use Rattle.std.specs.Prelude.{not, List, [], ◌∷◌, ℕ, zero, suc, ◌+◌, leb, eqb, get_or, set, replicate, Result, Ok, Err}
use Rattle.laws.specs.Pick.{pick}
use Rattle.laws.specs.Refuse.{◌⇒◌, refuse}
use Rattle.refusal.specs.declared.Refused.{Refused as HandedBack}
use Rattle.refusal.specs.Refusal.{number, why_no, held_by}
use Rattle.device.specs.declared.Mpu.{Mpu}
use Rattle.device.specs.declared.Write.{Write}
use Rattle.device.specs.Registers.{allowed}
use Rattle.device.specs.RegisterWrite.{write_register}
use Rattle.table.specs.declared.Table.{Table}
use Rattle.table.specs.Lawful.{lawful}
use Rattle.table.specs.Covers.{beyond}
use Rattle.sequence.specs.Sequence.{Sequence, triple, writes}
use Rattle.switch.specs.declared.Switch.{Switch}
use Rattle.switch.specs.declared.Progress.{Progress}

-- a switch beside a number
pub record Started : Type 0 where
  pub no : ℕ
  pub switch : Switch

-- what one step did, and the switch after it
pub data Did : Type 0 where
  Wrote : Did
  Finished : Did
  Refused : ℕ → Did

pub record Stepped : Type 0 where
  pub did : Did
  pub switch : Switch

abbrev pub no_log : ℕ → List Write
no_log n = replicate (n + 2) (triple 0 0 0)

unfoldable pub start_no : ℕ → Mpu → Table → ℕ → ℕ
start_no n m t p = refuse ((beyond p ⇒ 1) ∷ (not (lawful n t) ⇒ 9) ∷ (not (allowed m.control) ⇒ 12) ∷ [])

abbrev pub fresh : ℕ → Mpu → List Write → Switch
fresh n m ws = record { mpu = m; writes = ws; position = 0; log = no_log n }

abbrev pub sent : ℕ → Mpu → Table → ℕ → Sequence
sent n m t p = record { no = start_no n m t p; writes = pick (eqb (start_no n m t p) 0) (writes n t p) (no_log n) }

unfoldable pub started : ℕ → Mpu → Table → ℕ → Started
started n m t p =
    record { no = start_no n m t p; switch = fresh n m (pick (eqb (start_no n m t p) 0) (writes n t p) (no_log n)) }

abbrev pub due : Switch → Write
due s = get_or s.writes s.position (triple 0 0 0)

abbrev pub advanced : Switch → Mpu → Switch
advanced s m = record { mpu = m; writes = s.writes; position = s.position + 1; log = set s.log s.position (due s) }

unfoldable pub stepped : ℕ → Switch → Stepped
stepped n s =
    pick (leb (n + 2) s.position) (record { did = Finished; switch = s })
    (pick (eqb (write_register n s.mpu (due s)).no 0) (record { did = Wrote; switch = advanced s (write_register n s.mpu (due s)).mpu })
    (record { did = Refused (write_register n s.mpu (due s)).no; switch = s }))

unfoldable pub steps : ℕ → ℕ → Switch → Switch
steps n zero s = s
steps n (suc k) s = steps n k (stepped n s).switch

unfoldable pub whole : ℕ → Mpu → Table → ℕ → Started
whole n m t p =
    record { no = start_no n m t p; switch = pick (eqb (start_no n m t p) 0) (steps n (n + 2) (started n m t p).switch) (started n m t p).switch }

abbrev pub step_no : Did → ℕ
step_no Wrote = 0
step_no Finished = 0
step_no (Refused k) = k

unfoldable pub step_due : ℕ → Switch → ℕ
step_due n s = pick (leb (n + 2) s.position) 0 (write_register n s.mpu (due s)).no

abbrev pub started_of : Result Switch (HandedBack Switch) → Started
started_of r = record { no = why_no r; switch = held_by r }

abbrev pub stepped_of : Result Progress (HandedBack Switch) → Stepped
stepped_of (Ok (Progress.Wrote s)) = record { did = Wrote; switch = s }
stepped_of (Ok (Progress.Finished s)) = record { did = Finished; switch = s }
stepped_of (Err e) = record { did = Refused (number e.why); switch = e.held }
