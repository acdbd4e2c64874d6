-- One answer: of each public routine, two results that its own contract allows at the same arguments are one: an answer is told whole by what its
-- contract's equation says of it. Assumes nothing.
use mathlib.Core.Path.{◌≡◌, sym, ◌∙◌, ap}
use mathlib.Core.List.{List}
use Prim.Native.Nat.{ℕ}
use Rattle.std.specs.Prelude.{Result, Ok, Err}
use Rattle.refusal.specs.declared.Refused.{Refused as HandedBack}
use Rattle.refusal.specs.Refusal.{number}
use Rattle.refusal.proofs.NumberLaws.{number_one, number_some}
use Rattle.refusal.proofs.AnswerLaws.{held_one}
use Rattle.device.specs.declared.Mpu.{Mpu}
use Rattle.device.specs.declared.Write.{Write}
use Rattle.table.specs.declared.Table.{Table}
use Rattle.switch.specs.declared.Switch.{Switch}
use Rattle.switch.specs.declared.Progress.{Progress}
use Rattle.switch.specs.declared.Logged.{Logged}
use Rattle.switch.specs.Switch.{Started, Stepped, no_log, fresh, started, stepped, whole, started_of, stepped_of}
use Rattle.switch.specs.Applied.{Applied, applied, applied_of}
use Rattle.switch.proofs.idle.Reads as idle
use Rattle.switch.proofs.start.Reads as start
use Rattle.switch.proofs.step.Reads as step
use Rattle.switch.proofs.switch_to_partition.Reads as switch_to_partition
use Rattle.switch.proofs.apply_program.Reads as apply_program
use Rattle.switch.proofs.log_of.Reads as log_of

-- ---- no two answers say the same
started_one : (r s : Result Switch (HandedBack Switch)) → started_of r ≡ started_of s → r ≡ s
started_one r s p = held_one r s (ap (λ (k : Started). k.no) p) (ap (λ (k : Started). k.switch) p)

stepped_one : (r s : Result Progress (HandedBack Switch)) → stepped_of r ≡ stepped_of s → r ≡ s
stepped_one (Ok (Progress.Wrote a)) (Ok (Progress.Wrote b)) p = ap (λ (k : Stepped). Ok (Progress.Wrote k.switch)) p
stepped_one (Ok (Progress.Finished a)) (Ok (Progress.Finished b)) p = ap (λ (k : Stepped). Ok (Progress.Finished k.switch)) p
stepped_one (Ok (Progress.Wrote a)) (Ok (Progress.Finished b)) p = let d = ap (λ (k : Stepped). k.did) p in cc
stepped_one (Ok (Progress.Finished a)) (Ok (Progress.Wrote b)) p = let d = ap (λ (k : Stepped). k.did) p in cc
stepped_one (Ok (Progress.Wrote a)) (Err f) p = let d = ap (λ (k : Stepped). k.did) p in cc
stepped_one (Ok (Progress.Finished a)) (Err f) p = let d = ap (λ (k : Stepped). k.did) p in cc
stepped_one (Err e) (Ok (Progress.Wrote b)) p = let d = ap (λ (k : Stepped). k.did) p in cc
stepped_one (Err e) (Ok (Progress.Finished b)) p = let d = ap (λ (k : Stepped). k.did) p in cc
stepped_one (Err e) (Err f) p =
    let d = ap (λ (k : Stepped). k.did) p in
    let same : number e.why ≡ number f.why = cc in
    ap Err (λ k. record { why = number_one e.why f.why same k; held = (p k).switch })

applied_one : (r s : Result Logged (HandedBack Mpu)) → applied_of r ≡ applied_of s → r ≡ s
applied_one (Ok a) (Ok b) p = ap (λ (k : Applied). Ok (record { mpu = k.mpu; log = k.log })) p
applied_one (Ok a) (Err f) p = absurd (number_some f.why (sym (ap (λ (k : Applied). k.no) p)))
applied_one (Err e) (Ok b) p = absurd (number_some e.why (ap (λ (k : Applied). k.no) p))
applied_one (Err e) (Err f) p =
    ap Err (λ k. record { why = number_one e.why f.why (ap (λ (k : Applied). k.no) p) k; held = (p k).mpu })

idle_once : (a : _) (r s : Switch) (e f : _) → idle.Post tt a r e → idle.Post tt a s f → r ≡ s
idle_once a r s e f p q = p ∙ sym q

start_once : (a : _) (r s : Result Switch (HandedBack Switch)) (e f : _) → start.Post tt a r e → start.Post tt a s f → r ≡ s
start_once a r s e f p q = started_one r s (p ∙ sym q)

step_once : (a : _) (r s : Result Progress (HandedBack Switch)) (e f : _) → step.Post tt a r e → step.Post tt a s f → r ≡ s
step_once a r s e f p q = stepped_one r s (p.0 ∙ sym q.0)

switch_to_partition_once : (a : _) (r s : Result Switch (HandedBack Switch)) (e f : _) → switch_to_partition.Post tt a r e → switch_to_partition.Post tt a s f → r ≡ s
switch_to_partition_once a r s e f p q = started_one r s (p ∙ sym q)

apply_program_once : (a : _) (r s : Result Logged (HandedBack Mpu)) (e f : _) → apply_program.Post tt a r e → apply_program.Post tt a s f → r ≡ s
apply_program_once a r s e f p q = applied_one r s (p ∙ sym q)

log_of_once : (a : _) (r s : List Write) (e f : _) → log_of.Post tt a r e → log_of.Post tt a s f → r ≡ s
log_of_once a r s e f p q = p ∙ sym q

-- ---- the answer that a contract allows is the definition's of eight slots, and so of ten writes
idle_eight : (m : Mpu) (r : Switch) → idle.Post tt (m, tt) r (m, tt) → r ≡ fresh 8 m (no_log 8)
idle_eight m r e = e

start_eight : (m : Mpu) (t : Table) (p : ℕ) (r : Result Switch (HandedBack Switch)) → start.Post tt (m, (t, (p, tt))) r (m, (t, (p, tt))) → started_of r ≡ started 8 m t p
start_eight m t p r e = e

step_eight : (s : Switch) (r : Result Progress (HandedBack Switch)) → step.Post tt (s, tt) r (s, tt) → stepped_of r ≡ stepped 8 s
step_eight s r e = e.0

switch_to_partition_eight : (m : Mpu) (t : Table) (p : ℕ) (r : Result Switch (HandedBack Switch)) → switch_to_partition.Post tt (m, (t, (p, tt))) r (m, (t, (p, tt))) → started_of r ≡ whole 8 m t p
switch_to_partition_eight m t p r e = e

apply_program_eight : (m : Mpu) (ws : List Write) (r : Result Logged (HandedBack Mpu)) → apply_program.Post tt (m, (ws, tt)) r (m, (ws, tt)) → applied_of r ≡ applied 8 m ws
apply_program_eight m ws r e = e

log_of_asked : (a : Result Logged (HandedBack Mpu)) (r : List Write) (e : _) → log_of.Post tt (a, tt) r e → r ≡ (applied_of a).log
log_of_asked a r e q = q
