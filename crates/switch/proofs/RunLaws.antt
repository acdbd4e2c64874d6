-- Where a switch stands after k steps, and after all of them: k writes made, in order, k places of the log filled with them, the others zeros, position k.
-- Each step takes one such state to the next, since none of the writes is refused. Assumes nothing.
use mathlib.Core.Path.{◌≡◌, refl, sym, ◌∙◌, ap}
use mathlib.Core.Bool.{true, not}
use mathlib.Core.List.{List, [], ◌∷◌, ◌++◌, append_assoc, append-nil}
use Prim.Native.Nat.{ℕ, zero, suc, ◌+◌, ◌≤◌, ◌<◌}
use native.Mathlib.Nat.{add-zero, add-suc, suc-add, zero-add}
use native.Mathlib.Numerals.{add-one}
use native.Mathlib.Omega.{arith}
use borrow.Author.Tests.{ltb-true, lt-ltb, not-false}
use lib.ListN.{length, get_or, set, take, drop, length-replicate, drop_of_length-le}
use lib.Seq.{take-suc, drop-cons, set_at, length-take-le, take_all}
use Rattle.std.specs.Prelude.{Result, Err}
use Rattle.refusal.specs.declared.Refused.{Refused}
use Rattle.refusal.proofs.NumberLaws.{number_some}
use Rattle.device.specs.declared.Mpu.{Mpu}
use Rattle.device.specs.declared.Write.{Write}
use Rattle.device.specs.Registers.{ctrl, allowed}
use Rattle.device.specs.RegisterWrite.{triple_no, write_register}
use Rattle.device.proofs.RefusedWriteLaws.{held_allowed}
use Rattle.device.proofs.ControlLaws.{allowed_exactly}
use Rattle.device.proofs.StoredLaws.{allowed_kept}
use Rattle.table.specs.declared.Table.{Table}
use Rattle.table.specs.Numbers.{parts, slots}
use Rattle.table.proofs.LawfulLaws.{lawful_exactly}
use Rattle.sequence.specs.Sequence.{triple, writes, sequence}
use Rattle.sequence.proofs.WritesLaws.{writes_at, writes_length, sequence_0}
use Rattle.sequence.proofs.SoundWrites.{writes_sound}
use Rattle.switch.specs.declared.Switch.{Switch}
use Rattle.switch.specs.Switch.{Started, Stepped, Wrote, fresh, start_no, started, advanced, stepped, steps, whole, started_of}
use Rattle.switch.specs.Applied.{write_all}
use Rattle.switch.proofs.StartNo.{zeros, start_0, start_accepted, whole_refused, whole_accepted}
use Rattle.switch.proofs.NumberLaws.{start_none}
use Rattle.switch.proofs.StepLaws.{step_wrote}

-- ---- one more write at the end
write_last : (n : ℕ) (m : Mpu) (xs : List Write) (w : Write) → write_all n m (xs ++ (w ∷ [])) ≡ (write_register n (write_all n m xs) w).mpu
unfolding write_all
write_last n m [] w = refl
write_last n m (x ∷ xs) w = write_last n (write_register n m x).mpu xs w

write_allowed : (n : ℕ) → n ≤ ctrl → (m : Mpu) (xs : List Write) → allowed m.control ≡ true → allowed (write_all n m xs).control ≡ true
unfolding write_all
write_allowed n few m [] h = h
write_allowed n few m (x ∷ xs) h = write_allowed n few (write_register n m x).mpu xs (allowed_kept n m x few h)

-- ---- a log with i places filled from ws, and one more
log_next : (ws zs : List Write) (z : Write) (i : ℕ) → i < length ws → i < length zs → set (take i ws ++ drop i zs) i (get_or ws i z) ≡ take (suc i) ws ++ drop (suc i) zs
log_next ws zs z i h k =
    rw (drop-cons zs i z k)
    (set_at (take i ws) (get_or zs i z) (drop (suc i) zs) (get_or ws i z) i (length-take-le i ws (omega arith))
    ∙ sym (ap (λ (l : List Write). l ++ drop (suc i) zs) (take-suc ws i z h) ∙ append_assoc (take i ws) (get_or ws i z ∷ []) (drop (suc i) zs)))

-- ---- triples that no MPU with an allowed control refuses
module _ (n : ℕ) (few : n ≤ ctrl) (m : Mpu) (held : allowed m.control ≡ true) (ws : List Write) (len : length ws ≡ n + 2) (sound : (i : ℕ) → i < n + 2 → triple_no n (get_or ws i (triple 0 0 0)) ≡ 0) where
  abbrev pub state : ℕ → Switch
  state i = record { mpu = write_all n m (take i ws); writes = ws; position = i; log = take i ws ++ drop i (zeros n) }

  pub taken : (i : ℕ) → i < n + 2 → (write_register n (state i).mpu (get_or ws i (triple 0 0 0))).no ≡ 0
  unfolding write_register
  taken i h = held_allowed n (state i).mpu _ (write_allowed n few m (take i ws) held) ∙ sound i h

  next : (i : ℕ) → i < n + 2 → advanced (state i) (write_register n (state i).mpu (get_or ws i (triple 0 0 0))).mpu ≡ state (suc i)
  next i h = λ k.
      record { mpu = (sym (write_last n m (take i ws) (get_or ws i (triple 0 0 0))) ∙ ap (write_all n m) (sym (take-suc ws i (triple 0 0 0) (rw len h)))) k; writes = ws; position = add-one i k; log = log_next ws (zeros n) (triple 0 0 0) i (rw len h) (rw (length-replicate (n + 2) (triple 0 0 0)) h) k }

  pub step_state : (i : ℕ) → i < n + 2 → stepped n (state i) ≡ record { did = Wrote; switch = state (suc i) }
  step_state i h = step_wrote n (state i) h (taken i h) ∙ ap (λ (s : Switch). record { did = Wrote; switch = s }) (next i h)

  pub steps_state : (k i : ℕ) → i + k ≤ n + 2 → steps n k (state i) ≡ state (i + k)
  unfolding steps
  steps_state zero i h = ap state (sym (add-zero i))
  steps_state (suc k) i h =
      ap (λ (r : Stepped). steps n k r.switch) (step_state i (omega arith)) ∙ steps_state k (suc i) (omega arith) ∙ ap state (suc-add i k ∙ sym (add-suc i k))

  -- all of them: every write made, every place of the log filled
  pub all_state : steps n (n + 2) (fresh n m ws) ≡ record { mpu = write_all n m ws; writes = ws; position = n + 2; log = ws }
  unfolding write_all
  all_state =
      steps_state (n + 2) 0 (omega arith)
      ∙ ap state (zero-add (n + 2))
      ∙ λ k.
      record { mpu = write_all n m (every k); writes = ws; position = n + 2; log = (ap (λ (l : List Write). l ++ drop (n + 2) (zeros n)) every ∙ ap (λ (l : List Write). ws ++ l) (drop_of_length-le (zeros n) {i = n + 2} (rw (length-replicate (n + 2) (triple 0 0 0)) (omega arith))) ∙ append-nil ws) k }
    where
      every : take (n + 2) ws ≡ ws
      every = take_all (n + 2) ws (rw len (omega arith))

-- ---- the whole, of a switch that is not refused: every write of the partition made and logged
pub whole_state : (n : ℕ) → n ≤ ctrl → (m : Mpu) (t : Table) (p : ℕ) → (sequence n t p).no ≡ 0 → allowed m.control ≡ true → whole n m t p ≡ record { no = 0; switch = record { mpu = write_all n m (writes n t p); writes = writes n t p; position = n + 2; log = writes n t p } }
whole_state n few m t p e held =
    let w = (sequence_0 n t p).0 e in
    let from = start_accepted n m t p (start_0 n m t p e held) in
    let part : p < parts = ltb-true p parts (not-false _ w.0) in
    whole_accepted n m t p (ap (λ (r : Started). r.no) from)
    ∙ ap (λ (r : Started). record { no = 0; switch = steps n (n + 2) r.switch }) from
    ∙ ap (λ (s : Switch). record { no = 0; switch = s })
    (all_state n few m held (writes n t p) (writes_length n t p) (λ i h. ap (triple_no n) (writes_at n t p i (triple 0 0 0) h) ∙ writes_sound n few t p ((lawful_exactly n t).0 w.1 p part) i h))

-- ---- the whole, by what its start answered
pub whole_err : (m : Mpu) (t : Table) (p : ℕ) (r : Result Switch (Refused Switch)) (e : Refused Switch) → r ≡ Err e → started_of (Err e) ≡ started slots m t p → started_of r ≡ whole slots m t p
whole_err m t p r e q s =
    let no = ap (λ (x : Started). x.no) s in
    ap started_of q ∙ s ∙ sym (whole_refused slots m t p (λ z. number_some e.why (no ∙ z)))

pub whole_ok : (m : Mpu) (t : Table) (p : ℕ) (s : Switch) → record { no = 0; switch = s } ≡ started slots m t p → record { no = 0; switch = record { mpu = write_all slots m s.writes; writes = s.writes; position = 10; log = s.writes } } ≡ whole slots m t p
unfolding started
whole_ok m t p s h =
    let quiet : start_no slots m t p ≡ 0 = sym (ap (λ (x : Started). x.no) h) in
    let q = (start_none slots m t p).0 quiet in
    let same : s.writes ≡ writes slots t p = ap (λ (x : Started). x.switch.writes) (h ∙ start_accepted slots m t p quiet) in
    (λ i. record { no = 0; switch = record { mpu = write_all slots m (same i); writes = same i; position = 10; log = same i } })
    ∙ sym (whole_state slots (omega arith) m t p ((sequence_0 slots t p).1 (ap not (lt-ltb _ _ q.0), q.1)) ((allowed_exactly _).1 q.2))
