-- Demand 3. The switch, seen as an MPU and a place in its writes, is the machine of `order`: each step makes exactly the write at its position, and none
-- is refused. Its first write turns the MPU off, no middle write turns it on, and the last leaves the partition's map. Assumes nothing.
use mathlib.Core.Path.{◌≡◌, refl, sym, ◌∙◌, ap, ap₂, subst, fun_ext}
use mathlib.Core.Bool.{true, not}
use mathlib.Core.List.{List}
use Prim.Native.Nat.{ℕ, ◌+◌, ◌≤◌, ◌<◌}
use native.Mathlib.Decide.{dec_lt}
use native.Mathlib.Omega.{arith}
use borrow.Author.Tests.{lt-ltb}
use lib.ListN.{length, get_or}
use Rattle.std.specs.Prelude.{Result}
use Rattle.laws.proofs.ListedLaws.{length-listed}
use Rattle.refusal.specs.declared.Refusal.{Refusal}
use Rattle.table.specs.declared.Table.{Table}
use Rattle.table.specs.Numbers.{parts}
use Rattle.table.specs.Table.{slot_entry}
use Rattle.table.specs.Lawful.{Lawful}
use Rattle.table.specs.Built.{Built}
use Rattle.table.proofs.LawfulLaws.{lawful_exactly}
use Rattle.table.proofs.BuiltLaws.{built_lawful}
use Rattle.device.specs.declared.Mpu.{Mpu}
use Rattle.device.specs.declared.Write.{Write}
use Rattle.device.specs.declared.Access.{Access}
use Rattle.device.specs.declared.Answer.{Answer}
use Rattle.device.specs.Registers.{ctrl, allowed}
use Rattle.device.specs.RegisterWrite.{triple_no, write_register}
use Rattle.device.specs.Decision.{decision}
use Rattle.device.proofs.RefusedWriteLaws.{held_allowed}
use Rattle.device.proofs.StoredLaws.{allowed_kept}
use Rattle.sequence.specs.Sequence.{triple, off, on, slot_write, writes}
use Rattle.sequence.proofs.WritesLaws.{middle, writes_at, writes_length, writes_switch, sequence_0}
use Rattle.sequence.proofs.SoundWrites.{writes_sound}
use Rattle.switch.specs.declared.Switch.{Switch}
use Rattle.switch.specs.Switch.{Started, Stepped, fresh, due, started, stepped}
use Rattle.switch.proofs.StartNo.{start_0, start_accepted}
use Rattle.switch.proofs.StepLaws.{step_finished, step_wrote}
use Rattle.order.specs.Play.{Event, play, counted}
use Rattle.order.specs.Cut.{cut, in_force, OneOf}
use Rattle.order.specs.Machine.{Machine, run, step}
use Rattle.order.proofs.CutLaws.{cut_counted, in_force_one, in_force_new}
use Rattle.order.proofs.SwitchLaws.{play_cut}
use Rattle.order.proofs.MachineLaws.{step_makes, step_past, run_play, run_view}
use Rattle.isolation.specs.Maps.{dark, partition_map, asked}
use Rattle.isolation.proofs.LoadLaws.{put, Off, off_off, middle_quiet, loaded}
use Rattle.isolation.proofs.AnswerLaws.{off_dark, loaded_answers}

module _ (n : ℕ) (few : n ≤ ctrl) (t : Table) (p : ℕ) (lawful : Lawful n t p) where
  -- ---- the switch as a machine of `order`
  abbrev view : Switch → Machine Mpu
  view s = record { state = s.mpu; place = s.position }

  abbrev move : Switch → Switch
  move s = (stepped n s).switch

  -- the partition's writes, and an MPU that may take them
  record Going (s : Switch) : Type 0 where
    sent : s.writes ≡ writes n t p
    held : allowed s.mpu.control ≡ true

  -- within the writes, the step's write is not refused
  taken : (s : Switch) → Going s → s.position < n + 2 → (write_register n s.mpu (due s)).no ≡ 0
  unfolding write_register
  taken s g h =
      held_allowed n s.mpu (due s) g.held
      ∙ ap (triple_no n) (ap (λ (ws : List Write). get_or ws s.position (triple 0 0 0)) g.sent ∙ writes_at n t p s.position (triple 0 0 0) h)
      ∙ writes_sound n few t p lawful s.position h

  -- u is where a step of s leads, in both views
  abbrev Moved : Switch → Switch → Type 0
  Moved s u = Going u × (view u ≡ step (put n) (triple 0 0 0) (writes n t p) (view s))

  moved : (s : Switch) → Going s → Dec (s.position < n + 2) → Moved s (move s)
  moved s g (yes h) =
      subst (Moved s) (sym (ap (λ (r : Stepped). r.switch) (step_wrote n s h (taken s g h)))) (
        record { sent = g.sent; held = allowed_kept n s.mpu (due s) few g.held },
        ap (λ (ws : List Write). record { state = put n s.mpu (get_or ws s.position (triple 0 0 0)); place = s.position + 1 }) g.sent
            ∙ sym (step_makes (put n) (triple 0 0 0) (writes n t p) (view s) (rw (writes_length n t p) h)),
      )
  moved s g (no h) =
      subst (Moved s) (sym (ap (λ (r : Stepped). r.switch) (step_finished n s (omega arith))))
      (g, sym (step_past (put n) (triple 0 0 0) (writes n t p) (view s) (rw (writes_length n t p) (omega arith))))

  keeps : (s : Switch) → Going s → Going (move s)
  keeps s g = (moved s g (dec_lt s.position (n + 2))).0

  alike : (s : Switch) → Going s → view (move s) ≡ step (put n) (triple 0 0 0) (writes n t p) (view s)
  alike s g = (moved s g (dec_lt s.position (n + 2))).1

  -- ---- the switch from its start, on any MPU of n slots whose control is allowed
  module _ (m : Mpu) (whole : length m.slots ≡ n) (held : allowed m.control ≡ true) where
    pub three_maps : (es : List (Event Access)) → run move (λ (s : Switch). decision n s.mpu) (fresh n m (writes n t p)) es ≡ cut (decision n m) dark (partition_map n t p) n es
    three_maps es =
        run_view move (step (put n) (triple 0 0 0) (writes n t p)) (λ (x : Machine Mpu). decision n x.state) view Going keeps alike (fresh n m (writes n t p)) es (record { sent = refl; held = held })
        ∙ run_play (put n) (decision n) (triple 0 0 0) (writes n t p) m es
        ∙ ap (λ (ws : List Write). play (put n) (decision n) m ws es) (writes_switch n t p)
        ∙ play_cut (put n) (decision n) Off dark (off_dark n) m off (middle n t p) on (off_off n few m held) (middle_quiet n few t p lawful) es
        ∙ ap₂ (λ (new : Access → Result Answer Refusal) (k : ℕ). cut (decision n m) dark new k es) (fun_ext (λ a. loaded_answers n t p lawful _ (loaded n few t p lawful m whole held) a)) (length-listed (λ (s : ℕ). slot_write s (slot_entry n t p s)) 0 n)

-- ---- demand 3, of every table that the builder made, stated of what starting and stepping answer
module _ (n : ℕ) (few : n ≤ ctrl) (t : Table) (built : Built n t) (p : ℕ) (part : p < parts) (m : Mpu) (whole : length m.slots ≡ n) (held : allowed m.control ≡ true) where
  pub starts : started n m t p ≡ record { no = 0; switch = fresh n m (writes n t p) }
  starts = start_accepted n m t p (start_0 n m t p ((sequence_0 n t p).1 (ap not (lt-ltb p parts part), built_lawful built)) held)

  pub demand_3 : (es : List (Event Access)) → asked n m t p es ≡ cut (decision n m) dark (partition_map n t p) n es
  demand_3 es =
      ap (λ (r : Started). run (λ (s : Switch). (stepped n s).switch) (λ (s : Switch). decision n s.mpu) r.switch es) starts
      ∙ three_maps n few t p ((lawful_exactly n t).0 (built_lawful built) p part) m whole held es

  -- by counting: the number of steps before an access says which map answers it
  pub by_steps : (es : List (Event Access)) → asked n m t p es ≡ counted (in_force (decision n m) dark (partition_map n t p) n) 0 es
  by_steps es = demand_3 es ∙ cut_counted (decision n m) dark (partition_map n t p) n es

  -- no mixed map ever answers: after any number of steps one of the three maps, whole, answers all that is asked
  pub no_mixed_map : (at : ℕ → Access → Result Answer Refusal) × ((k : ℕ) → OneOf (decision n m) dark (partition_map n t p) (at k)) × ((es : List (Event Access)) → asked n m t p es ≡ counted at 0 es)
  no_mixed_map = (in_force (decision n m) dark (partition_map n t p) n, in_force_one (decision n m) dark (partition_map n t p) n, by_steps)

  -- from the last write on it is the partition's map, however many steps are still made
  pub past_the_last : (k : ℕ) → n + 2 ≤ k → in_force (decision n m) dark (partition_map n t p) n k ≡ partition_map n t p
  past_the_last k h = in_force_new (decision n m) dark (partition_map n t p) n k h
