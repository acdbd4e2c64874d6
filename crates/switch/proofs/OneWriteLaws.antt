-- A step makes exactly one write, or is refused and changes nothing, in numbers. After a write that is not refused, the register that it names holds its
-- values, and every other register is as it was; a step is that, its triple in the log and a count. Assumes nothing.
use mathlib.Core.Path.{◌≡◌, refl, sym, ◌∙◌, ap, subst}
use mathlib.Core.Bool.{true}
use mathlib.Core.Logic.{inr, ⊎_elim}
use Prim.Native.Nat.{ℕ, ◌+◌, ◌≤◌, ◌<◌}
use native.Mathlib.Omega.{arith}
use lib.ListN.{length}
use lib.Seq.{get_or-set_same, get_or-set_other}
use Rattle.laws.proofs.BoolLaws.{fails_exactly}
use Rattle.device.specs.declared.Mpu.{Mpu}
use Rattle.device.specs.declared.Write.{Write}
use Rattle.device.specs.RegisterWrite.{Written}
use Rattle.device.specs.Registers.{slot_at, allowed}
use Rattle.device.specs.RegisterWrite.{triple_no, write_no, stored, write_register}
use Rattle.device.proofs.ControlLaws.{Allowed, allowed_exactly}
use Rattle.device.proofs.RefusedWriteLaws.{held_allowed, number_exactly, ten_exactly, eleven_exactly, twelve_exactly}
use Rattle.device.proofs.StoredLaws.{accepted_stored, slot_stored, slots_stay, control_stays, slots_length, control_stored, allowed_kept}
use Rattle.switch.specs.declared.Switch.{Switch}
use Rattle.switch.specs.Switch.{Wrote, Refused, Stepped, stepped}
use Rattle.switch.proofs.StepLaws.{step_wrote, step_refused}
use Rattle.switch.proofs.HandLaws.{at, Sound, Bad10, Bad11, Bad12, sound_exactly}

module _ (n : ℕ) where
  -- an MPU of n slots whose control is allowed
  pub record Ready (m : Mpu) : Type 0 where
    pub held : Allowed m.control
    pub whole : length m.slots ≡ n

  -- from m to u the one write w is made
  pub record OneWrite (m : Mpu) (w : Write) (u : Mpu) : Type 0 where
    pub slot : w.rnr < n → slot_at u.slots w.rnr ≡ record { rbar = w.rbar; rasr = w.rasr }
    pub other_slots : (k : ℕ) → ¬ (k ≡ w.rnr) → slot_at u.slots k ≡ slot_at m.slots k
    pub control : w.rnr ≡ 4294967295 → u.control ≡ w.rasr
    pub control_stays : ¬ (w.rnr ≡ 4294967295) → u.control ≡ m.control

  -- a step: its triple logged at its place and nowhere else, counted, and the one write made
  pub record OneStep (s : Switch) (r : Stepped) : Type 0 where
    pub did : r.did ≡ Wrote
    pub position : r.switch.position ≡ s.position + 1
    pub writes : r.switch.writes ≡ s.writes
    pub logged : at r.switch.log s.position ≡ at s.writes s.position
    pub other_places : (j : ℕ) → ¬ (j ≡ s.position) → at r.switch.log j ≡ at s.log j
    pub mpu : OneWrite s.mpu (at s.writes s.position) r.switch.mpu

module _ (n : ℕ) (few : n ≤ 4294967295) where
  module _ (m : Mpu) (w : Write) (ready : Ready n m) (sound : Sound n w) where
    may : allowed m.control ≡ true
    may = (allowed_exactly m.control).1 ready.held

    taken : write_register n m w ≡ record { no = 0; mpu = stored n m w }
    taken = accepted_stored n m w (held_allowed n m w may ∙ (sound_exactly n few w).1 sound)

    pub one_write : OneWrite n m w (write_register n m w).mpu
    one_write =
        subst (λ (r : Written). OneWrite n m w r.mpu) (sym taken)
        (record { slot = λ h. slot_stored n m w h (rw ready.whole h); other_slots = slots_stay n m w; control = λ e. ap (λ (u : Mpu). u.control) (control_stored n m w few e); control_stays = λ d. ⊎_elim (λ q. control_stays n m w q.0) (λ q. absurd (d q.0)) sound })

    pub still_ready : Ready n (write_register n m w).mpu
    still_ready =
        record { held = (allowed_exactly _).0 (allowed_kept n m w few may); whole = ap (λ (r : Written). length r.mpu.slots) taken ∙ slots_length n m w ∙ ready.whole }

  pub one_step : (s : Switch) → s.position < n + 2 → length s.log ≡ n + 2 → Ready n s.mpu → Sound n (at s.writes s.position) → OneStep n s (stepped n s)
  one_step s h l ready sound =
      subst (OneStep n s) (sym (step_wrote n s h (ap (λ (r : Written). r.no) (taken s.mpu (at s.writes s.position) ready sound))))
      (record { did = refl; position = refl; writes = refl; logged = get_or-set_same s.log s.position _ _ (rw l h); other_places = λ j d. get_or-set_other s.log s.position j _ _ d; mpu = one_write s.mpu (at s.writes s.position) ready sound })

-- ---- a step whose write is refused: its number, and the switch as received
module _ (n : ℕ) (few : n ≤ 4294967295) (s : Switch) (h : s.position < n + 2) where
  abbrev due : Write
  due = at s.writes s.position

  refused_with : (k : ℕ) → ¬ (k ≡ 0) → write_no n s.mpu due ≡ k → stepped n s ≡ record { did = Refused k; switch = s }
  unfolding write_register
  refused_with k z e = step_refused n s h (λ q. z (sym e ∙ q)) ∙ ap (λ (x : ℕ). record { did = Refused x; switch = s }) e

  pub step_held_12 : ¬ Allowed s.mpu.control → stepped n s ≡ record { did = Refused 12; switch = s }
  step_held_12 b = refused_with 12 (λ e. omega (arith, e)) ((number_exactly n s.mpu due 12).1 (inr ((fails_exactly (allowed_exactly _)).1 b, refl)))

  module _ (held : Allowed s.mpu.control) where
    by_triple : (k : ℕ) → ¬ (k ≡ 0) → triple_no n due ≡ k → stepped n s ≡ record { did = Refused k; switch = s }
    by_triple k z e = refused_with k z (held_allowed n s.mpu due ((allowed_exactly _).1 held) ∙ e)

    pub step_10 : Bad10 n due → stepped n s ≡ record { did = Refused 10; switch = s }
    step_10 b = by_triple 10 (λ e. omega (arith, e)) ((ten_exactly n due).1 b)

    pub step_11 : Bad11 n due → stepped n s ≡ record { did = Refused 11; switch = s }
    step_11 b = by_triple 11 (λ e. omega (arith, e)) ((eleven_exactly n due).1 b)

    pub step_12 : Bad12 due → stepped n s ≡ record { did = Refused 12; switch = s }
    step_12 b = by_triple 12 (λ e. omega (arith, e)) ((twelve_exactly n due few).1 (b.0, (fails_exactly (allowed_exactly _)).1 b.1))
