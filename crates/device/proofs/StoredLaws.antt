-- What an accepted register write stores and what stays: `set` at the slot's place of the list, or the control alone. Assumes nothing.
use mathlib.Core.Path.{◌≡◌, refl, sym, ◌∙◌}
use mathlib.Core.Bool.{Bool, true, false}
use mathlib.Core.Logic.{◌⊎◌, inl, inr}
use Prim.Native.Nat.{ℕ, ◌/◌, ◌%◌, ◌≤◌, ◌<◌}
use borrow.Author.Tests.{lt-ltb, le-ltb, eqb-true, eqb-false}
use lib.Dec.{eqb}
use lib.ListN.{length, set, length-set}
use lib.Seq.{get_or-set_same, get_or-set_other}
use Rattle.laws.specs.Pick.{pick}
use Rattle.laws.proofs.BoolLaws.{pick-ap}
use Rattle.laws.proofs.TestLaws.{pick_same}
use Rattle.device.specs.declared.Pair.{Pair}
use Rattle.device.specs.declared.Mpu.{Mpu}
use Rattle.device.specs.declared.Write.{Write}
use Rattle.device.specs.Registers.{slot_at, allowed}
use Rattle.device.specs.RegisterWrite.{slot_named, pair_of, write_no, stored, write_register}
use Rattle.device.proofs.RefusedWriteLaws.{held_allowed, refused_kept, zero_exactly}

module _ (n : ℕ) (m : Mpu) (w : Write) where
  pub accepted_stored : write_no n m w ≡ 0 → write_register n m w ≡ record { no = 0; mpu = stored n m w }
  unfolding write_register
  accepted_stored e = rw e

  -- ---- a slot: both values unaltered there
  pub slot_stored : w.rnr < n → w.rnr < length m.slots → slot_at (stored n m w).slots w.rnr ≡ record { rbar = w.rbar; rasr = w.rasr }
  unfolding stored
  slot_stored h l = rw (lt-ltb _ _ h) (get_or-set_same m.slots w.rnr _ _ l)

  -- every other slot, and the control, as it was
  pub slots_stay : (k : ℕ) → ¬ (k ≡ w.rnr) → slot_at (stored n m w).slots k ≡ slot_at m.slots k
  unfolding stored
  slots_stay k h = by (slot_named n w)
    where
      by : (s : Bool) → slot_at (pick s (set m.slots w.rnr (pair_of w)) m.slots) k ≡ slot_at m.slots k
      by true = get_or-set_other m.slots w.rnr k _ _ h
      by false = refl

  pub control_stays : w.rnr < n → (stored n m w).control ≡ m.control
  unfolding stored
  control_stays h = rw (lt-ltb _ _ h)

  pub slots_length : length (stored n m w).slots ≡ length m.slots
  unfolding stored
  slots_length = simp (pick-ap (length {A = Pair}), length-set, pick_same)

  -- ---- the control: the third value, every slot as it was, the second value nowhere
  pub control_stored : n ≤ 4294967295 → w.rnr ≡ 4294967295 → stored n m w ≡ record { slots = m.slots; control = w.rasr }
  unfolding stored
  control_stored l e = let above : slot_named n w ≡ false = rw e (le-ltb 4294967295 n l) in rw above

  -- an MPU whose control is allowed keeps an allowed one, whatever is written
  pub allowed_kept : n ≤ 4294967295 → allowed m.control ≡ true → allowed (write_register n m w).mpu.control ≡ true
  allowed_kept l held = by (eqb (write_no n m w) 0) refl
    where
      kept : ((w.rnr < n) × (¬ (w.rbar / 16 % 2 ≡ 1))) ⊎ ((w.rnr ≡ 4294967295) × (allowed w.rasr ≡ true)) → allowed (stored n m w).control ≡ true
      kept (inl h) = rw (control_stays h.0) held
      kept (inr h) = rw (control_stored l h.0) h.1

      by : (z : Bool) → eqb (write_no n m w) 0 ≡ z → allowed (write_register n m w).mpu.control ≡ true
      by true e =
          let taken : write_no n m w ≡ 0 = eqb-true _ _ e in
          rw (accepted_stored taken) (kept ((zero_exactly n w l).0 (sym (held_allowed n m w held) ∙ taken)))
      by false e = rw (refused_kept n m w (eqb-false _ _ e)) held
