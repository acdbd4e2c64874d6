-- The record that the write by value answers is the record received but for one place: none where it is refused, else the slot that the register names, or the control. So
-- a store in that place alone makes the whole record. Assumes nothing.
use mathlib.Core.Path.{◌≡◌}
use mathlib.Core.Bool.{true, false}
use lib.Dec.{ltb, eqb}
use lib.ListN.{set}
use Rattle.device.specs.declared.Mpu.{Mpu}
use Rattle.device.specs.declared.Write.{Write}
use Rattle.device.specs.RegisterWrite.{Written}
use Rattle.device.specs.Registers.{slot_count}
use Rattle.device.specs.RegisterWrite.{stored, write_register}

module _ (h : Mpu) (w : Write) (r : Written) (e : r ≡ write_register slot_count h w) where
  pub none_changes : eqb r.no 0 ≡ false → h ≡ r.mpu
  unfolding write_register
  none_changes refused = rw e (rw (rw e at refused))

  pub slot_changes : eqb r.no 0 ≡ true → ltb w.rnr 8 ≡ true → record { slots = set h.slots w.rnr (record { rbar = w.rbar; rasr = w.rasr }); control = h.control } ≡ r.mpu
  unfolding write_register stored
  slot_changes taken slot = rw e (rw (rw e at taken, slot))

  pub control_changes : eqb r.no 0 ≡ true → ltb w.rnr 8 ≡ false → record { slots = h.slots; control = w.rasr } ≡ r.mpu
  unfolding write_register stored
  control_changes taken control = rw e (rw (rw e at taken, control))
