-- The numbers of partitions and slots.
--   parts, slots, cells == 4 partitions of 8 slots, 32 places
--   flat_index n p s    == slot count x partition + slot
--   parted, slotted     == the number as a partition or a slot, if it is below 4 or 8
use Rattle.std.specs.Prelude.{ℕ, ◌+◌, ◌*◌, ltb, Option, Some, None}
use Rattle.laws.specs.Pick.{pick}
use Rattle.table.specs.declared.numbers.Part.{Part}
use Rattle.table.specs.declared.numbers.Slot.{Slot}

abbrev pub parts : ℕ
parts = 4

abbrev pub slots : ℕ
slots = 8

abbrev pub cells : ℕ
cells = parts * slots

abbrev pub flat_index : ℕ → ℕ → ℕ → ℕ
flat_index n p s = n * p + s

abbrev pub parted : ℕ → Option Part
parted n = pick (ltb n parts) (Some (record { 0 = n })) None

abbrev pub slotted : ℕ → Option Slot
slotted n = pick (ltb n slots) (Some (record { 0 = n })) None
