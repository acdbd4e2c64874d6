-- What a command does to the table and the switch of the console: the routine's own definition, at the numbers of the line.
--   table_after t k    == the table after `empty`, `add`, `hand`
--   mpu_after m k ws   == the MPU after `reg`, `hand-slot`, `hand-ctrl`, and `apply` of the triples ws
--   switch_after t s k == the switch record after `start`, `step`, `whole`, `hand-triple`, `hand-at`
--   obeyed c k ws      == the console after a command; as it was after a line that tells, is silent or is bad
--   nothing_held       == the console at the start: the empty table, and zeros
use Rattle.std.specs.Prelude.{List, ltb, set, replicate}
use Rattle.laws.specs.Pick.{pick}
use Rattle.table.specs.declared.Table.{Table}
use Rattle.table.specs.Numbers.{slots}
use Rattle.table.specs.Table.{empty_table, with_entry}
use Rattle.table.specs.Builder.{try_add}
use Rattle.device.specs.declared.Mpu.{Mpu}
use Rattle.device.specs.declared.Write.{Write}
use Rattle.device.specs.Registers.{slot_count}
use Rattle.device.specs.RegisterWrite.{write_register}
use Rattle.switch.specs.declared.Switch.{Switch}
use Rattle.switch.specs.Switch.{no_log, fresh, started, stepped, whole}
use Rattle.switch.specs.Applied.{applied}
use Rattle.commands.specs.declared.Command.{Command}
use Rattle.commands.specs.declared.Command.TheVariants as command
use Rattle.commands.specs.declared.ToTable.{ToTable}
use Rattle.commands.specs.declared.ToTable.TheVariants.{Empty, Add, Hand}
use Rattle.commands.specs.declared.ToMpu.{ToMpu}
use Rattle.commands.specs.declared.ToMpu.TheVariants.{Reg, HandSlot, HandCtrl, Apply}
use Rattle.commands.specs.declared.ToSwitch.{ToSwitch}
use Rattle.commands.specs.declared.ToSwitch.TheVariants.{Start, Step, Whole, HandTriple, HandAt}
use Rattle.commands.specs.declared.change.Console.{Console}

abbrev no_mpu : Mpu
no_mpu = record { slots = replicate 8 (record { rbar = 0; rasr = 0 }); control = 0 }

abbrev pub nothing_held : Console
nothing_held = record { table = empty_table slots; switch = fresh slots no_mpu (no_log slots) }

abbrev pub table_after : Table → ToTable → Table
table_after t Empty = empty_table slots
table_after t (Add p q) = (try_add slots t p q).table
table_after t (Hand i e) = pick (ltb i 32) (with_entry t i e) t

abbrev pub mpu_after : Mpu → ToMpu → List Write → Mpu
mpu_after m (Reg w) ws = (write_register slot_count m w).mpu
mpu_after m (HandSlot i p) ws = pick (ltb i 8) (record { slots = set m.slots i p; control = m.control }) m
mpu_after m (HandCtrl v) ws = record { slots = m.slots; control = v }
mpu_after m Apply ws = (applied slots m ws).mpu

abbrev pub switch_after : Table → Switch → ToSwitch → Switch
switch_after t s (Start p) = (started slots s.mpu t p).switch
switch_after t s Step = (stepped slots s).switch
switch_after t s (Whole p) = (whole slots s.mpu t p).switch
switch_after t s (HandTriple i w) = pick (ltb i 10) (record { mpu = s.mpu; writes = set s.writes i w; position = s.position; log = s.log }) s
switch_after t s (HandAt n) = record { mpu = s.mpu; writes = s.writes; position = n; log = s.log }

abbrev pub with_mpu : Switch → Mpu → Switch
with_mpu s m = record { mpu = m; writes = s.writes; position = s.position; log = s.log }

abbrev pub obeyed : Console → Command → List Write → Console
obeyed c command.Bad ws = c
obeyed c command.Silent ws = c
obeyed c (command.Tell q) ws = c
obeyed c (command.Table k) ws = record { table = table_after c.table k; switch = c.switch }
obeyed c (command.Mpu k) ws = record { table = c.table; switch = with_mpu c.switch (mpu_after c.switch.mpu k ws) }
obeyed c (command.Switch k) ws = record { table = c.table; switch = switch_after c.table c.switch k }
