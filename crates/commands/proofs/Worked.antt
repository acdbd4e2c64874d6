-- The worked lines hold: computed. What a line does, to any console, is the routine's own definition at the numbers of the line. Assumes nothing.
use mathlib.Core.Path.{◌≡◌, refl}
use mathlib.Core.Bool.{true, false}
use mathlib.Core.List.{[], ◌∷◌}
use lib.Dec.{eqb}
use lib.ListN.{set}
use Rattle.laws.specs.Cases.{holds}
use Rattle.laws.specs.Search.{first, lowest}
use Rattle.text.specs.Digits.{run}
use Rattle.text.specs.Read.{number_at}
use Rattle.form.specs.Form.{value_at, kept, read_on, formed}
use Rattle.form.specs.Choice.{onward, times, repeats}
use Rattle.commands.specs.Command.{meant, command_of}
use Rattle.table.specs.Table.{empty_table, with_entry}
use Rattle.table.specs.Builder.{try_add}
use Rattle.device.specs.RegisterWrite.{write_register}
use Rattle.sequence.specs.Sequence.{triple}
use Rattle.switch.specs.Switch.{started, stepped, whole}
use Rattle.switch.specs.Applied.{applied}
use Rattle.commands.specs.declared.change.Console.{Console}
use Rattle.commands.specs.Worked.{cases, after, ten_triples}

worked : holds (λ c. eqb c.got c.due) cases ≡ true
unfolding first lowest run number_at value_at kept read_on formed onward times repeats meant command_of
worked = refl

module _ (c : Console) where
  tables :
      (after c "empty" ≡ record { table = empty_table 8; switch = c.switch })
      × (after c "add part=1 base=64 size=32 write=1" ≡ record { table = (try_add 8 c.table 1 (record { base = 64; size = 32; writable = true })).table; switch = c.switch })
      × (after c "add part=4294967295 base=0 size=7 write=0" ≡ record { table = (try_add 8 c.table 4294967295 (record { base = 0; size = 7; writable = false })).table; switch = c.switch })
      × (after c "hand at=31 enabled=1 base=5 size=7 write=0" ≡ record { table = with_entry c.table 31 (record { base = 5; size = 7; enabled = true; writable = false }); switch = c.switch })
      × (after c "hand at=0 enabled=0 base=5 size=7 write=1" ≡ record { table = with_entry c.table 0 (record { base = 5; size = 7; enabled = false; writable = true }); switch = c.switch })
  unfolding first lowest run number_at value_at kept read_on formed onward times repeats meant command_of
  tables = (refl, refl, refl, refl, refl)

  registers :
      (after c "reg rnr=3 rbar=64 rasr=9" ≡ record { table = c.table; switch = record { mpu = (write_register 8 c.switch.mpu (triple 3 64 9)).mpu; writes = c.switch.writes; position = c.switch.position; log = c.switch.log } })
      × (after c "hand-slot slot=7 rbar=64 rasr=9"
      ≡ record { table = c.table; switch = record { mpu = record { slots = set c.switch.mpu.slots 7 (record { rbar = 64; rasr = 9 }); control = c.switch.mpu.control }; writes = c.switch.writes; position = c.switch.position; log = c.switch.log } })
      × (after c "hand-ctrl ctrl=7" ≡ record { table = c.table; switch = record { mpu = record { slots = c.switch.mpu.slots; control = 7 }; writes = c.switch.writes; position = c.switch.position; log = c.switch.log } })
      × (after c ten_triples
      ≡ record {
        table = c.table;
        switch =
            record {
              mpu = (applied 8 c.switch.mpu (triple 0 10 20 ∷ triple 1 11 21 ∷ triple 2 12 22 ∷ triple 3 13 23 ∷ triple 4 14 24 ∷ triple 5 15 25 ∷ triple 6 16 26 ∷ triple 7 17 27 ∷ triple 8 18 28 ∷ triple 9 19 29 ∷ [])).mpu;
              writes = c.switch.writes;
              position = c.switch.position;
              log = c.switch.log;
            };
      })
  unfolding first lowest run number_at value_at kept read_on formed onward times repeats meant command_of
  registers = (refl, refl, refl, refl)

  switches :
      (after c "start part=2" ≡ record { table = c.table; switch = (started 8 c.switch.mpu c.table 2).switch })
      × (after c "step" ≡ record { table = c.table; switch = (stepped 8 c.switch).switch })
      × (after c "whole part=2" ≡ record { table = c.table; switch = (whole 8 c.switch.mpu c.table 2).switch })
      × (after c "hand-triple n=9 rnr=1 rbar=2 rasr=3" ≡ record { table = c.table; switch = record { mpu = c.switch.mpu; writes = set c.switch.writes 9 (triple 1 2 3); position = c.switch.position; log = c.switch.log } })
      × (after c "hand-at at=11" ≡ record { table = c.table; switch = record { mpu = c.switch.mpu; writes = c.switch.writes; position = 11; log = c.switch.log } })
  unfolding first lowest run number_at value_at kept read_on formed onward times repeats meant command_of
  switches = (refl, refl, refl, refl, refl)
