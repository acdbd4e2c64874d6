-- The example of the paper: partition 1 gets 1024 bytes at 536870912, writable, then 65536 at 134217728, read-only. The ten writes of a switch to it.
use Rattle.std.specs.Prelude.{true, false, List, [], ◌∷◌}
use Rattle.table.specs.declared.Table.{Table}
use Rattle.table.specs.declared.Request.{Request}
use Rattle.table.specs.Numbers.{slots}
use Rattle.table.specs.Table.{empty_table}
use Rattle.table.specs.Builder.{try_add}
use Rattle.device.specs.declared.Write.{Write}
use Rattle.sequence.specs.Sequence.{triple}

abbrev pub data1 : Request
data1 = record { base = 536870912; size = 1024; writable = true }

abbrev pub code1 : Request
code1 = record { base = 134217728; size = 65536; writable = false }

abbrev pub example : Table
example = (try_add slots (try_add slots (empty_table slots) 1 data1).table 1 code1).table

abbrev pub ten_writes : List Write
ten_writes =
    triple 4294967295 0 0
    ∷ triple 0 536870912 50331667
    ∷ triple 1 134217728 100663327
    ∷ triple 2 0 0
    ∷ triple 3 0 0
    ∷ triple 4 0 0
    ∷ triple 5 0 0
    ∷ triple 6 0 0
    ∷ triple 7 0 0
    ∷ triple 4294967295 0 1
    ∷ []
