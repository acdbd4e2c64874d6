-- What a line that goes on gives, one after the other; zeros where it gives no more.
--   triples_of line == the ten triples of an `apply`
--   records_of line == the 64 records of a `list`
--   record_count line == how many of them it gives; 65 where the line is no `list`
use Rattle.std.specs.Prelude.{List, ℕ, suc, get_or, Option}
use Rattle.laws.specs.Listed.{listed}
use Rattle.device.specs.declared.Write.{Write}
use Rattle.lent.specs.declared.MpuRegion.{MpuRegion}
use Rattle.form.specs.declared.Formed.{Formed}
use Rattle.form.specs.Form.{form_at, values_of}
use Rattle.form.specs.Choice.{times, repeats}
use Rattle.commands.specs.Command.{list_head, record_form, apply_head, triple_form}

abbrev pub write_of : Option Formed → Write
write_of f = record { rnr = get_or (values_of f) 0 0; rbar = get_or (values_of f) 1 0; rasr = get_or (values_of f) 2 0 }

abbrev pub record_of : Option Formed → MpuRegion
record_of f = record { base = get_or (values_of f) 0 0; size = get_or (values_of f) 1 0; attr = get_or (values_of f) 2 0 }

abbrev pub triple_at : List ℕ → ℕ → Write
triple_at line i = write_of (times line triple_form (suc i) (form_at line 0 apply_head))

abbrev pub record_at : List ℕ → ℕ → MpuRegion
record_at line i = record_of (times line record_form (suc i) (form_at line 0 list_head))

abbrev pub triples_of : List ℕ → List Write
triples_of line = listed (triple_at line) 0 10

abbrev pub records_of : List ℕ → List MpuRegion
records_of line = listed (record_at line) 0 64

abbrev pub record_count : List ℕ → ℕ
record_count line = repeats line list_head record_form 65
