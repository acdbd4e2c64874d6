-- What the exported routines answer: the list of single answers.
--   case_at ms ws i       == the case of the answer of the MPU ms to access i of ws
--   table_after ws i      == the table after the first i requests, from the empty one on
--   table_by ws           == the table after all of them that are whole
--   added_at ws i         == the builder's answer to request i
--   switch_after t m ps i == the last of i switches, each going on from the MPU of the one before; at first, one that wrote nothing
--   switched_at t m ps i  == the number of switch i
--   found_at ws n i       == what list i is found to be
--   found_word_at ws n k  == word k of the answers about the lists, three for each
use Rattle.std.specs.Prelude.{List, ℕ, zero, suc, ◌/◌, ◌%◌, length}
use Rattle.region.specs.List.{Judged, record_at, records, judged}
use Rattle.device.specs.declared.Mpu.{Mpu}
use Rattle.device.specs.Registers.{slot_count}
use Rattle.device.specs.Decision.{decision}
use Rattle.table.specs.declared.Table.{Table}
use Rattle.table.specs.Numbers.{slots}
use Rattle.table.specs.Table.{empty_table}
use Rattle.table.specs.Builder.{Added, try_add}
use Rattle.switch.specs.declared.Switch.{Switch}
use Rattle.switch.specs.Switch.{Started, no_log, fresh, whole}
use Rattle.exports.specs.Words.{word_at, mpu_of, access_at, case_no, part_at, request_at, list_at, found_word}

abbrev pub case_at : List ℕ → List ℕ → ℕ → ℕ
case_at ms ws i = case_no (decision slot_count (mpu_of ms) (access_at ws i))

unfoldable pub table_after : List ℕ → ℕ → Table
table_after ws zero = empty_table slots
table_after ws (suc i) = (try_add slots (table_after ws i) (part_at ws i) (request_at ws i)).table

abbrev pub added_at : List ℕ → ℕ → Added
added_at ws i = try_add slots (table_after ws i) (part_at ws i) (request_at ws i)

-- the table after all the requests that are whole
abbrev pub table_by : List ℕ → Table
table_by ws = table_after ws (length ws / 4)

unfoldable pub switch_after : Table → Mpu → List ℕ → ℕ → Switch
switch_after t m ps zero = fresh slots m (no_log slots)
switch_after t m ps (suc i) = (whole slots (switch_after t m ps i).mpu t (word_at ps i)).switch

abbrev pub switched_at : Table → Mpu → List ℕ → ℕ → Started
switched_at t m ps i = whole slots (switch_after t m ps i).mpu t (word_at ps i)

abbrev pub found_at : List ℕ → ℕ → ℕ → Judged
found_at ws n i = judged (record_at (list_at ws n i)) (records (list_at ws n i)) n

abbrev pub found_word_at : List ℕ → ℕ → ℕ → ℕ
found_word_at ws n k = found_word (found_at ws n (k / 3)) (k % 3)
