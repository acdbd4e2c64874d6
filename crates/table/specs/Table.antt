-- The table as four arrays, and its entries.
--   entry_at t i         == what the four arrays hold at place i
--   with_entry t i e     == the table with e at place i, and every other place as it was
--   empty_table n        == zero and false in all four arrays, n slots a partition
--   slot_entry n t p s   == the entry of slot s of partition p
--   no_entry             == zeros, not enabled
--   entry_answer n t p s == the slot's entry, or no_entry where p or s is out of range
--   cell_answer n t i    == what stands at place i, counted through all partitions, or no_entry beyond the last
use Rattle.std.specs.Prelude.{false, ◌&&◌, ℕ, ◌*◌, ltb, get_or, set, replicate}
use Rattle.laws.specs.Pick.{pick}
use Rattle.table.specs.declared.Table.{Table}
use Rattle.table.specs.declared.Entry.{Entry}
use Rattle.table.specs.Numbers.{parts, flat_index}

abbrev pub entry_at : Table → ℕ → Entry
entry_at t i =
    record { base = get_or t.base i 0; size = get_or t.size i 0; enabled = get_or t.enabled i false; writable = get_or t.writable i false }

abbrev pub with_entry : Table → ℕ → Entry → Table
with_entry t i e =
    record { base = set t.base i e.base; size = set t.size i e.size; enabled = set t.enabled i e.enabled; writable = set t.writable i e.writable }

abbrev pub empty_table : ℕ → Table
empty_table n =
    record { base = replicate (parts * n) 0; size = replicate (parts * n) 0; enabled = replicate (parts * n) false; writable = replicate (parts * n) false }

unfoldable pub slot_entry : ℕ → Table → ℕ → ℕ → Entry
slot_entry n t p s = entry_at t (flat_index n p s)

abbrev pub no_entry : Entry
no_entry = record { base = 0; size = 0; enabled = false; writable = false }

unfoldable pub entry_answer : ℕ → Table → ℕ → ℕ → Entry
entry_answer n t p s = pick (ltb p parts && ltb s n) (slot_entry n t p s) no_entry

unfoldable pub cell_answer : ℕ → Table → ℕ → Entry
cell_answer n t i = pick (ltb i (parts * n)) (entry_at t i) no_entry
