-- A table made by the builder.
--   Built n t    == t is the empty table, or what the builder answers from a built one
--   Packed n t p == the enabled slots of the partition come first
use Rattle.std.specs.Prelude.{◌≡◌, true, ℕ, ◌<◌}
use Rattle.table.specs.declared.Table.{Table}
use Rattle.table.specs.declared.Request.{Request}
use Rattle.table.specs.Table.{empty_table, slot_entry}
use Rattle.table.specs.Builder.{try_add}

pub data Built (n : ℕ) : Table → Type 0 where
  empty : Built n (empty_table n)
  add : {t : Table} → Built n t → (p : ℕ) (q : Request) → Built n (try_add n t p q).table

abbrev pub Packed : ℕ → Table → ℕ → Type 0
Packed n t p = (i j : ℕ) → i < j → j < n → (slot_entry n t p j).enabled ≡ true → (slot_entry n t p i).enabled ≡ true
