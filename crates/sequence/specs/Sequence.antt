-- The writes that switch the MPU to a partition: n + 2 of them for n slots.
--   off, on           == the control write that disables, and the one that enables
--   slot_write s e    == the write of slot s: its base and RASR where the entry is enabled, zeros where it isn't
--   write_at n t p i  == write 0 turns off; write i, from 1 to n, is slot i - 1's; the last turns on
--   writes n t p      == all of them
--   sequence_no n t p == what refuses: 1, 9
--   sequence n t p    == the number, beside the writes, or zeros where it refuses
--   sequence_of r     == what an answer says in the paper's words: the number, and its ten writes, which are zeros where it is refused
use Rattle.std.specs.Prelude.{not, List, [], ◌∷◌, ℕ, ◌+◌, ◌-◌, leb, eqb, replicate, Result}
use Rattle.laws.specs.Pick.{pick}
use Rattle.laws.specs.Refuse.{◌⇒◌, refuse}
use Rattle.laws.specs.Listed.{listed}
use Rattle.refusal.specs.declared.Refusal.{Refusal}
use Rattle.refusal.specs.Refusal.{no_of, value_or}
use Rattle.fields.specs.declared.Attributes.{Attributes}
use Rattle.fields.specs.Fields.{rasr}
use Rattle.table.specs.declared.Table.{Table}
use Rattle.table.specs.declared.Entry.{Entry}
use Rattle.table.specs.Numbers.{slots}
use Rattle.table.specs.Table.{slot_entry}
use Rattle.table.specs.Lawful.{lawful}
use Rattle.table.specs.Covers.{beyond}
use Rattle.device.specs.declared.Write.{Write}
use Rattle.device.specs.Registers.{ctrl}

pub record Sequence : Type 0 where
  pub no : ℕ
  pub writes : List Write

abbrev pub triple : ℕ → ℕ → ℕ → Write
triple r b a = record { rnr = r; rbar = b; rasr = a }

abbrev pub off : Write
off = triple ctrl 0 0

abbrev pub on : Write
on = triple ctrl 0 1

abbrev pub attributes : Entry → Attributes
attributes e = record { size = e.size; writable = e.writable }

unfoldable pub slot_write : ℕ → Entry → Write
slot_write s e = pick e.enabled (triple s e.base (rasr (attributes e))) (triple s 0 0)

unfoldable pub write_at : ℕ → Table → ℕ → ℕ → Write
write_at n t p i = pick (eqb i 0) off (pick (leb i n) (slot_write (i - 1) (slot_entry n t p (i - 1))) on)

unfoldable pub writes : ℕ → Table → ℕ → List Write
writes n t p = listed (write_at n t p) 0 (n + 2)

unfoldable pub sequence_no : ℕ → Table → ℕ → ℕ
sequence_no n t p = refuse ((beyond p ⇒ 1) ∷ (not (lawful n t) ⇒ 9) ∷ [])

unfoldable pub sequence : ℕ → Table → ℕ → Sequence
sequence n t p =
    record { no = sequence_no n t p; writes = pick (eqb (sequence_no n t p) 0) (writes n t p) (replicate (n + 2) (triple 0 0 0)) }

abbrev pub sequence_of : Result (List Write) Refusal → Sequence
sequence_of r = record { no = no_of r; writes = value_or (replicate (slots + 2) (triple 0 0 0)) r }
