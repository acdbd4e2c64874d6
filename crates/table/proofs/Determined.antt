-- One answer: of each public routine, two results that its own contract allows at the same arguments are one, each being what the contract's
-- equation says. Assumes nothing.
use mathlib.Core.Path.{◌≡◌, sym, ◌∙◌, ap}
use mathlib.Core.Bool.{Bool, false}
use Prim.Native.Nat.{ℕ}
use Rattle.std.specs.Prelude.{Option, Result}
use Rattle.refusal.specs.declared.Refusal.{Refusal}
use Rattle.refusal.specs.declared.Refused.{Refused}
use Rattle.refusal.proofs.AnswerLaws.{answer_one, held_one}
use Rattle.region.specs.declared.Range.{Range}
use Rattle.table.specs.declared.Table.{Table}
use Rattle.table.specs.declared.Entry.{Entry}
use Rattle.table.specs.declared.Request.{Request}
use Rattle.table.specs.declared.numbers.Part.{Part}
use Rattle.table.specs.declared.numbers.Slot.{Slot}
use Rattle.table.specs.Numbers.{slots}
use Rattle.table.specs.Table.{no_entry, empty_table, entry_answer, cell_answer}
use Rattle.table.specs.Entries.{range_of}
use Rattle.table.specs.Lawful as spec
use Rattle.table.specs.Builder.{Added, added_of, wanted, try_add}
use Rattle.table.specs.Covers.{Covered, covered_of, cover_answer}
use Rattle.table.proofs.EntryLaws.{blank}
use Rattle.table.proofs.numbers.Part.new.Reads as part_new
use Rattle.table.proofs.numbers.Part.number.Reads as part_number
use Rattle.table.proofs.numbers.Slot.new.Reads as slot_new
use Rattle.table.proofs.numbers.Slot.number.Reads as slot_number
use Rattle.table.proofs.EntryDefault.default.Reads as entry_default
use Rattle.table.proofs.yes_of.Reads as yes_of
use Rattle.table.proofs.RangeFromEntry.from.Reads as range_of_entry
use Rattle.table.proofs.RangeFromRequest.from.Reads as range_of_request
use Rattle.table.proofs.Table.new.Reads as table_new
use Rattle.table.proofs.Table.try_add_region.Reads as try_add_region
use Rattle.table.proofs.Table.covers_addr.Reads as covers_addr
use Rattle.table.proofs.Table.lawful.Reads as lawful
use Rattle.table.proofs.Table.entry.Reads as entry
use Rattle.table.proofs.Table.cell.Reads as cell

part_new_once : (a : _) (r s : Option Part) (e f : _) → part_new.Post tt a r e → part_new.Post tt a s f → r ≡ s
part_new_once a r s e f p q = p ∙ sym q

part_number_once : (a : _) (r s : ℕ) (e f : _) → part_number.Post tt a r e → part_number.Post tt a s f → r ≡ s
part_number_once a r s e f p q = p ∙ sym q

slot_new_once : (a : _) (r s : Option Slot) (e f : _) → slot_new.Post tt a r e → slot_new.Post tt a s f → r ≡ s
slot_new_once a r s e f p q = p ∙ sym q

slot_number_once : (a : _) (r s : ℕ) (e f : _) → slot_number.Post tt a r e → slot_number.Post tt a s f → r ≡ s
slot_number_once a r s e f p q = p ∙ sym q

entry_default_once : (a : _) (r s : Entry) (e f : _) → entry_default.Post tt a r e → entry_default.Post tt a s f → r ≡ s
entry_default_once a r s e f p q = blank r p ∙ sym (blank s q)

range_of_entry_once : (a : _) (r s : Range) (e f : _) → range_of_entry.Post tt a r e → range_of_entry.Post tt a s f → r ≡ s
range_of_entry_once a r s e f p q = p ∙ sym q

range_of_request_once : (a : _) (r s : Range) (e f : _) → range_of_request.Post tt a r e → range_of_request.Post tt a s f → r ≡ s
range_of_request_once a r s e f p q = p ∙ sym q

table_new_once : (a : _) (r s : Table) (e f : _) → table_new.Post tt a r e → table_new.Post tt a s f → r ≡ s
table_new_once a r s e f p q = p ∙ sym q

try_add_region_once : (a : _) (r s : Result Table (Refused Table)) (e f : _) → try_add_region.Post tt a r e → try_add_region.Post tt a s f → r ≡ s
try_add_region_once a r s e f p q = held_one r s (ap (λ (k : Added). k.no) (p ∙ sym q)) (ap (λ (k : Added). k.table) (p ∙ sym q))

covers_addr_once : (a : _) (r s : Result Bool Refusal) (e f : _) → covers_addr.Post tt a r e → covers_addr.Post tt a s f → r ≡ s
covers_addr_once a r s e f p q = answer_one false r s (ap (λ (k : Covered). k.no) (p ∙ sym q)) (ap (λ (k : Covered). k.yes) (p ∙ sym q))

yes_of_once : (a : _) (r s : Bool) (e f : _) → yes_of.Post tt a r e → yes_of.Post tt a s f → r ≡ s
yes_of_once a r s e f p q = p ∙ sym q

lawful_once : (k : _) (a : _) (r s : Bool) (e f : _) → lawful.Post k a r e → lawful.Post k a s f → r ≡ s
lawful_once k a r s e f p q = p ∙ sym q

entry_once : (k : _) (a : _) (r s : Entry) (e f : _) → entry.Post k a r e → entry.Post k a s f → r ≡ s
entry_once k a r s e f p q = p ∙ sym q

cell_once : (k : _) (a : _) (r s : Entry) (e f : _) → cell.Post k a r e → cell.Post k a s f → r ≡ s
cell_once k a r s e f p q = p ∙ sym q

-- ---- and it is the definition's answer about the very arguments given, of eight slots: no proved caller need ask these
covers_addr_asked : (t : Table) (p a : ℕ) (r : Result Bool Refusal) (e : _) → covers_addr.Post tt (t, (p, (a, tt))) r e → covered_of r ≡ cover_answer slots t p a
covers_addr_asked t p a r e q = q

yes_of_asked : (a : Result Bool Refusal) (r : Bool) (e : _) → yes_of.Post tt (a, tt) r e → r ≡ (covered_of a).yes
yes_of_asked a r e q = q

cell_asked : (k : _) (t : _) (i : ℕ) (r : Entry) (e : _) → cell.Post k (t, (i, tt)) r e → r ≡ cell_answer slots t.now i
cell_asked k t i r e q = q

table_new_asked : (r : Table) (e : _) → table_new.Post tt tt r e → r ≡ empty_table 8
table_new_asked r e q = q

try_add_region_asked : (t : Table) (p : ℕ) (w : Request) (r : Result Table (Refused Table)) (e : _) → try_add_region.Post tt (t, (p, (w, tt))) r e → added_of r ≡ try_add 8 t p w
try_add_region_asked t p w r e q = q

lawful_asked : (k : _) (t : _) (r : Bool) (e : _) → lawful.Post k (t, tt) r e → r ≡ spec.lawful 8 t.now
lawful_asked k t r e q = q

entry_asked : (k : _) (t : _) (p : Part) (s : Slot) (r : Entry) (e : _) → entry.Post k (t, (p, (s, tt))) r e → r ≡ entry_answer 8 t.now p.0 s.0
entry_asked k t p s r e q = q

entry_default_asked : (r : Entry) (e : _) → entry_default.Post tt tt r e → r ≡ no_entry
entry_default_asked r e q = blank r q

range_of_entry_asked : (x : Entry) (r : Range) (e : _) → range_of_entry.Post tt (x, tt) r e → r ≡ range_of x
range_of_entry_asked x r e q = q

range_of_request_asked : (x : Request) (r : Range) (e : _) → range_of_request.Post tt (x, tt) r e → r ≡ wanted x
range_of_request_asked x r e q = q

covers_addr_eight : (t : Table) (p a : ℕ) (r : Result Bool Refusal) (e : _) → covers_addr.Post tt (t, (p, (a, tt))) r e → covered_of r ≡ cover_answer 8 t p a
covers_addr_eight t p a r e q = q

cell_eight : (k : _) (t : _) (i : ℕ) (r : Entry) (e : _) → cell.Post k (t, (i, tt)) r e → r ≡ cell_answer 8 t.now i
cell_eight k t i r e q = q
