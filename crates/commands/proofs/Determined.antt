-- One answer: of each public routine, two results that its own contract allows at the same arguments are one, and so are the two lines, and the two readings that are lent, at exit. Assumes nothing.
use mathlib.Core.Path.{◌≡◌, sym, ◌∙◌}
use mathlib.Core.List.{List}
use Prim.Native.Nat.{ℕ}
use contract.Lifetimes.{Lfts}
use denote.Triple.Clauses.{AtExit}
use Rattle.device.specs.declared.Write.{Write}
use Rattle.lent.specs.declared.MpuRegion.{MpuRegion}
use Rattle.commands.specs.declared.Command.{Command}
use Rattle.commands.specs.declared.change.Console.{Console}
use Rattle.commands.specs.declared.reading.Reading.{Reading}
use Rattle.commands.proofs.change.nothing_held.Reads as nothing-held
use Rattle.commands.proofs.change.obey.Reads as obey
use Rattle.commands.proofs.command_of.Reads as command-of
use Rattle.commands.proofs.line_command.Reads as line-command
use Rattle.commands.proofs.given.record_count.Reads as record-count
use Rattle.commands.proofs.given.records_of.Reads as records-of
use Rattle.commands.proofs.given.triples_of.Reads as triples-of
use Rattle.commands.proofs.reading.held_part.Reads as held_part
use Rattle.commands.proofs.reading.next_number.Reads as next_number
use Rattle.commands.proofs.reading.nothing_read.Reads as nothing_read
use Rattle.commands.specs.contracts.reading.take_byte.{ended as take-byte-ended}
use Rattle.commands.proofs.reading.take_byte.Reads as take_byte
use Rattle.commands.specs.contracts.reading.take_byte_lent.{ended as take-byte-lent-ended}
use Rattle.commands.proofs.reading.take_byte_lent.Reads as take_byte_lent

command_of_once : (κs : Lfts 1) (a : _) (r s : Command) (e f : _) → command-of.Post κs a r e → command-of.Post κs a s f → r ≡ s
command_of_once κs a r s e f p q = p ∙ sym q

line_command_once : (κs : Lfts 1) (a : _) (r s : Command) (e f : _) → line-command.Post κs a r e → line-command.Post κs a s f → r ≡ s
line_command_once κs a r s e f p q = p ∙ sym q

record_count_once : (κs : Lfts 1) (a : _) (r s : ℕ) (e f : _) → record-count.Post κs a r e → record-count.Post κs a s f → r ≡ s
record_count_once κs a r s e f p q = p ∙ sym q

records_of_once : (κs : Lfts 1) (a : _) (r s : List MpuRegion) (e f : _) → records-of.Post κs a r e → records-of.Post κs a s f → r ≡ s
records_of_once κs a r s e f p q = p ∙ sym q

triples_of_once : (κs : Lfts 1) (a : _) (r s : List Write) (e f : _) → triples-of.Post κs a r e → triples-of.Post κs a s f → r ≡ s
triples_of_once κs a r s e f p q = p ∙ sym q

held_part_once : (κs : Lfts 1) (a : _) (r s : _) (e f : _) → held_part.Post κs a r e → held_part.Post κs a s f → r.now ≡ s.now
held_part_once κs a r s e f p q = p ∙ sym q

take_byte_once : (κs : Lfts 1) (a : _) (r s : Reading) (e f : AtExit take-byte-ended κs) → take_byte.Post κs a r e → take_byte.Post κs a s f → (r ≡ s) × (e.1.0.now ≡ f.1.0.now)
take_byte_once κs a r s e f p q = (p.0 ∙ sym q.0, p.1 ∙ sym q.1)

take_byte_lent_once : (κs : Lfts 2) (a : _) (r s : _) (e f : AtExit take-byte-lent-ended κs) → take_byte_lent.Post κs a r e → take_byte_lent.Post κs a s f → (e.0.now ≡ f.0.now) × (e.1.0.now ≡ f.1.0.now)
take_byte_lent_once κs a r s e f p q = (p.0 ∙ sym q.0, p.1 ∙ sym q.1)

nothing_held_once : (a : _) (r s : Console) (e f : _) → nothing-held.Post tt a r e → nothing-held.Post tt a s f → r ≡ s
nothing_held_once a r s e f p q = p ∙ sym q

obey_once : (a : _) (r s : Console) (e f : _) → obey.Post tt a r e → obey.Post tt a s f → r ≡ s
obey_once a r s e f p q = p ∙ sym q

next_number_once : (a : _) (r s : ℕ) (e f : _) → next_number.Post tt a r e → next_number.Post tt a s f → r ≡ s
next_number_once a r s e f p q = p ∙ sym q

nothing_read_once : (a : _) (r s : Reading) (e f : _) → nothing_read.Post tt a r e → nothing_read.Post tt a s f → r ≡ s
nothing_read_once a r s e f p q = p ∙ sym q
