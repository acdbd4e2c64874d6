-- One answer: two results that the routine's own contract allows at the same arguments are one. Assumes nothing.
use mathlib.Core.Path.{◌≡◌, sym, ◌∙◌, ap}
use mathlib.Core.List.{List}
use Prim.Native.Nat.{ℕ}
use lib.ListN.{replicate}
use Rattle.std.specs.Prelude.{Result}
use Rattle.refusal.specs.declared.Refusal.{Refusal}
use Rattle.refusal.proofs.AnswerLaws.{answer_one}
use Rattle.table.specs.declared.Table.{Table}
use Rattle.device.specs.declared.Write.{Write}
use Rattle.sequence.specs.Sequence.{Sequence, triple, sequence, sequence_of}
use Rattle.sequence.proofs.program_partition.Reads as program_partition
use Rattle.sequence.proofs.writes_of.Reads as writes_of

program_partition_once : (a : _) (r s : Result (List Write) Refusal) (e f : _) → program_partition.Post tt a r e → program_partition.Post tt a s f → r ≡ s
program_partition_once a r s e f p q =
    answer_one (replicate 10 (triple 0 0 0)) r s (ap (λ (k : Sequence). k.no) (p ∙ sym q)) (ap (λ (k : Sequence). k.writes) (p ∙ sym q))

writes_of_once : (a : _) (r s : List Write) (e f : _) → writes_of.Post tt a r e → writes_of.Post tt a s f → r ≡ s
writes_of_once a r s e f p q = p ∙ sym q

-- ---- and it is the definition's answer about the very table and partition given, of eight slots
program_partition_asked : (t : Table) (p : ℕ) (r : Result (List Write) Refusal) (e : _) → program_partition.Post tt (t, (p, tt)) r e → sequence_of r ≡ sequence 8 t p
program_partition_asked t p r e q = q

writes_of_asked : (a : Result (List Write) Refusal) (r : List Write) (e : _) → writes_of.Post tt (a, tt) r e → r ≡ (sequence_of a).writes
writes_of_asked a r e q = q
