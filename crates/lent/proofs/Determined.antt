-- A routine's own clauses leave one answer, and one record at the exit: whatever they allow is what the definition says. Assumes nothing.
use mathlib.Core.Path.{◌≡◌, refl, sym, ◌∙◌, ap}
use contract.Lifetimes.{Lfts}
use denote.Triple.Entry.{Args, Res}
use denote.Triple.Clauses.{AtExit}
use Rattle.refusal.proofs.AnswerLaws.{answer_one, held_one}
use Rattle.device.specs.RegisterWrite.{Written, written_of}
use Rattle.region.proofs.AnswerLaws.{judged_one}
use Rattle.lent.specs.contracts.write_lent as lent
use Rattle.lent.proofs.write_lent.Reads as lent-reads
use Rattle.lent.specs.contracts.write_through as through
use Rattle.lent.proofs.write_through.Reads as through-reads
use Rattle.lent.specs.contracts.validate_records as records
use Rattle.lent.proofs.validate_records.Reads as records-reads
use Rattle.lent.specs.contracts.validate_held as held
use Rattle.lent.proofs.validate_held.Reads as held_reads
use Rattle.lent.specs.contracts.validate_given as given
use Rattle.lent.proofs.validate_given.Reads as given-reads

module _ (κs : Lfts 1) (a : Args lent.signature κs) where
  abbrev pub Writes : Res lent.signature κs → AtExit lent.ended κs → Type 0
  Writes r e = lent-reads.Post κs a r e

  pub write_lent_once : (r s : Res lent.signature κs) (e f : AtExit lent.ended κs) → Writes r e → Writes s f → (r ≡ s) × (e.0.now ≡ f.0.now)
  write_lent_once r s e f p q = (answer_one tt r s (p.0 ∙ sym q.0) refl, p.1 ∙ sym q.1)

pub write_through_once : (a : Args through.signature tt) (r s : Res through.signature tt) (e f : AtExit through.ended tt) → through-reads.Post tt a r e → through-reads.Post tt a s f → r ≡ s
write_through_once a r s e f p q =
    let e : written_of r ≡ written_of s = p ∙ sym q in
    held_one r s (ap (λ (k : Written). k.no) e) (ap (λ (k : Written). k.mpu) e)

module _ (κs : Lfts 1) (a : Args records.signature κs) where
  abbrev pub Judges : Res records.signature κs → AtExit records.ended κs → Type 0
  Judges r e = records-reads.Post κs a r e

  pub validate_records_once : (r s : Res records.signature κs) (e f : AtExit records.ended κs) → Judges r e → Judges s f → r ≡ s
  validate_records_once r s e f p q = judged_one r s (p ∙ sym q)

pub validate_held_once : (a : Args held.signature tt) (r s : Res held.signature tt) (e f : AtExit held.ended tt) → held_reads.Post tt a r e → held_reads.Post tt a s f → r ≡ s
validate_held_once a r s e f p q = judged_one r s (p ∙ sym q)

pub validate_given_once : (a : Args given.signature tt) (r s : Res given.signature tt) (e f : AtExit given.ended tt) → given-reads.Post tt a r e → given-reads.Post tt a s f → r ≡ s
validate_given_once a r s e f p q = judged_one r s (p ∙ sym q)
