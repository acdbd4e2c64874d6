-- One answer: of each public routine, two results that its own contract allows at the same arguments are one, and so are the two buffers at exit,
-- each being what the contract's equation says. Assumes nothing.
use mathlib.Core.Path.{◌≡◌, sym, ◌∙◌}
use Rattle.std.proofs.Common.{Option, ℕ}
use Rattle.text.specs.declared.Line.{Line}
use Rattle.text.specs.Read.{Read}
use contract.Lifetimes.{Lfts}
use denote.Triple.Clauses.{AtExit}
use Rattle.text.specs.contracts.put_bytes.{ended as put-bytes-ended}
use Rattle.text.specs.contracts.put_number.{ended as put-number-ended}
use Rattle.text.specs.contracts.put_line.{ended as put-line-ended}
use Rattle.text.proofs.put_bytes.Reads as put_bytes
use Rattle.text.proofs.put_number.Reads as put_number
use Rattle.text.proofs.put_line.Reads as put_line
use Rattle.text.proofs.read_number.Reads as read_number
use Rattle.text.proofs.read_word.Reads as read_word
use Rattle.text.proofs.read_field.Reads as read_field
use Rattle.text.proofs.line_end.Reads as line_end
use Rattle.text.proofs.read_line.Reads as read_line

put_bytes_once : (κs : Lfts 2) (a : _) (r s : Option ℕ) (e f : AtExit put-bytes-ended κs) → put_bytes.Post κs a r e → put_bytes.Post κs a s f → (r ≡ s) × (e.0.now ≡ f.0.now)
put_bytes_once κs a r s e f p q = (p.0 ∙ sym q.0, p.1 ∙ sym q.1)

put_number_once : (κs : Lfts 1) (a : _) (r s : Option ℕ) (e f : AtExit put-number-ended κs) → put_number.Post κs a r e → put_number.Post κs a s f → (r ≡ s) × (e.0.now ≡ f.0.now)
put_number_once κs a r s e f p q = (p.0 ∙ sym q.0, p.1 ∙ sym q.1)

put_line_once : (κs : Lfts 1) (a : _) (r s : Option ℕ) (e f : AtExit put-line-ended κs) → put_line.Post κs a r e → put_line.Post κs a s f → (r ≡ s) × (e.0.now ≡ f.0.now)
put_line_once κs a r s e f p q = (p.0 ∙ sym q.0, p.1 ∙ sym q.1)

read_number_once : (κs : Lfts 1) (a : _) (r s : Read ℕ) (e f : _) → read_number.Post κs a r e → read_number.Post κs a s f → r ≡ s
read_number_once κs a r s e f p q = p ∙ sym q

read_word_once : (κs : Lfts 2) (a : _) (r s : Option ℕ) (e f : _) → read_word.Post κs a r e → read_word.Post κs a s f → r ≡ s
read_word_once κs a r s e f p q = p ∙ sym q

read_field_once : (κs : Lfts 2) (a : _) (r s : Read ℕ) (e f : _) → read_field.Post κs a r e → read_field.Post κs a s f → r ≡ s
read_field_once κs a r s e f p q = p ∙ sym q

line_end_once : (κs : Lfts 1) (a : _) (r s : Option ℕ) (e f : _) → line_end.Post κs a r e → line_end.Post κs a s f → r ≡ s
line_end_once κs a r s e f p q = p ∙ sym q

read_line_once : (κs : Lfts 1) (a : _) (r s : Read Line) (e f : _) → read_line.Post κs a r e → read_line.Post κs a s f → r ≡ s
read_line_once κs a r s e f p q = p ∙ sym q
