-- One answer: of each public routine, two results that its own contract allows at the same arguments are one, each being what the contract's
-- equation says. Assumes nothing.
use mathlib.Core.Path.{◌≡◌, sym, ◌∙◌, ap}
use mathlib.Core.Bool.{Bool}
use Prim.Native.Nat.{ℕ}
use Rattle.fields.specs.Fields.{Field, size_answer, ap_field, rasr_answer, field_of}
use Rattle.std.specs.Prelude.{Result}
use Rattle.refusal.specs.declared.Refusal.{Refusal}
use Rattle.refusal.proofs.AnswerLaws.{answer_one}
use Rattle.fields.specs.declared.Attributes.{Attributes}
use Rattle.fields.proofs.size_field.Reads as size-field
use Rattle.fields.proofs.ap_field.Reads as ap-field
use Rattle.fields.proofs.rasr_for.Reads as rasr_for
use Rattle.fields.proofs.value_of.Reads as value_of

-- an answer is told whole by its number and its value
field_one : (r s : Result ℕ Refusal) → field_of r ≡ field_of s → r ≡ s
field_one r s e = answer_one 0 r s (ap (λ (k : Field). k.no) e) (ap (λ (k : Field). k.value) e)

size_field_once : (a : _) (r s : Result ℕ Refusal) (e f : _) → size-field.Post tt a r e → size-field.Post tt a s f → r ≡ s
size_field_once a r s e f p q = field_one r s (p ∙ sym q)

ap_field_once : (a : _) (r s : ℕ) (e f : _) → ap-field.Post tt a r e → ap-field.Post tt a s f → r ≡ s
ap_field_once a r s e f p q = p ∙ sym q

rasr_for_once : (a : _) (r s : Result ℕ Refusal) (e f : _) → rasr_for.Post tt a r e → rasr_for.Post tt a s f → r ≡ s
rasr_for_once a r s e f p q = field_one r s (p ∙ sym q)

value_of_once : (a : _) (r s : ℕ) (e f : _) → value_of.Post tt a r e → value_of.Post tt a s f → r ≡ s
value_of_once a r s e f p q = p ∙ sym q

-- ---- and it is the definition's answer about the very arguments given
size_field_asked : (n : ℕ) (r : Result ℕ Refusal) (e : _) → size-field.Post tt (n, tt) r e → field_of r ≡ size_answer n
size_field_asked n r e q = q

ap_field_asked : (w : Bool) (r : ℕ) (e : _) → ap-field.Post tt (w, tt) r e → r ≡ ap_field w
ap_field_asked w r e q = q

rasr_for_asked : (a : Attributes) (r : Result ℕ Refusal) (e : _) → rasr_for.Post tt (a, tt) r e → field_of r ≡ rasr_answer a
rasr_for_asked a r e q = q

value_of_asked : (a : Result ℕ Refusal) (r : ℕ) (e : _) → value_of.Post tt (a, tt) r e → r ≡ (field_of a).value
value_of_asked a r e q = q
