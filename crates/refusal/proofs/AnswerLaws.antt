-- An answer is told whole by its number and its value: two with both alike are one. A number above 0 leads back to its refusal. Assumes nothing.
use mathlib.Core.Path.{◌≡◌, refl, sym, ap}
use Rattle.std.specs.Prelude.{Result, Ok, Err}
use Rattle.refusal.specs.declared.Refusal.{Refusal}
use Rattle.refusal.specs.declared.Refused.{Refused}
use Rattle.refusal.specs.Refusal.{no_of, why_no, value_or, held_by}
use Rattle.refusal.proofs.NumberLaws.{number_one, number_some}

-- 0 is the number of each answer that has a value, and of no other
pub accepted : {X : Type 0} (x : X) → no_of (Ok x) ≡ 0
accepted x = refl

pub refused : (X : Type 0) (e : Refusal) → ¬ (no_of {X = X} (Err e) ≡ 0)
refused X e p = number_some e p

pub answer_one : {X : Type 0} (z : X) (r s : Result X Refusal) → no_of r ≡ no_of s → value_or z r ≡ value_or z s → r ≡ s
answer_one z (Ok x) (Ok y) p q = ap Ok q
answer_one z (Ok x) (Err f) p q = absurd (number_some f (sym p))
answer_one z (Err e) (Ok y) p q = absurd (number_some e p)
answer_one z (Err e) (Err f) p q = ap Err (number_one e f p)

pub held_one : {X : Type 0} (r s : Result X (Refused X)) → why_no r ≡ why_no s → held_by r ≡ held_by s → r ≡ s
held_one (Ok x) (Ok y) p q = ap Ok q
held_one (Ok x) (Err f) p q = absurd (number_some f.why (sym p))
held_one (Err e) (Ok y) p q = absurd (number_some e.why p)
held_one (Err e) (Err f) p q = ap Err (λ k. record { why = number_one e.why f.why p k; held = q k })
