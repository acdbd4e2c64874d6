-- The number of an answer is the one due: only the first rule refuses, and no other answer has a number but 0. A reason for refusing a write is told
-- by its number. Assumes nothing.
use mathlib.Core.Path.{◌≡◌, refl, sym, ◌∙◌, ap}
use mathlib.Core.Bool.{true, false, not}
use mathlib.Core.List.{List, [], ◌∷◌}
use mathlib.Core.Logic.Iff
use mathlib.Core.Logic.{◌↔◌, true-and}
use Prim.Native.Nat.{ℕ}
use borrow.Author.Tests.{not-false}
use lib.Dec.{lit<}
use Rattle.std.specs.Prelude.{Option, Some, None, Result}
use Rattle.laws.specs.Refuse.{Refusal, ◌⇒◌}
use Rattle.laws.proofs.BoolLaws.{pick-ap}
use Rattle.laws.proofs.RefuseLaws.{given, accepted}
use Rattle.device.specs.declared.Mpu.{Mpu}
use Rattle.device.specs.declared.Access.{Access}
use Rattle.device.specs.declared.Answer.{Answer}
use Rattle.refusal.specs.declared.Refusal.{Refusal as Why}
use Rattle.refusal.proofs.NumberLaws.{number_one, number_some}
use Rattle.device.specs.RegisterWrite.{refused_no}
use Rattle.device.specs.Registers.{allowed}
use Rattle.device.specs.Permission.{row_answer}
use Rattle.device.specs.Decision.{judged, decision, number_of, decision_no}
use Rattle.laws.proofs.TestLaws.{not_exactly}

module _ (n : ℕ) (m : Mpu) (a : Access) where
  number_due : number_of (decision n m a) ≡ decision_no m
  unfolding decision decision_no judged row_answer
  number_due = simp (pick-ap number_of)

  -- an answer that is the one due is so in its number too
  pub in_numbers : {r : Result Answer Why} → r ≡ decision n m a → (r ≡ decision n m a) × (number_of r ≡ decision_no m)
  in_numbers e = (e, ap number_of e ∙ number_due)

-- ---- no two reasons have one number, and none has that of no reason
pub reason_one : (r s : Option Why) → refused_no r ≡ refused_no s → r ≡ s
reason_one None None p = refl
reason_one None (Some f) p = absurd (number_some f (sym p))
reason_one (Some e) None p = absurd (number_some e p)
reason_one (Some e) (Some f) p = ap Some (number_one e f p)

-- ---- in the paper's numbers: 12 exactly for a control outside the list, else 0
module _ (m : Mpu) where
  abbrev refusals : List Refusal
  refusals = (not (allowed m.control) ⇒ 12) ∷ []

  pub number_12 : (decision_no m ≡ 12) ↔ (allowed m.control ≡ false)
  unfolding decision_no
  number_12 = Iff.trans (given refusals refl refl 0 (lit< tt)) (Iff.trans true-and (not_exactly _))

  pub number_0 : (decision_no m ≡ 0) ↔ (allowed m.control ≡ true)
  unfolding decision_no
  number_0 = Iff.trans (accepted refusals refl) (λ q. not-false _ q.0, λ h. (ap not h, tt))
