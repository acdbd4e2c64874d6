-- The answers that no slot takes part in. No other rule gives them, so the rule of an answer is the number of a refusal list, whose laws say
-- exactly when each is given. Assumes nothing.
use mathlib.Core.Path.{◌≡◌, refl, sym, ◌∙◌, ap}
use mathlib.Core.Bool.{true, false, not}
use mathlib.Core.Logic.Iff
use mathlib.Core.Logic.{◌↔◌}
use mathlib.Core.List.{List, [], ◌∷◌}
use Prim.Native.Nat.{ℕ, ◌%◌, ◌≤◌}
use native.Mathlib.Omega.{arith}
use borrow.Author.Tests.{not-true, eqb-false, ne_eqb}
use lib.Dec.{lit<}
use Rattle.std.specs.Prelude.{Result, Ok, Err}
use Rattle.laws.specs.Refuse.{Refusal, ◌⇒◌, refuse}
use Rattle.refusal.specs.declared.Refusal.{Refusal as Why}
use Rattle.refusal.specs.declared.Refusal.TheVariants.{BadControl}
use Rattle.refusal.specs.Refusal.{number}
use Rattle.laws.proofs.BoolLaws.{pick-ap, fails_exactly}
use Rattle.laws.proofs.RefuseLaws.{given}
use Rattle.device.specs.declared.Mpu.{Mpu}
use Rattle.device.specs.declared.Access.{Access}
use Rattle.device.specs.declared.Answer.{Answer}
use Rattle.device.specs.declared.Answer.TheVariants.{Private, Unchecked, Undefined, Permitted, Denied}
use Rattle.device.specs.Registers.{enables, allowed}
use Rattle.device.specs.Permission.{row_answer}
use Rattle.device.specs.Decision.{private_bus, judged, decision}
use Rattle.laws.proofs.TestLaws.{and_exactly, le_exactly, pick_same}
use Rattle.device.proofs.PermissionLaws.{grants_as}

abbrev early_of : Answer → ℕ
early_of Private = 1
early_of Unchecked = 2
early_of Undefined = 0
early_of Permitted = 0
early_of Denied = 0

abbrev rule_of : Result Answer Why → ℕ
rule_of (Ok x) = early_of x
rule_of (Err e) = number e

abbrev early : Mpu → Access → List Refusal
early m a = (not (allowed m.control) ⇒ 12) ∷ (private_bus a.address ⇒ 1) ∷ (not (enables m.control) ⇒ 2) ∷ []

module _ (n : ℕ) (m : Mpu) (a : Access) where
  rule_due : rule_of (decision n m a) ≡ refuse (early m a)
  unfolding decision judged row_answer
  rule_due = simp (pick-ap rule_of, pick-ap early_of, grants_as early_of {y = 0} refl refl refl, pick_same)

  -- 12 exactly for a control outside the list
  pub refused_exactly : (decision n m a ≡ Err BadControl) ↔ (allowed m.control ≡ false)
  unfolding decision
  refused_exactly = (λ e. not-true _ ((given (early m a) refl refl 0 (lit< tt)).0 (sym rule_due ∙ ap rule_of e)).1, λ h. rw h)

  module _ (held : allowed m.control ≡ true) where
    abbrev OnBus : Type 0
    OnBus = (0xE000_0000 ≤ a.address) × (a.address ≤ 0xE00F_FFFF)

    bus : (private_bus a.address ≡ true) ↔ OnBus
    bus = Iff.trans (and_exactly _ _) (Iff.and (le_exactly _ _) (le_exactly _ _))

    -- rule 1: the private bus, whatever the state
    pub private_exactly : (decision n m a ≡ Ok Private) ↔ OnBus
    unfolding decision
    private_exactly = (λ e. bus.0 ((given (early m a) refl refl 1 (lit< tt)).0 (sym rule_due ∙ ap rule_of e)).1, λ h. rw (held, bus.1 h))

    -- rule 2: outside it, unchecked exactly if ENABLE is clear
    pub unchecked_exactly : ¬ OnBus → (decision n m a ≡ Ok Unchecked) ↔ (m.control % 2 ≡ 0)
    unfolding decision
    unchecked_exactly out = (
      λ e.
          let off : ¬ (m.control % 2 ≡ 1) = eqb-false _ _ (not-true _ ((given (early m a) refl refl 2 (lit< tt)).0 (sym rule_due ∙ ap rule_of e)).1) in
          omega arith,
      λ h. rw (held, (fails_exactly bus).1 out, ne_eqb (m.control % 2) 1 (λ e. omega arith)),
    )
