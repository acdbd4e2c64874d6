-- One more digit is ten times the value so far and the digit; once it is too large it stays so. Assumes nothing.
use mathlib.Core.Path.{◌≡◌, refl, sym, ◌∙◌, ap}
use mathlib.Core.List.{List}
use Prim.Native.Nat.{ℕ, ◌-◌}
use native.Mathlib.Omega.{arith}
use lib.ListN.{length, take, drop, length-drop, get_or-eq_default}
use Rattle.text.specs.Digits.{is_digit, run}
use Rattle.text.specs.Read.{sized}
use Rattle.text.proofs.RunLaws.{left_end, left_next, left_past}
use Rattle.text.proofs.PutLaws.{to_the_end}
use Rattle.text.proofs.sized_number.Goals as goal

-- the loop goes over the bytes from the place to the end
whole : (bytes : List ℕ) (at : ℕ) → sized (run (take (length bytes - at) (drop at bytes))) at ≡ sized (run (drop at bytes)) at
whole bytes at = ap (λ (s : List ℕ). sized (run s) at) (to_the_end bytes at refl)

pub loop-i-init : goal.loop-i-init
loop-i-init c = record { small = omega arith; rest = refl; count = omega arith }

pub returns-then-not-is_ascii_digit : goal.returns-then-not-is_ascii_digit
returns-then-not-is_ascii_digit c =
    left_end _ _ _ c.args.at c.loop-i.invariant _ refl (sym c.is_ascii_digit.ensures.value ∙ c.if-not-is_ascii_digit.true) ∙ whole c.args.bytes.now c.args.at

pub returns-in_err-checked_mul : goal.returns-in_err-checked_mul
returns-in_err-checked_mul c =
    c.from_residual.ensures
    ∙ left_past _ _ _ c.args.at c.loop-i.invariant (sym c.is_ascii_digit.ensures.value ∙ c.if-not-is_ascii_digit.false) (omega (arith, c.in_err-checked_mul.ensures))
    ∙ whole c.args.bytes.now c.args.at

pub returns-in_err-value : goal.returns-in_err-value
returns-in_err-value c =
    c.from_residual-in_err-value.ensures
    ∙ left_past _ _ _ c.args.at c.loop-i.invariant (sym c.is_ascii_digit.ensures.value ∙ c.if-not-is_ascii_digit.false) (omega (arith, c.in_ok-checked_mul.ensures, c.in_err-value.ensures))
    ∙ whole c.args.bytes.now c.args.at

pub loop-i-preserved : goal.loop-i-preserved
loop-i-preserved c =
    left_next _ _ _ c.args.at c.loop-i.invariant (sym c.is_ascii_digit.ensures.value ∙ c.if-not-is_ascii_digit.false) _ (omega (arith, c.in_ok-value.ensures.0, c.in_ok-value.ensures.1))
    (rw (c.in_ok-value.ensures.1, c.in_ok-checked_mul.ensures.1, c.from.ensures))

pub returns : goal.returns
returns c =
    left_end _ _ _ c.args.at c.loop-i.invariant _ (omega (arith, ap length (to_the_end c.args.bytes.now c.args.at refl), length-drop c.args.at c.args.bytes.now, c.requires, c.loop-i.auto.i-end, c.loop-i-test.false))
    (ap is_digit (get_or-eq_default _ 0 c.loop-i-test.false)) ∙ whole c.args.bytes.now c.args.at
