-- The forms that the line has not, and the one that it has. Assumes nothing.
use Rattle.std.proofs.Common.{refl, ap, Some}
use Rattle.commands.specs.declared.Command.{Command}
use Rattle.commands.proofs.switch_form.Goals as goal

pub returns-in-Some : goal.returns-in-Some
returns-in-Some c = rw (← c.in-Some.ensures) refl

pub returns-in-Some-numbers : goal.returns-in-Some-numbers
returns-in-Some-numbers c = rw (← c.in_default.ensures, ← c.in-Some-numbers.ensures) refl

pub returns-in-Some-numbers-2 : goal.returns-in-Some-numbers-2
returns-in-Some-numbers-2 c = rw (← c.in_default.ensures, ← c.in_default-numbers.ensures, ← c.in-Some-numbers-2.ensures) refl

pub returns-in-Some-numbers-3 : goal.returns-in-Some-numbers-3
returns-in-Some-numbers-3 c = rw (← c.in_default.ensures, ← c.in_default-numbers.ensures, ← c.in_default-numbers-2.ensures, ← c.in-Some-numbers-3.ensures) refl

pub returns-in-Some-numbers-4 : goal.returns-in-Some-numbers-4
returns-in-Some-numbers-4 c =
    rw (← c.in_default.ensures, ← c.in_default-numbers.ensures, ← c.in_default-numbers-2.ensures, ← c.in_default-numbers-3.ensures, ← c.in-Some-numbers-4.ensures)
    (ap (λ (x : Command). Some x) c.below.ensures)

pub returns-in-Some-numbers-5 : goal.returns-in-Some-numbers-5
returns-in-Some-numbers-5 c =
    rw (← c.in_default.ensures, ← c.in_default-numbers.ensures, ← c.in_default-numbers-2.ensures, ← c.in_default-numbers-3.ensures, ← c.in_default-numbers-4.ensures, ← c.in-Some-numbers-5.ensures) refl

pub returns : goal.returns
returns c =
    rw (← c.in_default.ensures, ← c.in_default-numbers.ensures, ← c.in_default-numbers-2.ensures, ← c.in_default-numbers-3.ensures, ← c.in_default-numbers-4.ensures, ← c.in_default-numbers-5.ensures) refl
