-- The key, and straight after it the digits, are put in as one. Assumes nothing.
use native.Mathlib.Omega.{arith}
use Rattle.text.specs.Digits.{digits}
use Rattle.text.proofs.DigitsLaws.{few_digits}
use Rattle.text.proofs.PutLaws.{length_over, take_both}
use Rattle.text.proofs.put_field.Goals as goal

pub copy-requires : goal.copy-requires
copy-requires c =
    let a = c.args in
    let few = few_digits 9 a.n (omega arith) (omega arith) in
    rw (c.copy-value.ensures.0, c.copy-value.ensures.1, c.spell.ensures, length_over a.out.now a.at a.key.now (omega arith)) (omega (arith, few))

pub returns : goal.returns
returns c =
    let a = c.args in
    let v = rw c.spell.ensures at c.copy.ensures in
    let few = few_digits 9 a.n (omega arith) (omega arith) in
    (omega (arith, few, v.0, c.copy-value.ensures.0), rw (v.1, v.0, c.copy-value.ensures.1, c.copy-value.ensures.0) (take_both a.out.now a.at a.key.now (digits a.n) (omega (arith, few))))
