-- At each turn the last digit of what is left goes in front of the text. The turn that leaves nothing has written the first. Assumes nothing.
use mathlib.Core.Path.{◌≡◌, refl, sym, ◌∙◌, ap}
use mathlib.Core.List.{List, [], ◌∷◌, ◌++◌, append-nil}
use Prim.Native.Nat.{ℕ, zero, suc, ◌+◌, ◌-◌, ◌*◌, ◌/◌, ◌%◌, ◌^◌, ◌≤◌, ◌<◌}
use native.Mathlib.Nat.{le_of_suc-le-suc, not-suc-le-zero, pow-suc}
use native.Mathlib.Omega.{arith}
use lib.ListN.{length, drop, set, length-set, drop_of_length-le}
use lib.Seq.{append_snoc}
use Rattle.text.specs.Digits.{zero_byte, largest, digits}
use Rattle.text.proofs.DigitsLaws.{digits_one, digits_more}
use Rattle.text.proofs.PutLaws.{to_the_end}
use Rattle.text.proofs.spell.Goals as goal

-- what a store at i puts in front of the text after it
drop-set : (l : List ℕ) (i x : ℕ) → i < length l → drop i (set l i x) ≡ x ∷ drop (suc i) l
drop-set [] i x h = absurd (not-suc-le-zero h)
drop-set (y ∷ l) zero x h = refl
drop-set (y ∷ l) (suc i) x h = drop-set l i x (le_of_suc-le-suc h)

module _ (l : List ℕ) (i rest : ℕ) (h : length l ≡ 10) (p : 0 < i) (q : i ≤ 10) where
  before : i ≡ suc (i - 1)
  before = omega arith

  more : rest ≤ largest → 10 ≤ rest → digits rest ++ drop i l ≡ digits (rest / 10) ++ drop (i - 1) (set l (i - 1) (zero_byte + rest % 10))
  more s k =
      rw (digits_more rest s k, append_snoc, drop-set l (i - 1) (zero_byte + rest % 10) (omega arith))
      (ap (λ (k : ℕ). digits (rest / 10) ++ ((zero_byte + rest % 10) ∷ drop k l)) before)

  one : rest < 10 → digits rest ++ drop i l ≡ drop (i - 1) (set l (i - 1) (zero_byte + rest % 10))
  one k =
      let m : rest % 10 ≡ rest = omega arith in
      rw (m, digits_one rest k, drop-set l (i - 1) (zero_byte + rest) (omega arith)) (ap (λ (k : ℕ). (zero_byte + rest) ∷ drop k l) before)

tenfold : (i : ℕ) → 0 < i → 10 ^ i ≡ 10 ^ (i - 1) * 10
tenfold zero h = absurd (omega arith)
tenfold (suc i) h = let e : suc i - 1 ≡ i = omega arith in rw e (pow-suc 10 i)

pub loop-i-init : goal.loop-i-init
loop-i-init c =
    record {
      long = c.told-text;
      below = omega (arith, c.ranges.n);
      left = λ h. absurd (omega arith);
      spelt = sym (ap (λ (l : List ℕ). digits c.args.n ++ l) (drop_of_length-le c.args.text.now {i = 10} (omega arith)) ∙ append-nil _);
    }

pub loop-i-preserved : goal.loop-i-preserved
loop-i-preserved c =
    let l = c.loop-i in
    let v = l.invariant in
    record {
      long = length-set l.text (l.i - 1) _ ∙ v.long;
      below = omega (arith, v.below, tenfold l.i c.loop-i-test.true);
      left = λ h. omega (arith, c.if-rest-eq0.false);
      spelt = v.spelt ∙ more l.text l.i l.rest v.long c.loop-i-test.true l.auto.i (omega arith) (omega arith);
    }

pub returns-then-rest-eq0 : goal.returns-then-rest-eq0
returns-then-rest-eq0 c =
    let l = c.loop-i in
    let v = l.invariant in
    to_the_end _ (l.i - 1) (length-set l.text (l.i - 1) _ ∙ v.long) ∙ sym (v.spelt ∙ one l.text l.i l.rest v.long c.loop-i-test.true l.auto.i (omega arith))
