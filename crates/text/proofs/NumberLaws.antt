-- A number is read at a place exactly if its digits stand there and no digit after them. The digits are a run, whose value is the number; and a run that
-- has the form of a number is the digits of its value. Assumes nothing.
use mathlib.Core.Path.{◌≡◌, refl, sym, ◌∙◌, ap, ap₂}
use mathlib.Core.Logic.{◌↔◌}
use mathlib.Core.Bool.{Bool, true, false, not, ◌&&◌}
use mathlib.Core.List.{List, ◌++◌, append-nil}
use Prim.Native.Nat.{ℕ, ◌+◌, ◌≤◌, ◌<◌}
use native.Mathlib.Omega.{arith}
use borrow.Author.Tests.{le-ltb, ltb-false}
use lib.Dec.{ltb}
use lib.ListN.{length, get_or, drop, drop_of_length-le}
use lib.Seq.{drop-drop}
use Rattle.laws.specs.Pick.{pick}
use Rattle.std.proofs.Common.{Some, None}
use Rattle.std.specs.List.{slice_range}
use Rattle.text.specs.Digits.{largest, digits, is_digit, run, value}
use Rattle.text.specs.Put.{over, after}
use Rattle.text.specs.Read.{Read, any, leading_zero, sized, number_of, number_at, Stands}
use Rattle.text.proofs.DigitsLaws.{all_digits_lem, any_digits, no_leading_zero}
use Rattle.text.proofs.RunLaws.{run_all, run_none, all_run, run_split}
use Rattle.text.proofs.ValueLaws.{value_digits, digits_value}
use Rattle.text.proofs.PutLaws.{to_the_end, put_fits}
use Rattle.text.proofs.StandsLaws.{read_one, get_or-first, stands_between, first_after, stands_put, first_over}

-- the number v stands at a place, whole, and p is the place after it
pub record NumberStands (bytes : List ℕ) (at v p : ℕ) : Type 0 where
  pub small : v ≤ largest
  pub here : Stands bytes at (digits v) p
  pub ends : is_digit (get_or bytes p 0) ≡ false

-- ---- the number of the run that a routine found
module _ (bytes : List ℕ) (at : ℕ) where
  pub number_beyond : length bytes < at → None ≡ number_at bytes at
  unfolding number_at run
  number_beyond h = let l : length bytes ≤ at = omega arith in rw (drop_of_length-le bytes l)

  pub number_run : (s : List ℕ) (f : Bool) → s ≡ slice_range bytes at (length bytes) → f ≡ (any (run s) && not (leading_zero (run s))) → pick f (sized (run (drop at bytes)) at) None ≡ number_at bytes at
  unfolding number_at
  number_run s f e t =
      let ds = run (drop at bytes) in
      rw (t, e, to_the_end bytes at refl) (by (any ds) (leading_zero ds) (sized ds at))
    where
      by : (a z : Bool) (r : Read ℕ) → pick (a && not z) r None ≡ pick a (pick z None r) None
      by true true r = refl
      by true false r = refl
      by false z r = refl

-- ---- what is written is read
of_digits : (v at : ℕ) → v ≤ largest → number_of (digits v) at ≡ Some (v, at + length (digits v))
of_digits v at h = rw (any_digits v h, no_leading_zero v h, value_digits v h, le-ltb largest v h)

number_reads : (bytes : List ℕ) (at v p : ℕ) → NumberStands bytes at v p → number_at bytes at ≡ Some (v, p)
unfolding number_at
number_reads bytes at v p w =
    ap (λ (ds : List ℕ). number_of ds at) whole ∙ of_digits v at w.small ∙ ap (λ (q : ℕ). Some (v, q)) (sym w.here.next)
  where
    whole : run (drop at bytes) ≡ digits v
    whole = rw (w.here.text, run_all (digits v) (drop p bytes) (all_digits_lem v w.small), run_none bytes p w.ends) (append-nil (digits v))

-- ---- only what is so written is read
module _ (ds : List ℕ) (at v p : ℕ) where
  tests : number_of ds at ≡ Some (v, p) → (any ds ≡ true) × (leading_zero ds ≡ false) × (value ds ≤ largest) × (value ds ≡ v) × (at + length ds ≡ p)
  tests = by (any ds) (leading_zero ds) (ltb largest (value ds)) refl refl refl
    where
      by : (a z l : Bool) → any ds ≡ a → leading_zero ds ≡ z → ltb largest (value ds) ≡ l →
          pick {X = Read ℕ} a (pick z None (pick l None (Some (value ds, at + length ds)))) None ≡ Some (v, p) →
          (any ds ≡ true) × (leading_zero ds ≡ false) × (value ds ≤ largest) × (value ds ≡ v) × (at + length ds ≡ p)
      by true false false a z l e = (a, z, ltb-false largest (value ds) l, (read_one e).0, (read_one e).1)
      by true false true a z l e = cc
      by true true l a z k e = cc
      by false z l a y k e = cc

number_read : (bytes : List ℕ) (at v p : ℕ) → number_at bytes at ≡ Some (v, p) → NumberStands bytes at v p
unfolding number_at
number_read bytes at v p e =
    let bs = drop at bytes in
    let t = tests (run bs) at v p e in
    let own : digits v ≡ run bs = ap digits (sym t.3) ∙ digits_value (run bs) t.2 t.0 (all_run bs) t.1 in
    let left : drop (length (run bs)) bs ≡ drop p bytes = drop-drop (length (run bs)) at bytes ∙ ap (λ (k : ℕ). drop k bytes) t.4 in
    record {
      small = rw (sym t.3) t.2;
      here = record { text = (run_split bs).0 ∙ ap₂ ◌++◌ (sym own) left; next = sym t.4 ∙ ap (λ (l : List ℕ). at + length l) (sym own) };
      ends = sym (ap is_digit (ap (λ (l : List ℕ). get_or l 0 0) left ∙ get_or-first p bytes)) ∙ (run_split bs).1;
    }

pub number_exactly : (bytes : List ℕ) (at v p : ℕ) → (number_at bytes at ≡ Some (v, p)) ↔ NumberStands bytes at v p
number_exactly bytes at v p = (number_read bytes at v p, number_reads bytes at v p)

-- ---- the round trip, whatever follows that is no digit
pub number_back : (pre rest : List ℕ) (n : ℕ) → n ≤ largest → is_digit (get_or rest 0 0) ≡ false → number_at (pre ++ digits n ++ rest) (length pre) ≡ Some (n, length pre + length (digits n))
number_back pre rest n h e =
    number_reads (pre ++ digits n ++ rest) (length pre) n (length pre + length (digits n))
    record { small = h; here = stands_between pre (digits n) rest; ends = ap is_digit (first_after pre (digits n) rest) ∙ e }

-- the same out of a buffer that it was put into
pub number_put_back : (out : List ℕ) (at n : ℕ) → n ≤ largest → at + length (digits n) ≤ length out → is_digit (get_or out (at + length (digits n)) 0) ≡ false → number_at (after out at (digits n)) at ≡ Some (n, at + length (digits n))
number_put_back out at n h r e =
    rw (← (put_fits out at (digits n) r).1) (number_reads (over out at (digits n)) at n (at + length (digits n))
    record { small = h; here = stands_put out at (digits n) r; ends = ap is_digit (first_over out at (digits n) r) ∙ e })
