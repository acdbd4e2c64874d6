-- Of a list whose first `have` records are given: a count within them is judged as of the whole list, since nothing past the count is read, and one beyond them is too
-- short. Assumes nothing.
use mathlib.Core.Path.{◌≡◌, refl, sym, ap}
use mathlib.Core.Bool.{Bool, true, false}
use mathlib.Core.List.{List}
use Prim.Native.Nat.{ℕ, ◌≤◌, ◌<◌}
use native.Mathlib.Omega.{arith}
use borrow.Author.Tests.{leb-true, leb-false, lt-ltb}
use lib.Dec.{leb}
use lib.ListN.{length, take}
use lib.Seq.{take_all, length-take-le, get_or-take}
use Rattle.region.specs.List.{Short, judged}
use Rattle.region.proofs.UnreadLaws.{same_list}
use Rattle.lent.specs.declared.MpuRegion.{MpuRegion}
use Rattle.lent.specs.Records.{no_record, range_of, range_at, judged_of}

module _ (ys : List MpuRegion) (have n : ℕ) where
  pub given : n ≤ have → judged_of ys n ≡ judged_of (take have ys) n
  given h = by (leb (length ys) have) refl
    where
      by : (b : Bool) → leb (length ys) have ≡ b → judged_of ys n ≡ judged_of (take have ys) n
      by true e = ap (λ (l : List MpuRegion). judged_of l n) (sym (take_all have ys (leb-true (length ys) have e)))
      by false e =
          let more : have < length ys = leb-false (length ys) have e in
          let long : length (take have ys) ≡ have = length-take-le have ys (omega arith) in
          same_list (range_at ys) (range_at (take have ys)) (length ys) (length (take have ys)) n (omega arith) (omega arith) (λ i l. ap range_of (sym (get_or-take have ys i no_record (omega arith))))

  pub too_few : have < n → Short ≡ judged_of (take have ys) n
  unfolding judged
  too_few h = rw (lt-ltb (length (take have ys)) n (by (leb (length ys) have) refl))
    where
      by : (b : Bool) → leb (length ys) have ≡ b → length (take have ys) < n
      by true e = rw (take_all have ys (leb-true (length ys) have e)) (omega (arith, leb-true (length ys) have e))
      by false e = let more : have < length ys = leb-false (length ys) have e in rw (length-take-le have ys (omega arith)) h
