-- The lists lie one after the other: what begins where the last one ended is the next. Beyond the words every list is empty. Assumes nothing.
use mathlib.Core.Path.{◌≡◌, refl, sym, ◌∙◌, ap, ap₂}
use mathlib.Core.Bool.{Bool, true, false}
use mathlib.Core.List.{List}
use Prim.Native.Nat.{ℕ, ◌+◌, ◌*◌, ◌-◌, ◌/◌, ◌%◌, ◌≤◌, ◌<◌}
use native.Mathlib.Nat.{mul-suc}
use native.Mathlib.Numerals.{add-one}
use native.Mathlib.Omega.{arith}
use borrow.Author.Tests.{ltb-true}
use lib.Dec.{ltb}
use lib.ListN.{length, take, drop, length-drop, drop_of_length-le}
use lib.Seq.{take_all, drop-length, drop-drop}
use Rattle.laws.specs.Pick.{pick}
use Rattle.exports.specs.Words.{end_of}

module _ (ws : List ℕ) (at n : ℕ) (within : at ≤ length ws) where
  pub part_is : take (end_of (length ws) at n - at) (drop at ws) ≡ take n (drop at ws)
  part_is = by (ltb (length ws - at) n) refl
    where
      by : (b : Bool) → ltb (length ws - at) n ≡ b → take (pick b (length ws) (at + n) - at) (drop at ws) ≡ take n (drop at ws)
      by true e =
          let short : length ws - at < n = ltb-true (length ws - at) n e in
          take_all (length ws - at) (drop at ws) (rw (length-drop at ws) (omega arith)) ∙ sym (take_all n (drop at ws) (rw (length-drop at ws) (omega arith)))
      by false e = let same : at + n - at ≡ n = omega arith in ap (λ (k : ℕ). take k (drop at ws)) same

  pub rest_is : drop (end_of (length ws) at n) ws ≡ drop n (drop at ws)
  rest_is = by (ltb (length ws - at) n) refl
    where
      by : (b : Bool) → ltb (length ws - at) n ≡ b → drop (pick b (length ws) (at + n)) ws ≡ drop n (drop at ws)
      by true e =
          let short : length ws - at < n = ltb-true (length ws - at) n e in
          drop-length ws ∙ sym (drop_of_length-le (drop at ws) {i = n} (rw (length-drop at ws) (omega arith)))
      by false e = sym (drop-drop n at ws)

pub list_next : (ws : List ℕ) (n i : ℕ) → drop n (drop (n * i) ws) ≡ drop (n * (i + 1)) ws
list_next ws n i = drop-drop n (n * i) ws ∙ ap (λ (k : ℕ). drop k ws) (sym (mul-suc n i) ∙ ap (λ (k : ℕ). n * k) (sym (add-one i)))

-- word m of answer i, where each has three
pub third : (g : ℕ → ℕ → ℕ) (i m k : ℕ) → m < 3 → k ≡ 3 * i + m → g i m ≡ g (k / 3) (k % 3)
third g i m k h e =
    let whole : i ≡ k / 3 = omega arith in
    let rest : m ≡ k % 3 = omega arith in
    ap₂ g whole rest
