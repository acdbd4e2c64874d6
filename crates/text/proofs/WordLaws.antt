-- A word is found at a place exactly if it stands there: the bytes begin with it as the library's `starts_with` says it. Assumes nothing.
use mathlib.Core.Path.{◌≡◌, refl, sym, ap, ap₂, subst}
use mathlib.Core.Bool.{Bool, true, false, ◌&&◌, and-false, true≢false}
use mathlib.Core.Logic.{◌↔◌}
use mathlib.Core.List.{List, [], ◌∷◌, ◌++◌}
use Prim.Native.Nat.{ℕ, ◌+◌, ◌≤◌, ◌<◌}
use native.Mathlib.Nat.{le_of_suc-le-suc, not-suc-le-zero}
use native.Mathlib.Numerals.{add-one}
use borrow.Author.Tests.{eq-eqb, ne_eqb, eqb-true, eqb-false, leb-true, le-leb, lt-leb}
use lib.Dec.{leb, eqb}
use lib.ListN.{length, get_or, drop, drop_of_length-le}
use lib.Seq.{drop-cons}
use Rattle.laws.specs.Pick.{pick}
use Rattle.laws.proofs.BoolLaws.{and_left, and_right}
use Rattle.std.proofs.Common.{Some, None}
use Rattle.std.specs.List.{starts_with, slice_range}
use Rattle.text.specs.Read.{begins, word_at, Stands}
use Rattle.text.proofs.PutLaws.{to_the_end}
use Rattle.text.proofs.StandsLaws.{stands}

-- ---- equal bytes leave what is after them to be compared, and unequal ones, or too few, settle it
module _ (bytes word : List ℕ) (k j : ℕ) (h : k < length bytes) (l : j < length word) where
  pub begins_next : get_or bytes k 0 ≡ get_or word j 0 → begins (drop k bytes) (drop j word) ≡ begins (drop (k + 1) bytes) (drop (j + 1) word)
  unfolding begins
  begins_next e = rw (add-one k, add-one j, drop-cons bytes k 0 h, drop-cons word j 0 l, eq-eqb _ _ e)

  pub begins_other : (get_or bytes k 0 ≡ get_or word j 0 → ⊥) → begins (drop k bytes) (drop j word) ≡ false
  unfolding begins
  begins_other n = rw (drop-cons bytes k 0 h, drop-cons word j 0 l, ne_eqb _ _ n)

pub begins_end : (bs word : List ℕ) {j : ℕ} → length word ≤ j → begins bs (drop j word) ≡ true
unfolding begins
begins_end bs word h = ap (λ (ws : List ℕ). begins bs ws) (drop_of_length-le word h)

pub begins_short : (bs word : List ℕ) → length bs < length word → begins bs word ≡ false
unfolding begins
begins_short bs [] h = absurd (not-suc-le-zero h)
begins_short [] (w ∷ ws) h = refl
begins_short (b ∷ bs) (w ∷ ws) h = rw (begins_short bs ws (le_of_suc-le-suc h), and-false)

-- ---- the same in the library's words
same_as : (a b : ℕ) → eqb a b ≡ eqb b a
same_as a b = by (eqb a b) refl
  where
    by : (t : Bool) → eqb a b ≡ t → t ≡ eqb b a
    by true e = rw (eq-eqb b a (sym (eqb-true a b e)))
    by false e = rw (ne_eqb b a (λ q. eqb-false a b e (sym q)))

pub begins_starts : (bs word : List ℕ) → begins bs word ≡ starts_with eqb bs word
unfolding begins
begins_starts bs [] = refl
begins_starts [] (w ∷ ws) = refl
begins_starts (b ∷ bs) (w ∷ ws) = rw (same_as b w, begins_starts bs ws)

-- what `read_word` finds, in the library's words
module _ (bytes : List ℕ) (at : ℕ) (word : List ℕ) where
  pub word_beyond : length bytes < at → None ≡ word_at bytes at word
  unfolding word_at
  word_beyond h = rw (lt-leb at (length bytes) h)

  pub word_starts : (s : List ℕ) (b : Bool) → at ≤ length bytes → s ≡ slice_range bytes at (length bytes) → b ≡ starts_with eqb s word → pick b (Some (at + length word)) None ≡ word_at bytes at word
  unfolding word_at
  word_starts s b h e t = rw (le-leb at (length bytes) h, begins_starts (drop at bytes) word, ← to_the_end bytes at refl, ← e, ← t)

-- ---- a word is found at a place exactly if it stands there
begins_holds : (bs word : List ℕ) → begins bs word ≡ true → bs ≡ word ++ drop (length word) bs
unfolding begins
begins_holds bs [] e = refl
begins_holds [] (w ∷ ws) e = absurd (true≢false (sym e))
begins_holds (b ∷ bs) (w ∷ ws) e = ap₂ ◌∷◌ (eqb-true b w (and_left (eqb b w) (begins bs ws) e)) (begins_holds bs ws (and_right (eqb b w) (begins bs ws) e))

begins_own : (word rest : List ℕ) → begins (word ++ rest) word ≡ true
unfolding begins
begins_own [] rest = refl
begins_own (w ∷ ws) rest = rw (eq-eqb w w refl, begins_own ws rest)

pub word_exactly : (bytes : List ℕ) (at : ℕ) (word : List ℕ) (p : ℕ) → (word_at bytes at word ≡ Some p) ↔ ((at ≤ length bytes) × Stands bytes at word p)
unfolding word_at
word_exactly bytes at word p = (by (leb at (length bytes)) (begins (drop at bytes) word) refl refl, λ w. reads w.0 w.1)
  where
    by : (l b : Bool) → leb at (length bytes) ≡ l → begins (drop at bytes) word ≡ b → pick (l && b) (Some (at + length word)) None ≡ Some p → (at ≤ length bytes) × Stands bytes at word p
    by true true l b e =
        let next : at + length word ≡ p = cc in
        (leb-true at (length bytes) l, subst (λ (q : ℕ). Stands bytes at word q) next (stands bytes at word _ (begins_holds (drop at bytes) word b)))
    by true false l b e = cc
    by false b l k e = cc

    reads : at ≤ length bytes → Stands bytes at word p → word_at bytes at word ≡ Some p
    reads h w = rw (le-leb at (length bytes) h, w.text, begins_own word (drop p bytes), w.next)
