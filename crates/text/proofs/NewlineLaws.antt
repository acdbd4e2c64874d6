-- The place that is found is the first newline from a place on: the least that passes the search. Assumes nothing.
use mathlib.Core.Path.{◌≡◌, refl, sym, ◌∙◌, ap, subst}
use mathlib.Core.Logic.{◌↔◌}
use mathlib.Core.Bool.{Bool, true, false}
use mathlib.Core.List.{List}
use Prim.Native.Nat.{ℕ, zero, suc, ◌+◌, ◌-◌, ◌≤◌, ◌<◌}
use native.Mathlib.Nat.{add-zero}
use native.Mathlib.Numerals.{add-one}
use native.Mathlib.Decide.{dec_lt}
use native.Mathlib.Omega.{arith}
use borrow.Author.Tests.{ltb-true, ltb-false, lt-ltb, le-ltb, eqb-true, eqb-false, eq-eqb, ne_eqb}
use lib.Dec.{ltb, eqb}
use lib.ListN.{length, get_or, drop, length-drop, drop_of_length-le}
use lib.Seq.{drop-cons}
use Rattle.laws.specs.Pick.{pick}
use Rattle.laws.specs.Search.{lowest, Least}
use Rattle.laws.proofs.SearchLaws.{lowest_here, lowest_next, lowest_least, lowest_end, least_one}
use Rattle.std.proofs.Common.{Option, Some, None}
use Rattle.std.specs.Option.{option_map}
use Rattle.std.specs.List.{position, position_or_len, slice_range}
use Rattle.text.specs.Read.{newline, is_newline, newline_from}
use Rattle.text.proofs.PutLaws.{to_the_end}

pub record FirstNewline (bytes : List ℕ) (at p : ℕ) : Type 0 where
  pub from : at ≤ p
  pub within : p < length bytes
  pub here : get_or bytes p 0 ≡ newline
  pub none : (k : ℕ) → at ≤ k → k < p → get_or bytes k 0 ≡ newline → ⊥

module _ (bytes : List ℕ) (at : ℕ) where
  abbrev r : ℕ
  r = lowest (is_newline bytes) at (length bytes)

  first : r < length bytes → FirstNewline bytes at r
  first h = by (dec_lt (length bytes) at)
    where
      by : Dec (length bytes < at) → FirstNewline bytes at r
      by (yes l) = absurd (omega (arith, lowest_end (is_newline bytes) {i = at} {m = length bytes} (omega arith)))
      by (no l) =
          let w : Least (is_newline bytes) at (length bytes) r = lowest_least (is_newline bytes) (omega arith) in
          record { from = w.from; within = h; here = eqb-true _ _ (w.passes h); none = λ k a b. eqb-false _ _ (w.none k a b) }

  place : (p : ℕ) → FirstNewline bytes at p → r ≡ p
  place p w =
      least_one (is_newline bytes) (lowest_least (is_newline bytes) (omega (arith, w.from, w.within)))
      record { from = w.from; within = omega (arith, w.within); passes = λ h. eq-eqb _ _ w.here; none = λ k a b. ne_eqb _ _ (w.none k a b) }

  pub newline_exactly : (p : ℕ) → (newline_from bytes at ≡ Some p) ↔ FirstNewline bytes at p
  unfolding newline_from
  newline_exactly p = (by (ltb r (length bytes)) refl, λ w. rw (place p w, lt-ltb p (length bytes) w.within))
    where
      by : (b : Bool) → ltb r (length bytes) ≡ b → pick b (Some r) None ≡ Some p → FirstNewline bytes at p
      by true t e =
          let same : r ≡ p = cc in
          subst (λ (q : ℕ). FirstNewline bytes at q) same (first (ltb-true r (length bytes) t))
      by false t e = cc

  -- and where none is found there is none
  pub newline_none : newline_from bytes at ≡ None → (k : ℕ) → at ≤ k → k < length bytes → get_or bytes k 0 ≡ newline → ⊥
  unfolding newline_from
  newline_none e k a b = by (ltb r (length bytes)) refl e
    where
      by : (t : Bool) → ltb r (length bytes) ≡ t → pick t (Some r) None ≡ None → get_or bytes k 0 ≡ newline → ⊥
      by true t e = cc
      by false t e =
          let past : length bytes ≤ r = ltb-false r (length bytes) t in
          let w : Least (is_newline bytes) at (length bytes) r = lowest_least (is_newline bytes) (omega arith) in
          eqb-false _ _ (w.none k a (omega arith))

-- ---- the same in the library's words
module _ (bytes : List ℕ) where
  -- the lowest place from `at` on lies as far behind it as the library's search of what is left has to go
  lowest_along : (k at : ℕ) → at + k ≡ length bytes → lowest (is_newline bytes) at (length bytes) ≡ at + position_or_len (λ b. eqb b newline) (drop at bytes)
  lowest_along zero at e =
      let h : length bytes ≤ at = omega arith in
      rw (drop_of_length-le bytes h) (lowest_end (is_newline bytes) h ∙ sym (add-zero at))
  lowest_along (suc k) at e = by (eqb (get_or bytes at 0) newline) refl (lowest_along k (suc at) (omega arith))
    where
      h : at < length bytes
      h = omega arith

      by : (b : Bool) → eqb (get_or bytes at 0) newline ≡ b →
          lowest (is_newline bytes) (suc at) (length bytes) ≡ suc at + position_or_len (λ c. eqb c newline) (drop (suc at) bytes) →
          lowest (is_newline bytes) at (length bytes) ≡ at + position_or_len (λ c. eqb c newline) (drop at bytes)
      by true t rest = rw (drop-cons bytes at 0 h, t) (lowest_here (is_newline bytes) h t ∙ sym (add-zero at))
      by false t rest =
          let next = lowest_next (is_newline bytes) h t ∙ ap (λ (k : ℕ). lowest (is_newline bytes) k (length bytes)) (add-one at) ∙ rest in
          rw (drop-cons bytes at 0 h, t) (omega (arith, next))

  pub newline_beyond : (at : ℕ) → length bytes < at → None ≡ newline_from bytes at
  unfolding newline_from
  newline_beyond at h =
      let l : length bytes ≤ at = omega arith in
      rw (lowest_end (is_newline bytes) l, le-ltb at (length bytes) l)

  placed : (at : ℕ) → at ≤ length bytes → newline_from bytes at ≡ option_map (λ i. at + i) (position (λ b. eqb b newline) (drop at bytes))
  unfolding newline_from
  placed at h =
      let r = position_or_len (λ b. eqb b newline) (drop at bytes) in
      rw (lowest_along (length bytes - at) at (omega arith)) (by r (dec_lt r (length (drop at bytes))))
    where
      by : (r : ℕ) → Dec (r < length (drop at bytes)) → pick (ltb (at + r) (length bytes)) (Some (at + r)) None ≡ option_map (λ i. at + i) (pick (ltb r (length (drop at bytes))) (Some r) None)
      by r (yes l) = rw (lt-ltb _ _ l, lt-ltb (at + r) (length bytes) (omega (arith, length-drop at bytes)))
      by r (no l) = let m : length (drop at bytes) ≤ r = omega arith in rw (le-ltb _ _ m, le-ltb (at + r) (length bytes) (omega (arith, length-drop at bytes)))

  pub newline_position : (at : ℕ) (s : List ℕ) (r : Option ℕ) → at ≤ length bytes → s ≡ slice_range bytes at (length bytes) → r ≡ position (λ b. eqb b newline) s → option_map (λ i. at + i) r ≡ newline_from bytes at
  newline_position at s r h e t = rw (t, e, to_the_end bytes at refl) (sym (placed at h))
