-- What the list check's answer means, for records that any function gives. Assumes nothing.
use mathlib.Core.Path.{◌≡◌, refl, ap, ◌∙◌, sym, subst}
use mathlib.Core.Bool.{Bool, true, false, not, true≢false}
use mathlib.Core.Logic.{◌↔◌}
use Prim.Native.Nat.{ℕ, ◌≤◌, ◌<◌, zero-le}
use native.Mathlib.Nat.{le_of_lt}
use borrow.Author.Tests.{ltb-true, ltb-false, lt-ltb, le-ltb, eqb-true, eqb-false, eq-eqb, ne_eqb, not-true, not-false}
use lib.Dec.{ltb}
use Rattle.laws.specs.Pick.{pick}
use Rattle.laws.specs.Search.{some, paired, pair_low, pair_high, Least}
use Rattle.laws.proofs.SearchLaws.{lowest_least, least_one, none_exactly}
use Rattle.laws.proofs.PairLaws.{pair_first, no_pair, first_pair_one}
use Rattle.laws.proofs.BoolLaws.{pick-ap, holds_unless}
use Rattle.region.specs.declared.Range.{Range}
use Rattle.region.specs.List.{Judged, Valid, Short, Unsound, Pair, number_at, unsound, meeting, culprit, pair_of, judged, number_of, places_of, list_no, list_places, AllSound, Says}

module _ (at : ℕ → Range) (have n : ℕ) where
  -- ---- the answer in the numbers of the paper: by how its three tests come out
  pub number_due : number_of (judged at have n) ≡ list_no at have n
  unfolding judged pair_of list_no
  number_due = simp (pick-ap number_of)

  pub places_due : places_of (judged at have n) ≡ list_places at have n
  unfolding judged pair_of list_places
  places_due = simp (pick-ap places_of)

  -- an answer that is the one due is so in its number and its places too
  pub in_numbers : {r : Judged} → r ≡ judged at have n → (r ≡ judged at have n) × ((number_of r ≡ list_no at have n) × (places_of r ≡ list_places at have n))
  in_numbers e = (e, (ap number_of e ∙ number_due, ap places_of e ∙ places_due))

  -- ---- each answer, exactly when what it says holds
  sound_at : (i : ℕ) → (unsound at i ≡ false) ↔ (number_at at i ≡ 0)
  sound_at i = (λ e. eqb-true _ _ (not-false _ e), λ e. ap not (eq-eqb _ _ e))

  all_sound : (some (unsound at) 0 n ≡ false) ↔ AllSound at n
  all_sound =
      let none = none_exactly (unsound at) {i = 0} {m = n} zero-le in
      (λ e i h. (sound_at i).0 (none.0 e i zero-le h), λ a. none.1 (λ i l h. (sound_at i).1 (a i h)))

  told : Says at have n (judged at have n)
  unfolding judged pair_of
  told = short (ltb have n) refl
    where
      met : n ≤ have → AllSound at n → (b : Bool) → some (paired (meeting at) n) 0 n ≡ b → Says at have n (pick b (Pair (pair_low (meeting at) n) (pair_high (meeting at) n)) Valid)
      met f a true e = (f, a, pair_first (meeting at) n e)
      met f a false e = (f, a, (no_pair (meeting at) n).0 e)

      bad : n ≤ have → (b : Bool) → some (unsound at) 0 n ≡ b → Says at have n (pick b (Unsound (culprit at n) (number_at at (culprit at n))) (pair_of at n))
      bad f true e =
          let low = lowest_least (unsound at) {i = 0} {m = n} zero-le in
          let here : culprit at n < n = ltb-true _ _ e in
          (f, λ i h. (sound_at i).0 (low.none i zero-le h), here, refl, eqb-false _ _ (not-true _ (low.passes here)))
      bad f false e = met f (all_sound.0 e) (some (paired (meeting at) n) 0 n) refl

      short : (b : Bool) → ltb have n ≡ b → Says at have n (pick b Short (pick (some (unsound at) 0 n) (Unsound (culprit at n) (number_at at (culprit at n))) (pair_of at n)))
      short true e = ltb-true _ _ e
      short false e = bad (ltb-false _ _ e) (some (unsound at) 0 n) refl

  due : (r : Judged) → Says at have n r → judged at have n ≡ r
  unfolding judged pair_of
  due Valid s = rw (le-ltb _ _ s.0, all_sound.1 s.1, (no_pair (meeting at) n).1 s.2)
  due Short s = rw (lt-ltb _ _ s)
  due (Unsound i k) s = rw (le-ltb _ _ s.0, low, lt-ltb _ _ s.2, s.3)
    where
      own : Least (unsound at) 0 n i
      own =
          record { from = zero-le; within = le_of_lt s.2; passes = λ h. ap not (ne_eqb _ _ (λ z. s.4 (sym s.3 ∙ z))); none = λ j l h. (sound_at j).1 (s.1 j h) }

      low : culprit at n ≡ i
      low = least_one (unsound at) (lowest_least (unsound at) zero-le) own
  due (Pair i j) s = rw (le-ltb _ _ s.0, all_sound.1 s.1, is.1, is.0, rw is.0 at met)
    where
      met : some (paired (meeting at) n) 0 n ≡ true
      met = holds_unless (λ e. true≢false (sym s.2.passes ∙ (no_pair (meeting at) n).0 e i j s.2.ordered s.2.within))

      is : (pair_low (meeting at) n ≡ i) × (pair_high (meeting at) n ≡ j)
      is = first_pair_one (meeting at) (pair_first (meeting at) n met) s.2

  pub list_exactly : (r : Judged) → (judged at have n ≡ r) ↔ Says at have n r
  list_exactly r = (λ e. subst (Says at have n) e told, due r)
