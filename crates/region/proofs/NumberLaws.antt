-- A list's number and places, in the paper's own numbers: each exactly when what the paper says of it holds. Number and places together give back the answer,
-- whose meaning is `list_exactly`; and 8 and 0 are no unsound record's, whose number is 2 to 5. Assumes nothing.
use mathlib.Core.Path.{◌≡◌, refl, sym, ◌∙◌, ap, ap₂}
use mathlib.Core.Bool.{Bool, true, false, not}
use mathlib.Core.List.{List, [], ◌∷◌}
use mathlib.Core.Logic.Iff
use mathlib.Core.Logic.{◌↔◌, ◌⊎◌}
use Prim.Native.Nat.{ℕ, ◌+◌, ◌*◌, ◌%◌, ◌≤◌, ◌<◌}
use native.Mathlib.Omega.{arith}
use lib.Dec.{ltb, eqb, lit<}
use lib.ListN.{length}
use Rattle.laws.specs.Pick.{pick}
use Rattle.laws.specs.Power.{is_pow2}
use Rattle.region.specs.declared.Range.{Range}
use Rattle.region.specs.List.{Judged, Valid, Short, Unsound, Pair, record_at, records, judged, number_of, places_of, list_no, list_places, AllSound, Apart, First, Says}
use Rattle.region.specs.Sound.{min_region_size, highest_end, soundness, region_no}
use Rattle.region.proofs.ListLaws.{number_due, places_due, list_exactly}
use Rattle.region.proofs.OverlapLaws.{overlaps_exactly, apart_exactly}

-- one region's number is at most 5
pub region_number : (base size : ℕ) → region_no base size < 6
unfolding region_no soundness
region_number base size = by (not (is_pow2 size)) (ltb size min_region_size) (not (eqb (base % size) 0)) (ltb highest_end (base + size))
  where
    by : (a b c d : Bool) → pick a 2 (pick b 3 (pick c 4 (pick d 5 0))) < 6
    by true b c d = lit< tt
    by false true c d = lit< tt
    by false false true d = lit< tt
    by false false false true = lit< tt
    by false false false false = lit< tt

-- the answer of a number and its places
answer_of : ℕ → List ℕ → Judged
answer_of k [] = pick (eqb k 0) Valid Short
answer_of k (i ∷ []) = Unsound i k
answer_of k (i ∷ j ∷ is) = Pair i j

given_back : (r : Judged) → answer_of (number_of r) (places_of r) ≡ r
unfolding answer_of
given_back Valid = refl
given_back Short = refl
given_back (Unsound i k) = refl
given_back (Pair i j) = refl

module _ (at : ℕ → Range) (have n : ℕ) where
  -- the list is answered with the number k and the places is
  abbrev Told : ℕ → List ℕ → Type 0
  Told k is = (list_no at have n ≡ k) × (list_places at have n ≡ is)

  told_exactly : (r : Judged) → Told (number_of r) (places_of r) ↔ Says at have n r
  told_exactly r =
      Iff.trans (
        λ e. sym (given_back (judged at have n)) ∙ ap₂ answer_of (number_due at have n ∙ e.0) (places_due at have n ∙ e.1) ∙ given_back r,
        λ e. (sym (number_due at have n) ∙ ap number_of e, sym (places_due at have n) ∙ ap places_of e),
      ) (list_exactly at have n r)

  -- ---- 0: all sound, no two overlap
  pub list_0 : Told 0 [] ↔ ((n ≤ have) × AllSound at n × Apart at n)
  list_0 = told_exactly Valid

  -- 8: the count is beyond the records
  pub list_8 : Told 8 [] ↔ (have < n)
  list_8 = told_exactly Short

  -- 2 to 5 with place i: record i is the lowest unsound one, and this is its number
  pub list_unsound : (i k : ℕ) → Told k (i ∷ []) ↔ ((n ≤ have) × AllSound at i × (i < n) × (region_no (at i).base (at i).size ≡ k) × ¬ (k ≡ 0))
  list_unsound i k = told_exactly (Unsound i k)

  -- 6 with places i and j: all sound, and i and j are the first pair
  pub list_6 : (i j : ℕ) → Told 6 (i ∷ j ∷ []) ↔ ((n ≤ have) × AllSound at n × First at n i j)
  list_6 i j = told_exactly (Pair i j)

  -- ---- by the number alone
  found : Says at have n (judged at have n)
  found = (list_exactly at have n (judged at have n)).0 refl

  pub number_0 : (list_no at have n ≡ 0) ↔ ((n ≤ have) × AllSound at n × Apart at n)
  number_0 = (λ e. by (judged at have n) found (number_due at have n ∙ e), λ s. (list_0.1 s).0)
    where
      by : (r : Judged) → Says at have n r → number_of r ≡ 0 → (n ≤ have) × AllSound at n × Apart at n
      by Valid s e = s
      by Short s e = absurd (omega arith)
      by (Unsound i k) s e = absurd (s.4 e)
      by (Pair i j) s e = absurd (omega arith)

  pub number_8 : (list_no at have n ≡ 8) ↔ (have < n)
  number_8 = (λ e. by (judged at have n) found (number_due at have n ∙ e), λ s. (list_8.1 s).0)
    where
      by : (r : Judged) → Says at have n r → number_of r ≡ 8 → have < n
      by Valid s e = absurd (omega arith)
      by Short s e = s
      by (Unsound i k) s e = absurd (omega (arith, e, s.3, region_number (at i).base (at i).size))
      by (Pair i j) s e = absurd (omega arith)

  -- ---- in whole numbers: records are apart if one ends where the other begins, or before; a pair by both halves of the formula
  pub apart_bytes : Apart at n ↔ ((i j : ℕ) → i < j → j < n → ((at j).base + (at j).size ≤ (at i).base) ⊎ ((at i).base + (at i).size ≤ (at j).base))
  apart_bytes = (λ a i j h k. (apart_exactly (at i) (at j)).0 (a i j h k), λ f i j h k. (apart_exactly (at i) (at j)).1 (f i j h k))

  pub pair_bytes : (i j : ℕ) → First at n i j → ((at i).base < (at j).base + (at j).size) × ((at j).base < (at i).base + (at i).size)
  pair_bytes i j f = (overlaps_exactly (at i) (at j)).0 f.passes

-- flat words: 8 exactly if they are fewer than three for each of the n records
pub words_8 : (ws : List ℕ) (n : ℕ) → (list_no (record_at ws) (records ws) n ≡ 8) ↔ (length ws < 3 * n)
words_8 ws n = Iff.trans (number_8 (record_at ws) (records ws) n) (λ h. omega (arith, h), λ h. omega (arith, h))
