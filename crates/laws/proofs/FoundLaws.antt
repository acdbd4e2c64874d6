-- What the library's searches over a list find, said by place: two go from the front and stop at the first element that passes, so an element's place
-- in the rest of a list is its place in the list, less one. The third goes from the back, and so does the induction: an element more is the first that
-- it looks at. Assumes nothing.
use mathlib.Core.Path.{◌≡◌, refl, sym, ◌∙◌, ap}
use mathlib.Core.Bool.{Bool, true, false}
use Prim.Native.Nat.{ℕ, zero, suc, ◌-◌, ◌≤◌}
use native.Mathlib.Omega.{arith}
use Rattle.std.specs.Prelude.{List, [], ◌∷◌, length, get_or, take, reverse, ltb, eqb, Option, Some, None}
use Rattle.std.specs.List.{list_any, position_or_len, find}
use Rattle.std.proofs.Math.Seq.{take-suc, take-length}
use Rattle.std.proofs.lemmas.List.{length-take-le, get_or-take, reverse-append}
use Rattle.laws.specs.Pick.{pick}
use Rattle.laws.specs.Search.{first, lowest, highest, some}
use borrow.Author.Tests.{ltb-true, lt-ltb, ne_eqb}
use Rattle.laws.proofs.BoolLaws.{pick-ap, same_test}
use Rattle.laws.proofs.SearchLaws.{some_same}

-- one place on in both
first_shift : (f g : ℕ → Bool) → ((k : ℕ) → f (suc k) ≡ g k) → (i n : ℕ) → first f (suc i) n ≡ suc (first g i n)
unfolding first
first_shift f g h i zero = refl
first_shift f g h i (suc n) = rw (h i, first_shift f g h (suc i) n) (sym (pick-ap suc (g i) i (first g (suc i) n)))

-- the first element that passes: here, or one on in the rest
lowest_cons : {X : Type 0} (p : X → Bool) (x : X) (xs : List X) (z : X)
    → lowest (λ i. p (get_or (x ∷ xs) i z)) 0 (suc (length xs)) ≡ pick (p x) 0 (suc (lowest (λ i. p (get_or xs i z)) 0 (length xs)))
unfolding lowest first
lowest_cons p x xs z =
    let whole : suc (length xs) - 0 ≡ suc (length xs) = omega arith in
    let rest : length xs - 0 ≡ length xs = omega arith in
    rw (whole, rest) (ap (pick (p x) 0) (first_shift (λ i. p (get_or (x ∷ xs) i z)) (λ i. p (get_or xs i z)) (λ k. refl) 0 (length xs)))

pub position_lowest : {X : Type 0} (p : X → Bool) (xs : List X) (z : X) → position_or_len p xs ≡ lowest (λ i. p (get_or xs i z)) 0 (length xs)
unfolding lowest first
position_lowest p [] z = refl
position_lowest {X} p (x ∷ xs) z = by (p x) refl (position_lowest p xs z) ∙ sym (lowest_cons p x xs z)
  where
    by : (b : Bool) → p x ≡ b → position_or_len p xs ≡ lowest (λ i. p (get_or xs i z)) 0 (length xs)
        → position_or_len p (x ∷ xs) ≡ pick (p x) 0 (suc (lowest (λ i. p (get_or xs i z)) 0 (length xs)))
    by true e rest = rw e
    by false e rest = rw e (omega (arith, rest))

pub any_some : {X : Type 0} (p : X → Bool) (xs : List X) (z : X) → list_any p xs ≡ some (λ i. p (get_or xs i z)) 0 (length xs)
unfolding lowest first
any_some p [] z = refl
any_some {X} p (x ∷ xs) z = by (p x) refl (any_some p xs z) ∙ sym (ap (λ n. ltb n (suc (length xs))) (lowest_cons p x xs z))
  where
    by : (b : Bool) → p x ≡ b → list_any p xs ≡ some (λ i. p (get_or xs i z)) 0 (length xs)
        → list_any p (x ∷ xs) ≡ ltb (pick (p x) 0 (suc (lowest (λ i. p (get_or xs i z)) 0 (length xs)))) (suc (length xs))
    by true e rest = rw e (sym (lt-ltb _ _ (omega arith)))
    by false e rest = rw (e, rest) (same_test _ _ (λ t. lt-ltb _ _ (omega (arith, ltb-true _ _ t)), λ t. lt-ltb _ _ (omega (arith, ltb-true _ _ t))))

-- the same of the first n
pub any_some_below : {X : Type 0} (p : X → Bool) (xs : List X) (z : X) (n : ℕ) → n ≤ length xs → list_any p (take n xs) ≡ some (λ i. p (get_or xs i z)) 0 n
any_some_below p xs z n h =
    any_some p (take n xs) z ∙ rw (length-take-le n xs h) (some_same n (λ k l. ap p (get_or-take n xs k z l)))

-- the element at the place before h, where there is one
abbrev pub before : {X : Type 0} → List X → X → ℕ → Option X
before xs z h = pick (eqb h 0) None (Some (get_or xs (h - 1) z))

module _ {X : Type 0} (p : X → Bool) (xs : List X) (z : X) where
  -- the last of the first n that passes
  pub find_highest_below : (n : ℕ) → n ≤ length xs → find p (reverse (take n xs)) ≡ before xs z (highest (λ i. p (get_or xs i z)) n)
  unfolding highest
  find_highest_below zero h = refl
  find_highest_below (suc n) h =
      rw (take-suc xs n z (omega arith), reverse-append (take n xs) (get_or xs n z ∷ [])) (by (p (get_or xs n z)) refl (find_highest_below n (omega arith)))
    where
      by : (b : Bool) → p (get_or xs n z) ≡ b → find p (reverse (take n xs)) ≡ before xs z (highest (λ i. p (get_or xs i z)) n)
          → find p (get_or xs n z ∷ reverse (take n xs)) ≡ before xs z (pick (p (get_or xs n z)) (suc n) (highest (λ i. p (get_or xs i z)) n))
      by true e rest = let last : suc n - 1 ≡ n = omega arith in rw (e, ne_eqb (suc n) 0 (λ q. omega arith), last)
      by false e rest = rw e rest

  -- the last of all
  pub find_highest : find p (reverse xs) ≡ before xs z (highest (λ i. p (get_or xs i z)) (length xs))
  find_highest = rw take-length at (find_highest_below (length xs) (omega arith))
