-- What a list of values holds, and how a loop fills an array with them: after n turns the array is the first n values and what was left of it.
-- By induction on the number of values. Assumes nothing.
use mathlib.Core.Path.{◌≡◌, refl, sym, ◌∙◌, ap, ap₂}
use mathlib.Core.List.{List, [], ◌∷◌, ◌++◌, append_assoc, append-nil}
use Prim.Native.Nat.{ℕ, zero, suc, ◌+◌, ◌≤◌, ◌<◌, zero-le, suc-le-suc}
use native.Mathlib.Nat.{add-zero, add-suc, suc-add, zero-add, le_of_suc-le-suc, not-suc-le-zero}
use native.Mathlib.Numerals.{add-one}
use lib.ListN.{length, get_or, set, drop, drop_of_length-le}
use lib.Seq.{drop-cons, set_at}
use Rattle.laws.specs.Listed.{listed}

module _ {X : Type 0} (f : ℕ → X) where
  pub length-listed : (i k : ℕ) → length (listed f i k) ≡ k
  length-listed i zero = refl
  length-listed i (suc k) = ap suc (length-listed (suc i) k)

  pub get_or-listed : (i k j : ℕ) (d : X) → j < k → get_or (listed f i k) j d ≡ f (i + j)
  get_or-listed i zero j d h = absurd (not-suc-le-zero h)
  get_or-listed i (suc k) zero d h = ap f (sym (add-zero i))
  get_or-listed i (suc k) (suc j) d h = get_or-listed (suc i) k j d (le_of_suc-le-suc h) ∙ ap f (suc-add i j ∙ sym (add-suc i j))

  pub listed_snoc : (i k : ℕ) → listed f i (suc k) ≡ listed f i k ++ (f (i + k) ∷ [])
  listed_snoc i zero = ap (λ (n : ℕ). f n ∷ []) (sym (add-zero i))
  listed_snoc i (suc k) =
      ap (λ (l : List X). f i ∷ l) (listed_snoc (suc i) k ∙ ap (λ (n : ℕ). listed f (suc i) k ++ (f n ∷ [])) (suc-add i k ∙ sym (add-suc i k)))

  -- ---- a loop that stores f n at n, from the front
  pub fill_next : (d : List X) (z : X) (n : ℕ) → n < length d → set (listed f 0 n ++ drop n d) n (f n) ≡ listed f 0 (n + 1) ++ drop (n + 1) d
  fill_next d z n h =
      rw (add-one n, drop-cons d n z h)
      (set_at (listed f 0 n) (get_or d n z) (drop (suc n) d) (f n) n (length-listed 0 n)
      ∙ sym (append_assoc (listed f 0 n) (f n ∷ []) (drop (suc n) d))
      ∙ ap (λ (l : List X). l ++ drop (suc n) d) (sym (listed_snoc 0 n ∙ ap (λ (m : ℕ). listed f 0 n ++ (f m ∷ [])) (zero-add n))))

  pub fill_end : (d : List X) (n : ℕ) → length d ≤ n → listed f 0 n ++ drop n d ≡ listed f 0 n
  fill_end d n h = rw (drop_of_length-le d h) (append-nil (listed f 0 n))

-- a list that holds the function's value at each place is the function listed
pub listed_by : {X : Type 0} (f : ℕ → X) (i : ℕ) (xs : List X) (z : X) → ((j : ℕ) → j < length xs → get_or xs j z ≡ f (i + j)) → xs ≡ listed f i (length xs)
listed_by f i [] z h = refl
listed_by f i (x ∷ xs) z h =
    ap₂ ◌∷◌ (h 0 (suc-le-suc zero-le) ∙ ap f (add-zero i))
    (listed_by f (suc i) xs z (λ j l. h (suc j) (suc-le-suc l) ∙ ap f (add-suc i j ∙ sym (suc-add i j))))

-- two functions that agree, place by place, are listed alike
pub listed_same : {X : Type 0} (f g : ℕ → X) (i j k : ℕ) → ((m : ℕ) → m < k → f (i + m) ≡ g (j + m)) → listed f i k ≡ listed g j k
listed_same f g i j zero e = refl
listed_same f g i j (suc k) e =
    ap₂ ◌∷◌ (rw (add-zero i, add-zero j) at (e 0 (suc-le-suc zero-le)))
    (listed_same f g (suc i) (suc j) k (λ m h. ap f (suc-add i m ∙ sym (add-suc i m)) ∙ e (suc m) (suc-le-suc h) ∙ sym (ap g (suc-add j m ∙ sym (add-suc j m)))))
