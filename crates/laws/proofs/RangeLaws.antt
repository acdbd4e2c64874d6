-- What the library's `any` and `all` over a range of numbers answer: some, or every, place of the range passes. By induction on its length. Assumes
-- nothing.
use mathlib.Core.Path.{◌≡◌, refl, sym, ◌∙◌, ap}
use mathlib.Core.Bool.{Bool, true, false, not}
use Prim.Native.Nat.{ℕ, zero, suc, ◌+◌}
use native.Mathlib.Omega.{arith}
use Rattle.std.specs.List.{list_any, list_all, range_with_len}
use Rattle.laws.specs.Search.{some, every}
use Rattle.laws.proofs.SearchLaws.{some_here, some_next, some_end}

pub any_range : (f : ℕ → Bool) (i n : ℕ) → list_any f (range_with_len i n) ≡ some f i (i + n)
any_range f i zero = sym (some_end f {i = i} {m = i + zero} (omega arith))
any_range f i (suc n) = by (f i) refl (any_range f (i + 1) n)
  where
    by : (b : Bool) → f i ≡ b → list_any f (range_with_len (i + 1) n) ≡ some f (i + 1) (i + 1 + n) → list_any f (range_with_len i (suc n)) ≡ some f i (i + suc n)
    by true e rest = rw e (sym (some_here f {i = i} {m = i + suc n} (omega arith) e))
    by false e rest =
        let end : i + 1 + n ≡ i + suc n = omega arith in
        rw e (rest ∙ ap (some f (i + 1)) end ∙ sym (some_next f {i = i} {m = i + suc n} (omega arith) e))

-- every passes where none fails
not_any : (f : ℕ → Bool) (i n : ℕ) → list_all f (range_with_len i n) ≡ not (list_any (λ k. not (f k)) (range_with_len i n))
not_any f i zero = refl
not_any f i (suc n) = by (f i) refl (not_any f (i + 1) n)
  where
    by : (b : Bool) → f i ≡ b → list_all f (range_with_len (i + 1) n) ≡ not (list_any (λ k. not (f k)) (range_with_len (i + 1) n))
        → list_all f (range_with_len i (suc n)) ≡ not (list_any (λ k. not (f k)) (range_with_len i (suc n)))
    by true e rest = rw e rest
    by false e rest = rw e

pub all_range : (f : ℕ → Bool) (i n : ℕ) → list_all f (range_with_len i n) ≡ every f i (i + n)
all_range f i n = not_any f i n ∙ ap not (any_range (λ k. not (f k)) i n)
