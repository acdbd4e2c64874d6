-- A list filled place by place: what holds of each place below i, and of the value put at i, holds of each place up to i. By the place asked for. Assumes nothing.
use Rattle.std.proofs.Common.{ℕ, ◌+◌, ◌<◌, List, length, get_or, set, arith, inl, inr}
use Rattle.std.proofs.lemmas.List.{get_or-set_same, get_or-set_other}
use Rattle.std.proofs.lemmas.Bool.{cases_eq}

pub filled_next : {X : Type 0} (P : ℕ → X → Type 0) (xs : List X) (i : ℕ) (y : X) → i < length xs → P i y → ((k : ℕ) (z : X) → k < i → P k (get_or xs k z)) →
    (k : ℕ) (z : X) → k < i + 1 → P k (get_or (set xs i y) k z)
filled_next P xs i y h new old k z l =
    elim (cases_eq k i) [
      | inl e ↦ rw (e, get_or-set_same xs i y z h) new
      | inr n ↦ rw (get_or-set_other xs i k y z n) (old k z (omega arith))
    ]
