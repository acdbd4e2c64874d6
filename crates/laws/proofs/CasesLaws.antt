-- A table of worked cases is claimed of every case in it: by going down the table, each case passes, and if each does, the claim holds. Assumes nothing.
use mathlib.Core.Path.{◌≡◌, refl}
use mathlib.Core.Bool.{Bool, true}
use mathlib.Core.Logic.{◌↔◌}
use mathlib.Core.List.{List, [], ◌∷◌}
use Prim.Native.Nat.{ℕ, zero, suc, ◌<◌, zero-le, suc-le-suc}
use native.Mathlib.Nat.{le_of_suc-le-suc, not-suc-le-zero}
use lib.ListN.{length, get_or}
use Rattle.laws.specs.Cases.{holds}
use Rattle.laws.proofs.BoolLaws.{and_left, and_right, both}

pub holds_exactly : {X : Type 0} (f : X → Bool) (cs : List X) (z : X) → (holds f cs ≡ true) ↔ ((i : ℕ) → i < length cs → f (get_or cs i z) ≡ true)
holds_exactly f [] z = (λ e i h. absurd (not-suc-le-zero h), λ a. refl)
holds_exactly {X} f (c ∷ cs) z =
    let rest = holds_exactly f cs z in
    (λ e. each (and_left (f c) (holds f cs) e) (rest.0 (and_right (f c) (holds f cs) e)), λ a. both (a 0 (suc-le-suc zero-le)) (rest.1 (λ i h. a (suc i) (suc-le-suc h))))
  where
    each : f c ≡ true → ((i : ℕ) → i < length cs → f (get_or cs i z) ≡ true) → (i : ℕ) → i < length (c ∷ cs) → f (get_or (c ∷ cs) i z) ≡ true
    each e rest zero h = e
    each e rest (suc i) h = rest i (le_of_suc-le-suc h)
