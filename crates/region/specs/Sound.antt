-- A sound region: the four conditions of the paper.
--   min_region_size     == the smallest size
--   highest_end         == the highest base + size
--   soundness base size == what refuses one region, in the order of the paper: 2, 3, 4, 5
--   region_no base size == the number of the first that holds; 0 for a sound region
--   Sound base size     == the four conditions of the paper, as facts
use Rattle.std.specs.Prelude.{◌≡◌, not, List, [], ◌∷◌, ℕ, ◌+◌, ◌%◌, ◌≤◌, ltb, eqb}
use Rattle.laws.specs.Power.{is_pow2, Pow2}
use Rattle.laws.specs.Refuse.{Refusal, ◌⇒◌, refuse}

abbrev pub min_region_size : ℕ
min_region_size = 32

abbrev pub highest_end : ℕ
highest_end = 4294967295

unfoldable pub soundness : ℕ → ℕ → List Refusal
soundness base size =
    (not (is_pow2 size) ⇒ 2)
    ∷ (ltb size min_region_size ⇒ 3)
    ∷ (not (eqb (base % size) 0) ⇒ 4)
    ∷ (ltb highest_end (base + size) ⇒ 5)
    ∷ []

unfoldable pub region_no : ℕ → ℕ → ℕ
unfolding soundness
region_no base size = refuse (soundness base size)

pub record Sound (base size : ℕ) : Type 0 where
  pub power : Pow2 size
  pub least : 32 ≤ size
  pub multiple : base % size ≡ 0
  pub fits : base + size ≤ 4294967295
