-- A switch from one map to another, and what it has to answer: three maps, each falling into the next at a write. A map is an answer to each
-- access.
--   switch f ms l             == the writes of a switch: f first, ms between, l last
--   cut old dark new n es     == old before the first write; then under way, with n writes between the first and the last
--   under_way dark new n es   == dark, until those n and then the last are made
--   ended new es              == new, whatever write events still come
--   in_force old dark new n k == the same by counting: the map that answers where k write events stand before. None: old; 1 to n + 1: dark; else new
--   OneOf old dark new m      == m is one of the three maps, the whole of it
use Rattle.std.specs.Prelude.{◌≡◌, List, [], ◌∷◌, ◌++◌, map, ℕ, zero, suc, ◌+◌, ltb, eqb}
use Rattle.laws.specs.Pick.{pick}
use Rattle.order.specs.Play.{Event, write, ask, accesses}

abbrev pub switch : {W : Type 0} → W → List W → W → List W
switch f ms l = f ∷ (ms ++ (l ∷ []))

abbrev pub ended : {A R : Type 0} → (A → R) → List (Event A) → List R
ended new es = map new (accesses es)

module _ {A R : Type 0} (dark new : A → R) where
  abbrev pub under_way : ℕ → List (Event A) → List R
  under_way n [] = []
  under_way n (ask a ∷ es) = dark a ∷ under_way n es
  under_way zero (write ∷ es) = ended new es
  under_way (suc n) (write ∷ es) = under_way n es

module _ {A R : Type 0} (old dark new : A → R) where
  abbrev pub cut : ℕ → List (Event A) → List R
  cut n [] = []
  cut n (ask a ∷ es) = old a ∷ cut n es
  cut n (write ∷ es) = under_way dark new n es

  abbrev pub in_force : ℕ → ℕ → A → R
  in_force n k = pick (eqb k 0) old (pick (ltb k (n + 2)) dark new)

  pub data OneOf (m : A → R) : Type 0 where
    the_old : m ≡ old → OneOf m
    the_dark : m ≡ dark → OneOf m
    the_new : m ≡ new → OneOf m
