-- The four answers of a list's judgement, by what a search for the lowest that has come so far finds: too few records, a lowest unsound one, a first pair,
-- nothing. Assumes nothing.
--   bad, meets == record i is unsound; records i and j overlap
use mathlib.Core.Path.{◌≡◌}
use mathlib.Core.Bool.{Bool}
use mathlib.Core.List.{List}
use Prim.Native.Nat.{ℕ, ◌<◌, ◌≤◌}
use native.Mathlib.Nat.{le_refl}
use borrow.Author.Tests.{lt-ltb, le-ltb}
use lib.ListN.{length}
use Rattle.laws.specs.Search.{lowest, pair_low, pair_high}
use Rattle.region.specs.List.{Valid, Short, Unsound, Pair, number_at, unsound, meeting, judged, pair_of}
use Rattle.lent.specs.declared.MpuRegion.{MpuRegion}
use Rattle.lent.specs.Records.{range_at, judged_of}

module _ (ys : List MpuRegion) (n : ℕ) where
  abbrev pub bad : ℕ → Bool
  bad = unsound (range_at ys)

  abbrev pub meets : ℕ → ℕ → Bool
  meets = meeting (range_at ys)

  pub too_few : length ys < n → Short ≡ judged_of ys n
  unfolding judged
  too_few h = rw (lt-ltb _ _ h)

  module _ (fits : n ≤ length ys) where
    pub unsound_found : {i : ℕ} → i < n → lowest bad 0 n ≡ i → Unsound i (number_at (range_at ys) i) ≡ judged_of ys n
    unfolding judged
    unsound_found h e = rw (le-ltb _ _ fits, e, lt-ltb _ _ h)

    module _ (sound : lowest bad 0 n ≡ n) where
      pub pair_found : {i j : ℕ} → i < n → (pair_low meets n ≡ i) × (pair_high meets n ≡ j) → Pair i j ≡ judged_of ys n
      unfolding judged pair_of
      pair_found h e = rw (le-ltb _ _ fits, sound, le-ltb n n (le_refl n), e.1, e.0, lt-ltb _ _ h)

      pub none_found : pair_low meets n ≡ n → Valid ≡ judged_of ys n
      unfolding judged pair_of
      none_found e = rw (le-ltb _ _ fits, sound, e, le-ltb n n (le_refl n))
