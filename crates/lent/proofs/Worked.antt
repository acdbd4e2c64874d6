-- Records worked by hand, base before size: computed. Assumes nothing.
use mathlib.Core.Path.{◌≡◌, refl}
use mathlib.Core.List.{[], ◌∷◌, map}
use Prim.Native.Nat.{ℕ}
use Rattle.laws.specs.Search.{first, lowest}
use Rattle.laws.specs.Power.{log2, is_pow2}
use Rattle.region.specs.Sound.{soundness, region_no}
use Rattle.region.specs.Overlap.{overlaps}
use Rattle.region.specs.List.{Valid, Short, Unsound, Pair, pair_of, judged}
use Rattle.lent.specs.declared.MpuRegion.{MpuRegion}
use Rattle.lent.specs.Records.{judged_of}

abbrev region : ℕ → ℕ → MpuRegion
region b s = record { base = b; size = s; attr = 9 }

-- valid; a base of 32 is no multiple of 64; 64 bytes at 0 overlap 32 at 32; one record where two are asked for
worked : map (λ ys. judged_of ys 2) ((region 64 32 ∷ region 0 64 ∷ []) ∷ (region 0 32 ∷ region 32 64 ∷ []) ∷ (region 0 64 ∷ region 32 32 ∷ []) ∷ (region 0 32 ∷ []) ∷ []) ≡ (Valid ∷ Unsound 1 4 ∷ Pair 0 1 ∷ Short ∷ [])
unfolding judged pair_of soundness region_no overlaps is_pow2 log2 lowest first
worked = refl
