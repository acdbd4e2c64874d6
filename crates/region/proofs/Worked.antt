-- The worked requests hold, the common regions are sound, and the ranges and lists are answered as due: computed. Assumes nothing.
use mathlib.Core.Path.{◌≡◌, refl}
use mathlib.Core.Bool.{true}
use mathlib.Core.List.{List, ◌∷◌, ◌++◌, map}
use Prim.Native.Nat.{ℕ}
use lib.Dec.{eqb}
use Rattle.laws.specs.Cases.{holds}
use Rattle.laws.specs.Search.{first, lowest}
use Rattle.laws.specs.Power.{log2, is_pow2}
use Rattle.region.specs.Sound.{soundness, region_no}
use Rattle.region.specs.Overlap.{overlaps, overlap_answer}
use Rattle.region.specs.List.{record_at, records, pair_of, judged, number_of, places_of}
use Rattle.region.specs.Worked.{cases, common, Two, ranges, Asked, lists}

worked : holds (λ c. eqb (region_no c.base c.size) c.due) (cases ++ common) ≡ true
unfolding region_no soundness is_pow2 log2 lowest first
worked = refl

ranges_worked : map (λ (c : Two). overlap_answer c.a c.b) ranges ≡ map (λ (c : Two). record { no = c.no; yes = c.yes }) ranges
unfolding overlap_answer overlaps
ranges_worked = refl

-- a list's number, then its places
told : Asked → List ℕ
told c = let r = judged (record_at c.words) (records c.words) c.count in number_of r ∷ places_of r

lists_worked : map told lists ≡ map (λ (c : Asked). c.no ∷ c.places) lists
unfolding told judged pair_of region_no soundness overlaps is_pow2 log2 lowest first
lists_worked = refl
