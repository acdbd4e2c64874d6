-- A list of region records, lent as records and not as flat words. It is judged by the definition that judges the words; attr is never read.
--   range_at ys i  == record i of ys, without its attr
--   judged_of ys n == what is found of the first n of ys
--   words ys       == the same list as flat words
use Rattle.std.specs.Prelude.{List, [], ◌∷◌, ℕ, length, get_or}
use Rattle.region.specs.declared.Range.{Range}
use Rattle.region.specs.List.{Judged, judged}
use Rattle.lent.specs.declared.MpuRegion.{MpuRegion}

abbrev pub no_record : MpuRegion
no_record = record { base = 0; size = 0; attr = 0 }

abbrev pub range_of : MpuRegion → Range
range_of r = record { base = r.base; size = r.size }

abbrev pub range_at : List MpuRegion → ℕ → Range
range_at ys i = range_of (get_or ys i no_record)

abbrev pub judged_of : List MpuRegion → ℕ → Judged
judged_of ys n = judged (range_at ys) (length ys) n

abbrev pub words : List MpuRegion → List ℕ
words [] = []
words (r ∷ ys) = r.base ∷ r.size ∷ r.attr ∷ words ys
