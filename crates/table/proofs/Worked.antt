-- The worked histories get the numbers due; the hand-made tables are unlawful, or lawful, as told, and the builder answers 9, or accepts: computed.
-- Assumes nothing.
use mathlib.Core.Path.{◌≡◌, refl}
use mathlib.Core.Bool.{true, false}
use mathlib.Core.List.{[], ◌∷◌, map}
use lib.ListN.{get_or}
use Rattle.laws.specs.Search.{first, lowest}
use Rattle.laws.specs.Power.{log2, is_pow2}
use Rattle.region.specs.Sound.{soundness, region_no}
use Rattle.region.specs.Overlap.{overlaps}
use Rattle.table.specs.declared.Request.{Request}
use Rattle.table.specs.Numbers.{slots}
use Rattle.table.specs.Table.{empty_table, slot_entry}
use Rattle.table.specs.Lawful.{clash_at, lawful_part, lawful}
use Rattle.table.specs.Covers.{covers}
use Rattle.table.specs.Builder.{overlaps_any, first_free, full, refusals, builder_no, try_add}
use Rattle.table.specs.Worked.{run, dues, after, filled, cases, unsound_table, clashing_table, rubbish_table, top_table, holed_table}

worked : map (run (empty_table slots)) cases ≡ map dues cases
unfolding try_add builder_no refusals full first_free overlaps_any lawful lawful_part clash_at slot_entry soundness region_no overlaps is_pow2 log2 lowest first
worked = refl

-- ---- tables by hand: unlawful in a partition that is not asked for, and lawful though what is not enabled is rubbish
abbrev request : Request
request = record { base = 1024; size = 1024; writable = true }

exhibits : (lawful slots unsound_table ∷ lawful_part slots unsound_table 1 ∷ lawful slots clashing_table ∷ lawful_part slots clashing_table 1 ∷ lawful slots rubbish_table ∷ []) ≡ (false ∷ true ∷ false ∷ true ∷ true ∷ [])
unfolding lawful lawful_part clash_at slot_entry soundness region_no overlaps is_pow2 log2 lowest first
exhibits = refl

asked_of_them : map (λ t. (try_add slots t 1 request).no) (unsound_table ∷ clashing_table ∷ rubbish_table ∷ []) ≡ (9 ∷ 9 ∷ 0 ∷ [])
unfolding try_add builder_no refusals full first_free overlaps_any lawful lawful_part clash_at slot_entry soundness region_no overlaps is_pow2 log2 lowest first
asked_of_them = refl

-- ---- a table that is full, and one that is not, in one partition each
fullness : map (λ p. full slots (after (empty_table slots) filled) p) (0 ∷ 1 ∷ []) ≡ (false ∷ true ∷ [])
unfolding try_add builder_no refusals full first_free overlaps_any lawful lawful_part clash_at slot_entry soundness region_no overlaps is_pow2 log2 lowest first
fullness = refl

-- ---- covering does not wrap: 0xFFFFFFF0 and 64 bytes cover up to the top, and not byte 0; a size of 0 covers nothing
top : map (covers slots top_table 0) (0xFFFF_FFEF ∷ 0xFFFF_FFF0 ∷ 0xFFFF_FFFF ∷ 0 ∷ 47 ∷ []) ≡ (false ∷ true ∷ true ∷ false ∷ false ∷ [])
unfolding covers slot_entry lowest first
top = refl

-- what is not enabled covers nothing
rubbish : map (covers slots rubbish_table 0) (7 ∷ 30 ∷ 54 ∷ []) ≡ (false ∷ false ∷ false ∷ [])
unfolding covers slot_entry lowest first
rubbish = refl

-- ---- the lowest slot that isn't enabled is taken, also between two that are: place 17, and no other
holed : map (λ i. get_or (try_add slots holed_table 2 request).table.base i 9) (16 ∷ 17 ∷ 18 ∷ 19 ∷ []) ≡ (0 ∷ 1024 ∷ 64 ∷ 0 ∷ [])
unfolding try_add builder_no refusals full first_free overlaps_any lawful lawful_part clash_at slot_entry soundness region_no overlaps is_pow2 log2 lowest first
holed = refl
