-- Demand 3 is not about nothing: the example's table is one that the builder made, with a writable and a read-only entry, and the switch to it answers at
-- every cut, and after, as the paper says: computed, step by step, from an MPU that is off and from one that another partition is live in. Assumes nothing.
use mathlib.Core.Path.{◌≡◌, refl}
use mathlib.Core.List.{List, [], ◌∷◌, ◌++◌}
use Prim.Native.Nat.{ℕ, zero, suc}
use lib.ListN.{replicate}
use Rattle.std.specs.Prelude.{Result, Ok}
use Rattle.laws.specs.Search.{first, lowest, highest}
use Rattle.laws.specs.Power.{log2, is_pow2}
use Rattle.region.specs.Sound.{soundness, region_no}
use Rattle.region.specs.Overlap.{overlaps}
use Rattle.fields.specs.Fields.{size_field, rasr}
use Rattle.refusal.specs.declared.Refusal.{Refusal}
use Rattle.table.specs.Numbers.{slots}
use Rattle.table.specs.Table.{slot_entry}
use Rattle.table.specs.Lawful.{clash_at, lawful_part, lawful}
use Rattle.table.specs.Builder.{overlaps_any, first_free, full, refusals, builder_no, try_add}
use Rattle.table.specs.Built.{Built, empty, add}
use Rattle.device.specs.declared.Answer.{Answer}
use Rattle.device.specs.declared.Answer.TheVariants.{Private, Unchecked, Permitted, Denied}
use Rattle.device.specs.Registers.{allowed}
use Rattle.device.specs.RegisterWrite.{triple_refusals, triple_no, write_no, stored, write_register}
use Rattle.device.specs.Permission.{row_answer}
use Rattle.device.specs.Decision.{bad, matches, judged, decision}
use Rattle.sequence.specs.Sequence.{slot_write, write_at, writes}
use Rattle.sequence.specs.Worked.{data1, code1, example}
use Rattle.switch.specs.Switch.{start_no, started, stepped, steps, whole}
use Rattle.isolation.specs.Maps.{asked}
use Rattle.isolation.specs.Worked.{zeros, at_cuts, ours, afterwards, data2, code2, more2, two, live, asks, behind}

-- the answers to `asks` at k cuts under way
abbrev under_way : ℕ → List (Result Answer Refusal)
under_way zero = []
under_way (suc k) = Ok Unchecked ∷ Ok Unchecked ∷ Ok Unchecked ∷ Ok Unchecked ∷ Ok Private ∷ under_way k

made_by_the_builder : Built slots example
made_by_the_builder = add (add empty 1 data1) 1 code1

at_every_cut : asked slots zeros example 1 (at_cuts 10 ours) ≡ replicate 10 (Ok Unchecked) ++ (Ok Permitted ∷ [])
unfolding started start_no stepped write_register write_no triple_no triple_refusals stored allowed decision judged bad matches row_answer writes write_at slot_write rasr size_field try_add builder_no refusals full first_free overlaps_any lawful lawful_part clash_at slot_entry soundness region_no overlaps is_pow2 log2 lowest highest first
at_every_cut = refl

three_bytes : asked slots zeros example 1 afterwards ≡ Ok Permitted ∷ Ok Denied ∷ Ok Denied ∷ Ok Permitted ∷ Ok Denied ∷ []
unfolding started start_no stepped write_register write_no triple_no triple_refusals stored allowed decision judged bad matches row_answer writes write_at slot_write rasr size_field try_add builder_no refusals full first_free overlaps_any lawful lawful_part clash_at slot_entry soundness region_no overlaps is_pow2 log2 lowest highest first
three_bytes = refl

-- ---- partition 2 is live: its own map answers before the first write, and of it nothing is left after the last
two_made_by_the_builder : Built slots two
two_made_by_the_builder = add (add (add made_by_the_builder 2 data2) 2 code2) 2 more2

switched_there : (whole slots zeros two 2).switch.mpu ≡ live 1
unfolding whole steps started start_no stepped write_register write_no triple_no triple_refusals stored allowed writes write_at slot_write rasr size_field try_add builder_no refusals full first_free overlaps_any lawful lawful_part clash_at slot_entry soundness region_no overlaps is_pow2 log2 lowest highest first
switched_there = refl

from_a_live_map : asked slots (live 1) two 1 (at_cuts 10 asks) ≡ (Ok Permitted ∷ Ok Permitted ∷ Ok Denied ∷ Ok Denied ∷ Ok Private ∷ []) ++ under_way 9 ++ (Ok Denied ∷ Ok Denied ∷ Ok Permitted ∷ Ok Permitted ∷ Ok Private ∷ [])
unfolding started start_no stepped write_register write_no triple_no triple_refusals stored allowed decision judged bad matches row_answer writes write_at slot_write rasr size_field try_add builder_no refusals full first_free overlaps_any lawful lawful_part clash_at slot_entry soundness region_no overlaps is_pow2 log2 lowest highest first
from_a_live_map = refl

-- under control 5 privileged code has the background map before, and hasn't after
from_the_background : asked slots (live 5) two 1 (at_cuts 10 behind) ≡ (Ok Permitted ∷ []) ++ replicate 9 (Ok Unchecked) ++ (Ok Denied ∷ [])
unfolding started start_no stepped write_register write_no triple_no triple_refusals stored allowed decision judged bad matches row_answer writes write_at slot_write rasr size_field try_add builder_no refusals full first_free overlaps_any lawful lawful_part clash_at slot_entry soundness region_no overlaps is_pow2 log2 lowest highest first
from_the_background = refl
