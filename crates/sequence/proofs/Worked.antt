-- The starred requests of the paper get what is due; the example's ten writes are those of the paper; a partition with nothing in it gets eight empty slots; a refusal gets zeros: computed.
-- Assumes nothing.
use mathlib.Core.Path.{◌≡◌, refl}
use mathlib.Core.Bool.{true}
use lib.Dec.{eqb}
use lib.ListN.{get_or, replicate}
use Rattle.laws.specs.Cases.{holds}
use Rattle.laws.specs.Search.{first, lowest}
use Rattle.laws.specs.Power.{log2, is_pow2}
use Rattle.region.specs.Sound.{soundness, region_no}
use Rattle.region.specs.Overlap.{overlaps}
use Rattle.fields.specs.Fields.{size_field, rasr, sizing, rasr_answer}
use Rattle.table.specs.Numbers.{slots}
use Rattle.table.specs.Table.{slot_entry}
use Rattle.table.specs.Lawful.{clash_at, lawful_part, lawful}
use Rattle.table.specs.Builder.{overlaps_any, first_free, full, refusals, builder_no, try_add}
use Rattle.sequence.specs.Sequence.{triple, slot_write, write_at, writes, sequence_no, sequence}
use Rattle.sequence.specs.Worked.{example, ten_writes}
use Rattle.sequence.specs.Starred.{starred}

-- one table, one claim
all_starred : holds (λ c. eqb c.got c.due) starred ≡ true
unfolding try_add builder_no refusals full first_free overlaps_any lawful lawful_part clash_at slot_entry soundness region_no overlaps rasr_answer rasr sizing size_field is_pow2 log2 lowest first
all_starred = refl

worked : sequence slots example 1 ≡ record { no = 0; writes = ten_writes }
unfolding sequence sequence_no writes write_at slot_write rasr size_field try_add builder_no refusals full first_free overlaps_any lawful lawful_part clash_at slot_entry soundness region_no overlaps is_pow2 log2 lowest first
worked = refl

empty_slot : get_or (sequence slots example 0).writes 1 (triple 9 9 9) ≡ triple 0 0 0
unfolding sequence sequence_no writes write_at slot_write try_add builder_no refusals full first_free overlaps_any lawful lawful_part clash_at slot_entry soundness region_no overlaps is_pow2 log2 lowest first
empty_slot = refl

refused : sequence slots example 4 ≡ record { no = 1; writes = replicate 10 (triple 0 0 0) }
unfolding sequence sequence_no
refused = refl
