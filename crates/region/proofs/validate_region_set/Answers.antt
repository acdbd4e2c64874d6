-- The words taken three at a time are judged as the flat words are (`whole_list`), and from that answer follow its number and its places (`in_numbers`). Assumes nothing.
use mathlib.Core.Path.{◌∙◌}
use Rattle.region.specs.List.{record_at, records}
use Rattle.region.proofs.ListLaws.{in_numbers}
use Rattle.region.proofs.RecordLaws.{whole_list}
use Rattle.region.proofs.validate_region_set.Goals as goal

pub returns : goal.returns
returns c =
    let ws = c.args.words.now in
    let q = in_numbers (record_at ws) (records ws) c.args.count (c.validate_slice.ensures ∙ whole_list ws c.as_chunks.result.0.now c.args.count c.as_chunks.ensures.front c.as_chunks.ensures.front_len) in
    record { answer = q.0; number = q.1.0; places = q.1.1 }
