-- RASR of a sound entry is there, and it is the value that the paper states. Assumes nothing.
use mathlib.Core.Path.{◌≡◌}
use borrow.Author.Rules.{rules}
use borrow.Author.Tests.{not-false}
use Rattle.fields.specs.Fields.{rasr}
use Rattle.sequence.specs.Sequence.{attributes, slot_write}
use Rattle.sequence.proofs.SoundWrites.{rasr_given}
use Rattle.sequence.proofs.slot_write.Goals as goal

pub unwrap-requires : goal.unwrap-requires
unwrap-requires c =
    let there = rasr_given c.rasr_for.result c.args.e c.if-not-e.false c.requires c.rasr_for.ensures in search (rules, there)

pub returns : goal.returns
unfolding slot_write
returns c =
    let there = rasr_given c.rasr_for.result c.args.e c.if-not-e.false c.requires c.rasr_for.ensures in
    let value : c.unwrap.result ≡ rasr (attributes c.args.e) = cc in
    rw (not-false _ c.if-not-e.false, c.number-rnr.ensures, value)
