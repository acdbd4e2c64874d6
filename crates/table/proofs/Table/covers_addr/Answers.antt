-- A partition above 3 is refused; else the search for a covering slot is the answer. Assumes nothing.
use mathlib.Core.Path.{◌≡◌, sym, ◌∙◌}
use Rattle.std.proofs.Common.{rules, Err}
use borrow.Author.Tests.{lt-ltb, le-ltb}
use Rattle.refusal.specs.declared.Refusal.TheVariants.{NoPartition}
use Rattle.table.specs.Entries.{covers_byte}
use Rattle.table.specs.Covers.{covers, cover_answer}
use Rattle.table.proofs.NumbersLaws.{parted_is, parted_beyond}
use Rattle.table.proofs.Table.covers_addr.Goals as goal

pub returns-in_err-p : goal.returns-in_err-p
unfolding cover_answer
returns-in_err-p c =
    let said : c.from_residual.result ≡ Err NoPartition = search rules in
    rw (said, le-ltb _ _ (parted_beyond _ (sym c.new.ensures ∙ c.in_err-p.ensures.ok_part)))

pub returns : goal.returns
unfolding cover_answer covers
returns c =
    let made = parted_is _ _ (sym c.new.ensures ∙ c.in_ok-p.ensures.ok_part) in
    rw (c.some_slot.ensures (covers_byte c.args.address) (λ e b k. search rules), lt-ltb _ _ made.0, made.1)
