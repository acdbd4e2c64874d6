-- After i turns the buffer has the text of the first i writes in it, and each has taken no more than a line. Assumes nothing.
use mathlib.Core.Path.{◌≡◌, ◌∙◌}
use native.Mathlib.Omega.{arith}
use borrow.Author.Rules.{rules}
use lib.ListN.{take}
use lib.Seq.{take_all}
use Rattle.journal.proofs.JournalLaws.{log_begun, log_next}
use Rattle.journal.proofs.put_lines.Goals as goal

pub loop-i-init : goal.loop-i-init
loop-i-init c =
    let a = c.args in
    let b = log_begun a.out.now a.at a.log in
    record { place = b.0; room = omega arith; lines = b.1 }

pub loop-i-preserved : goal.loop-i-preserved
loop-i-preserved c =
    let w = c.put_write-p.ensures in
    let a = c.args in
    let v = c.loop-i.invariant in
    let n = log_next a.out.now a.at a.log c.loop-i.i (record { rnr = 0; rbar = 0; rasr = 0 }) (search rules) (omega (arith, v.place)) in
    record { place = w.0 ∙ rw v.place n.0; room = omega (arith, w.1, v.room); lines = w.2 ∙ rw (v.place, v.lines) n.1 }

pub returns : goal.returns
returns c =
    let log = c.args.log in
    let all : take c.loop-i.i log ≡ log = take_all c.loop-i.i log (search rules) in
    (c.loop-i.invariant.place ∙ rw all, c.loop-i.invariant.lines ∙ rw all)
