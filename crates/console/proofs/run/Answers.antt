-- A byte more is read as the definition takes it, whether or not its answer was printed; at the end nothing of the piece is left. Assumes nothing.
use Rattle.std.proofs.Common.{◌+◌, sym, ◌∙◌, ap, drop}
use Rattle.commands.specs.Reading.{Held, taken_all}
use Rattle.commands.proofs.ReadingLaws.{taken_next, taken_end}
use Rattle.console.proofs.run.Goals as goal

pub loop-byte-preserved : goal.loop-byte-preserved
loop-byte-preserved g c =
    let l = c.loop-byte in
    let b = c.take_byte_lent in
    let piece = c.args.piece.now in
    l.invariant ∙ taken_next piece (record { reading = l.r; line = l.line }) c.loop-byte-test.true
    ∙ ap (taken_all (drop (l.byte-index + 1) piece)) (sym (λ k. record { reading = b.ensures.0 k; line = b.ensures.1 k }))

pub returns : goal.returns
returns g c =
    let l = c.loop-byte in
    let e = sym (l.invariant ∙ taken_end c.args.piece.now (record { reading = l.r; line = l.line }) c.loop-byte-test.false) in
    (ap (λ (h : Held). h.reading) e, ap (λ (h : Held). h.line) e)
