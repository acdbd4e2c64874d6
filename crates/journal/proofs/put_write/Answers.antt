-- No line is longer than 60 bytes, since each of its numbers fits a u32: it is put, and never is there no room. Assumes nothing.
use mathlib.Core.Path.{◌≡◌, sym, ◌∙◌}
use Prim.Native.Nat.{◌+◌}
use lib.ListN.{length}
use native.Mathlib.Omega.{arith}
use borrow.Author.Rules.{rules}
use Rattle.text.specs.Line.{numbered}
use Rattle.text.proofs.PutLaws.{put_fits}
use Rattle.text.proofs.LogLaws.{line_length}
use Rattle.journal.specs.Journal.{triple_of, write_text}
use Rattle.journal.proofs.put_write.Goals as goal

pub returns : goal.returns
returns c =
    let a = c.args in
    let short = line_length (numbered a.n (triple_of a.w)) (record { n = search rules; rnr = search rules; rbar = search rules; rasr = search rules }) in
    let fits = put_fits a.out.now a.at (write_text a.n a.w) (omega (arith, short)) in
    let there : c.unwrap_or.result ≡ a.at + length (write_text a.n a.w) = c.unwrap_or.ensures ∙ rw (c.put_line.ensures.0, ← fits.0) in
    (there, omega (arith, there, short), c.put_line.ensures.1 ∙ sym fits.1)
