-- Each place holds what was made of the form there. Assumes nothing.
use Rattle.std.proofs.Common.{rules, ◌≡◌, ◌<◌, ℕ, ◌+◌, length, get_or, ◌∙◌, ap, zero-add}
use Rattle.laws.specs.Listed.{listed}
use Rattle.laws.proofs.ListedLaws.{listed_by}
use Rattle.lent.specs.declared.MpuRegion.{MpuRegion}
use Rattle.commands.specs.Given.{record_at}
use Rattle.commands.proofs.given.records_of.Goals as goal

pub returns : goal.returns
returns c =
    let xs = c.taken.result in
    let none : MpuRegion = record { base = 0; size = 0; attr = 0 } in
    let at : (j : ℕ) → j < length xs → get_or xs j none ≡ record_at c.args.line.now (0 + j) =
    (λ j h. let k = c.taken.ensures.each j none (rw c.taken.ensures.long at h) in rw (zero-add j) (search (rules, k))) in
    listed_by (record_at c.args.line.now) 0 xs none at ∙ ap (listed (record_at c.args.line.now) 0) c.taken.ensures.long
