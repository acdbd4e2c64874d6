-- Each place holds what was made of the form there. Assumes nothing.
use Rattle.std.proofs.Common.{rules, ◌≡◌, ◌<◌, ℕ, ◌+◌, length, get_or, ◌∙◌, ap, zero-add}
use Rattle.laws.specs.Listed.{listed}
use Rattle.laws.proofs.ListedLaws.{listed_by}
use Rattle.sequence.specs.Sequence.{triple}
use Rattle.commands.specs.Given.{triple_at}
use Rattle.commands.proofs.given.triples_of.Goals as goal

pub returns : goal.returns
returns c =
    let xs = c.taken.result in
    let at : (j : ℕ) → j < length xs → get_or xs j (triple 0 0 0) ≡ triple_at c.args.line.now (0 + j) =
    (λ j h. let k = c.taken.ensures.each j (triple 0 0 0) (rw c.taken.ensures.long at h) in rw (zero-add j) (search (rules, k))) in
    listed_by (triple_at c.args.line.now) 0 xs (triple 0 0 0) at ∙ ap (listed (triple_at c.args.line.now) 0) c.taken.ensures.long
