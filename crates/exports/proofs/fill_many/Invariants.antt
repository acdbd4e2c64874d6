-- The slice has the numbers so far, and the table is the one after those requests.
use mathlib.Core.Path.{◌≡◌}
use Rattle.exports.specs.Many.{table_after, added_at}
use Rattle.exports.proofs.FilledLaws.{Filled}
use Rattle.exports.proofs.fill_many.Given as goal

abbrev pub invariant-loop-i : goal.invariant-loop-i
invariant-loop-i l = Filled (λ k. (added_at l.requests k).no) l.initial.numbers l.numbers l.i × (l.t ≡ table_after l.requests l.i)
