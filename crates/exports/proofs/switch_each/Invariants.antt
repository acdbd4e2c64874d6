-- The slice has the numbers so far, and the switch is the one after those switches.
use mathlib.Core.Path.{◌≡◌}
use Rattle.exports.specs.Many.{switch_after, switched_at}
use Rattle.exports.proofs.FilledLaws.{Filled}
use Rattle.exports.proofs.switch_each.Given as goal

abbrev pub invariant-loop-i : goal.invariant-loop-i
invariant-loop-i l = Filled (λ k. (switched_at l.t l.fn.m l.parts k).no) l.initial.numbers l.numbers l.i × (l.s ≡ switch_after l.t l.fn.m l.parts l.i)
