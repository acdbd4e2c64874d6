-- The slice has the words so far.
use Rattle.exports.specs.Words.{switch_word}
use Rattle.exports.proofs.FilledLaws.{Filled}
use Rattle.exports.proofs.put_switch.Given as goal

abbrev pub invariant-loop-k : goal.invariant-loop-k
invariant-loop-k l = Filled (switch_word l.s) l.initial.out l.out l.k
