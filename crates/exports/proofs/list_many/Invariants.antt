-- The slice has the answers so far, and what is left of the words begins with the next list.
use mathlib.Core.Path.{◌≡◌}
use Prim.Native.Nat.{◌*◌, ◌≤◌}
use lib.ListN.{length, drop}
use Rattle.region.specs.List.{words_each}
use Rattle.exports.specs.Many.{found_word_at}
use Rattle.exports.proofs.FilledLaws.{Filled}
use Rattle.exports.proofs.list_many.Given as goal

abbrev pub invariant-loop-i : goal.invariant-loop-i
invariant-loop-i l =
    Filled (found_word_at l.words l.count) l.initial.answers l.answers (3 * l.i) × (l.at ≤ length l.words) × (drop l.at l.words ≡ drop (words_each * l.count * l.i) l.words)
