-- One more list is answered in three words, and the next list begins where it ended. Assumes nothing.
use mathlib.Core.Path.{◌≡◌, ◌∙◌, ap}
use mathlib.Core.List.{List}
use Prim.Native.Nat.{ℕ, ◌+◌, ◌*◌, ◌-◌}
use native.Mathlib.Omega.{arith}
use lib.ListN.{take, drop, get_or}
use Rattle.laws.specs.Listed.{listed}
use Rattle.region.specs.List.{Judged, words_each, record_at, records, judged}
use Rattle.exports.specs.Words.{list_at, found_word}
use Rattle.exports.specs.Many.{found_at}
use Rattle.exports.proofs.FilledLaws.{filled_three}
use Rattle.exports.proofs.ListAtLaws.{part_is, rest_is, list_next, third}
use Rattle.exports.proofs.list_many.Goals as goal

pub loop-i-preserved : goal.loop-i-preserved
loop-i-preserved c =
    let a = c.args in
    let ws = a.words.now in
    let each = words_each * a.count in
    let at = c.loop-i.at in
    let i = c.loop-i.i in
    let there : take (c.end_of-end.result - at) (drop at ws) ≡ list_at ws a.count i =
    ap (λ (k : ℕ). take (k - at) (drop at ws)) c.end_of-end.ensures.2 ∙ part_is ws at each c.loop-i.invariant.1 ∙ ap (take each) c.loop-i.invariant.2 in
    let found = c.validate_region_set.ensures.answer ∙ ap (λ (x : List ℕ). judged (record_at x) (records x) a.count) there in
    let said = c.told.ensures ∙ ap (λ (j : Judged). listed (found_word j) 0 3) found in
    let word = λ (m : ℕ). ap (λ (l : List ℕ). get_or l m 0) said in
    let g : ℕ → ℕ → ℕ = λ k m. found_word (found_at ws a.count k) m in (
      filled_three c.loop-i.invariant.0 (omega arith)
          (word 0 ∙ third g i 0 (3 * i) (omega arith) (omega arith))
          (word 1 ∙ third g i 1 (3 * i + 1) (omega arith) (omega arith))
          (word 2 ∙ third g i 2 (3 * i + 2) (omega arith) (omega arith)),
      c.end_of-end.ensures.1,
      ap (λ (k : ℕ). drop k ws) c.end_of-end.ensures.2 ∙ rest_is ws at each c.loop-i.invariant.1 ∙ ap (drop each) c.loop-i.invariant.2 ∙ list_next ws each i,
    )
