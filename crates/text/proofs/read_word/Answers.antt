-- Whether the word stands there is what the library's `starts_with` says of the bytes from the place on. Assumes nothing.
use mathlib.Core.Path.{sym, ◌∙◌}
use mathlib.Core.Bool.{true, false}
use Rattle.text.proofs.WordLaws.{word_starts}
use Rattle.text.proofs.read_word.Goals as goal

pub returns-then-not-starts_with : goal.returns-then-not-starts_with
returns-then-not-starts_with c =
    let there = c.in_ok-get.ensures.lookup.0 in
    word_starts _ _ _ _ false there.0 there.2 (sym c.if-not-starts_with.true ∙ c.starts_with.ensures.value)

pub returns : goal.returns
returns c =
    let there = c.in_ok-get.ensures.lookup.0 in
    word_starts _ _ _ _ true there.0 there.2 (sym c.if-not-starts_with.false ∙ c.starts_with.ensures.value)
