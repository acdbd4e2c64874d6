-- Each place of the array is what the function gave for it, and so the write of that place. Assumes nothing.
use mathlib.Core.Path.{◌≡◌, sym, ◌∙◌, ap}
use Prim.Native.Nat.{ℕ, ◌+◌, ◌<◌}
use native.Mathlib.Nat.{zero-add}
use borrow.Author.Rules.{rules}
use lib.ListN.{length, get_or}
use Rattle.laws.specs.Listed.{listed}
use Rattle.laws.proofs.ListedLaws.{listed_by}
use Rattle.table.specs.Numbers.{slots}
use Rattle.sequence.specs.Sequence.{triple, write_at, writes}
use Rattle.sequence.proofs.all_writes.Goals as goal

pub returns : goal.returns
unfolding writes
returns c =
    let f : ℕ → _ = write_at slots c.args.t.now c.args.p.0 in
    let made = c.from_fn.ensures.items in
    let at : (j : ℕ) → j < length c.from_fn.result → get_or c.from_fn.result j (triple 0 0 0) ≡ f (0 + j) =
    (λ j h. let k = made.at j (triple 0 0 0) (rw (sym made.long) h) in rw (zero-add j) (search (rules, k))) in
    listed_by f 0 c.from_fn.result (triple 0 0 0) at ∙ ap (listed f 0) made.long
