-- Each turn of the fold takes the builder's answer to its request, so all of them give the table after all the whole requests. Assumes nothing.
use mathlib.Core.Path.{◌≡◌, refl, ◌∙◌, ap}
use Prim.Native.Nat.{ℕ, ◌+◌, ◌-◌, ◌/◌}
use native.Mathlib.Omega.{arith}
use lib.ListN.{length}
use Rattle.std.proofs.Common.{rules}
use Rattle.std.proofs.lemmas.Iterator.{YieldsList-from_range}
use Rattle.std.proofs.lemmas.Iterator.Consumers.{fold_from_yields_List}
use Rattle.std.specs.List.{fold, range_with_len}
use Rattle.table.specs.declared.Table.{Table}
use Rattle.table.specs.Numbers.{slots}
use Rattle.table.specs.Builder.{try_add}
use Rattle.exports.specs.Words.{part_at, request_at}
use Rattle.exports.specs.Many.{table_after}
use Rattle.exports.proofs.AfterLaws.{table_none, table_fold}
use Rattle.exports.proofs.table_of.Goals as goal

pub returns : goal.returns
returns c =
    let ws = c.args.requests.now in
    let n = length ws / 4 in
    let turn = λ (t : Table) (i : ℕ). (try_add slots t (part_at ws i) (request_at ws i)).table in
    let whole : n - 0 ≡ n = omega arith in
    let all : 0 + n ≡ n = omega arith in
    fold_from_yields_List _ turn c.new.result c.fold.result c.fold.ensures.ran (YieldsList-from_range 0 n n refl whole) (λ t i u q k. search rules)
    ∙ ap (λ t. fold turn t (range_with_len 0 n)) (c.new.ensures ∙ table_none ws)
    ∙ table_fold ws 0 n
    ∙ ap (table_after ws) all
