-- The search stops at the first triple that has a number, and ends where none has one. Assumes nothing.
use mathlib.Core.Path.{◌≡◌}
use Prim.Native.Nat.{ℕ, ◌<◌}
use borrow.Author.Rules.{rules}
use Rattle.std.specs.Prelude.{MatchOption}
use Rattle.refusal.specs.Refusal.{number}
use Rattle.table.specs.Numbers.{slots}
use Rattle.switch.specs.Applied.{number_at}
use Rattle.switch.proofs.AppliedLaws.{bad_found}
use Rattle.switch.proofs.first_bad.Goals as goal

pub returns : goal.returns
returns c =
    let ws = c.args.ws.now in
    let found : MatchOption c.find_map.result ((k : ℕ) → k < 10 → number_at slots ws k ≡ 0) (λ e. (i : ℕ) × (i < 10) × (number_at slots ws i ≡ number e) × ((k : ℕ) → k < i → number_at slots ws k ≡ 0)) = search rules in
    bad_found slots ws c.find_map.result found
