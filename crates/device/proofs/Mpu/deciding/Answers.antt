-- The walk from the back goes over the reversed list of the slots, and its closure asks what `matches` says. Assumes nothing.
use mathlib.Core.Path.{◌∙◌}
use borrow.Author.Rules.{rules}
use Rattle.std.proofs.Common.{tests}
use Rattle.std.proofs.lemmas.Iterator.Adapters.{YieldsList-from_rev_slice}
use Rattle.std.proofs.lemmas.Iterator.Search.{find_from_yields_List}
use Rattle.device.specs.Decision.{matches}
use Rattle.device.proofs.Mpu.deciding.Goals as goal

pub returns : goal.returns
returns c =
    c.copied.ensures ∙ find_from_yields_List (matches c.args.address) _ _ _ c.find.ensures.ran (YieldsList-from_rev_slice c.args.self.now.slots cc) (λ x b q k. search (rules, tests))
