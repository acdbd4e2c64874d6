-- All partitions are lawful exactly if no place of the search is an unlawful one. Assumes nothing.
use mathlib.Core.Path.{refl, ◌∙◌}
use Rattle.std.proofs.Common.{rules, tests}
use Rattle.std.proofs.lemmas.Iterator.{YieldsList-from_range}
use Rattle.std.proofs.lemmas.Iterator.Search.{all_from_yields_List}
use Rattle.laws.proofs.RangeLaws.{all_range}
use Rattle.table.specs.Numbers.{parts, slots}
use Rattle.table.specs.Lawful.{lawful_part, lawful}
use Rattle.table.proofs.Table.lawful.Goals as goal

pub returns : goal.returns
unfolding lawful
returns c =
    let f = lawful_part slots c.args.self.now in
    all_from_yields_List f _ _ c.all.result c.all.ensures.ran (YieldsList-from_range 0 parts parts refl refl) (λ x b q k. search (rules, tests)) ∙ all_range f 0 parts
