-- The two tests of the definition, in its order: an unsound entry, and one that clashes with a later one. Assumes nothing.
use mathlib.Core.Path.{◌≡◌, refl, sym, ◌∙◌}
use Rattle.std.proofs.Common.{rules, tests}
use Rattle.std.proofs.lemmas.Iterator.{YieldsList-from_range}
use Rattle.std.proofs.lemmas.Iterator.Search.{any_from_yields_List}
use Rattle.laws.specs.Search.{some}
use Rattle.laws.proofs.RangeLaws.{any_range}
use Rattle.table.specs.Numbers.{slots}
use Rattle.table.specs.Entries.{is_unsound, slot_asked}
use Rattle.table.specs.Lawful.{clash_at, lawful_part}
use Rattle.table.proofs.Table.lawful_part.Goals as goal
use Rattle.table.proofs.Table.lawful_part.Goals.{After-some_slot}

-- whether an unsound entry was found
told : (c : After-some_slot) → some (slot_asked slots c.args.self.now c.args.p.0 is_unsound) 0 slots ≡ c.some_slot.result
told c = sym (c.some_slot.ensures is_unsound (λ e b k. search rules))

pub returns-then-not-some_slot : goal.returns-then-not-some_slot
unfolding lawful_part
returns-then-not-some_slot c =
    let f = clash_at slots c.args.self.now c.args.p.0 in
    let met : c.any.result ≡ some f 0 slots = any_from_yields_List f _ _ c.any.result c.any.ensures.ran (YieldsList-from_range 0 slots slots refl refl) (λ x b q k. search (rules, tests)) ∙ any_range f 0 slots in
    rw (told (goal.at.returns-then-not-some_slot c).After-some_slot ∙ c.if-not-some_slot.true, met)

pub returns-else-not-some_slot : goal.returns-else-not-some_slot
unfolding lawful_part
returns-else-not-some_slot c = rw (told (goal.at.returns-else-not-some_slot c).After-some_slot, c.if-not-some_slot.false)
