-- The whole search is what is left of it: every slot before s fails the test. Assumes nothing.
use mathlib.Core.Path.{◌≡◌, sym, ◌∙◌, ap}
use mathlib.Core.Bool.{Bool}
use Prim.Native.Nat.{ℕ}
use Rattle.laws.proofs.SearchLaws.{lowest_here, lowest_next, lowest_end}
use Rattle.table.specs.declared.Table.{Table}
use Rattle.table.specs.declared.Entry.{Entry}
use Rattle.table.specs.Numbers.{slots, slotted}
use Rattle.table.specs.Table.{slot_entry}
use Rattle.table.specs.Entries.{slot_asked}
use Rattle.table.proofs.NumbersLaws.{slotted_below, slotted_above}
use Rattle.table.proofs.Table.first_slot.Goals as goal

-- what the test said of the entry that was read at place k is the answer of slot s
answer : (f : Entry → Bool) (u : Table) (p k s : ℕ) {e : Entry} {b : Bool} → b ≡ f e → e ≡ slot_entry slots u p k → k ≡ s → slot_asked slots u p f s ≡ b
answer f u p k s says read same = sym (says ∙ ap f (read ∙ ap (slot_entry slots u p) same))

pub returns-then-test : goal.returns-then-test
returns-then-test g c = λ f says.
    let yes = answer f _ _ _ _ (says _ _ c.test.ensures) c.peek.ensures c.at-slot.ensures ∙ c.if-test.true in
    sym (ap slotted (c.loop-s.invariant f says ∙ lowest_here _ c.loop-s-test.true yes) ∙ slotted_below _ _ c.loop-s-test.true c.at-slot.ensures)

pub loop-s-preserved : goal.loop-s-preserved
loop-s-preserved g c = λ f says.
    let no = answer f _ _ _ _ (says _ _ c.test.ensures) c.peek.ensures c.at-slot.ensures ∙ c.if-test.false in
    c.loop-s.invariant f says ∙ lowest_next _ c.loop-s-test.true no

pub returns : goal.returns
returns g c = λ f says. sym (ap slotted (c.loop-s.invariant f says ∙ lowest_end _ c.loop-s-test.false) ∙ slotted_above _ c.loop-s-test.false)
