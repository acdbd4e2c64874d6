-- Each return's tests are those of the refusal list, up to the one that held; past them all, the request is granted in the slot that the search
-- for a free one found. Assumes nothing.
use mathlib.Core.Path.{◌≡◌, sym, ◌∙◌, ap, ap₂}
use mathlib.Core.Bool.{true, false, not}
use Prim.Native.Nat.{ℕ, ◌<◌}
use native.Mathlib.Omega.{arith}
use borrow.Author.Tests.{lt-ltb, le-ltb}
use Rattle.std.proofs.Common.{rules, Err}
use Rattle.laws.specs.Search.{some}
use Rattle.refusal.specs.declared.Refusal.TheVariants.{NoPartition, Full}
use Rattle.refusal.specs.Refusal.{number}
use Rattle.refusal.proofs.NumberLaws.{number_some}
use Rattle.region.specs.declared.Range.{Range}
use Rattle.region.specs.Sound.{region_no}
use Rattle.table.specs.declared.Table.{Table}
use Rattle.table.specs.Numbers.{parts, slots, flat_index, slotted}
use Rattle.table.specs.Table.{with_entry}
use Rattle.table.specs.Entries.{is_free, meets, slot_asked}
use Rattle.table.specs.Lawful.{lawful}
use Rattle.table.specs.Covers.{beyond}
use Rattle.table.specs.Builder.{granted, overlaps_any, first_free, full}
use Rattle.table.proofs.NumbersLaws.{parted_is, parted_beyond, slotted_is, slotted_beyond}
use Rattle.table.proofs.BuilderNo.{no_1, no_9, no_region, no_6, no_7, no_0, add_refused, add_accepted}
use Rattle.table.proofs.Table.added.Goals as goal
use Rattle.table.proofs.Table.added.Goals.{In_ok-p, Else-not-lawful, After-some_slot, Else-some_slot, After-first_slot, In_ok-free}

-- ---- what is known at each place
made : (c : In_ok-p) → (c.args.part < parts) × (c.in_ok-p.p.0 ≡ c.args.part)
made c = parted_is _ _ (sym c.new.ensures ∙ c.in_ok-p.ensures.ok_part)

within : (c : In_ok-p) → beyond c.args.part ≡ false
within c = ap not (lt-ltb _ _ (made c).0)

is_lawful : (c : Else-not-lawful) → lawful slots c.args.self.now ≡ true
is_lawful c = sym c.lawful.ensures ∙ c.if-not-lawful.false

overlap : (c : After-some_slot) → overlaps_any slots c.args.self.now c.args.part c.args.q ≡ c.some_slot.result
unfolding overlaps_any
overlap c =
    let p = parted_is _ _ (sym c.new.ensures ∙ c.in_ok-p.ensures.ok_part) in
    rw (sym p.1)
    (sym (c.some_slot.ensures (meets c.from-wanted.result) (λ e b k. search rules) ∙ ap (λ (r : Range). some (slot_asked slots c.args.self.now c.in_ok-p.p.0 (meets r)) 0 slots) c.from-wanted.ensures))

is_apart : (c : Else-some_slot) → overlaps_any slots c.args.self.now c.args.part c.args.q ≡ false
is_apart c = overlap c.before ∙ c.if-some_slot.false

free : (c : After-first_slot) → c.first_slot.result ≡ slotted (first_free slots c.args.self.now c.args.part)
unfolding first_free
free c =
    let p = parted_is _ _ (sym c.new.ensures ∙ c.in_ok-p.ensures.ok_part) in
    rw (sym p.1) (c.first_slot.ensures is_free (λ e b k. search rules))

-- the slot that is taken
taken : (c : In_ok-free) → let low = first_free slots c.args.self.now c.args.part in (low < slots) × (c.in_ok-free.free.0 ≡ low)
taken c = slotted_is _ _ (sym (free c.before.before.before) ∙ c.in_ok-free.ensures.ok_part)

-- ---- the returns, by number
pub returns-in_err-p : goal.returns-in_err-p
returns-in_err-p c =
    let said : c.from_residual.result ≡ Err NoPartition = search rules in
    rw said
    (sym (add_refused slots _ _ _ (no_1 slots _ _ _ (ap not (le-ltb _ _ (parted_beyond c.args.part (sym c.new.ensures ∙ c.in_err-p.ensures.ok_part))))) (omega arith)))

pub returns-then-not-lawful : goal.returns-then-not-lawful
returns-then-not-lawful c =
    let at = goal.at.returns-then-not-lawful c in
    sym (add_refused slots _ _ _ (no_9 slots _ _ _ (within at.In_ok-p) (sym c.lawful.ensures ∙ c.if-not-lawful.true)) (omega arith))

pub returns-in_err-validate_region : goal.returns-in_err-validate_region
returns-in_err-validate_region c =
    let at = goal.at.returns-in_err-validate_region c in
    let why = c.in_err-validate_region.field-0.0 in
    let said : c.from_residual-in_err-validate_region.result ≡ Err why = search rules in
    let no : number why ≡ region_no c.args.q.base c.args.q.size = c.in_err-validate_region.ensures in
    rw said
    (sym (add_refused slots _ _ _ (no_region slots _ _ _ (within at.In_ok-p) (is_lawful at.Else-not-lawful) (rw (sym no) (number_some why)) ∙ sym no) (number_some why)))

pub returns-then-some_slot : goal.returns-then-some_slot
returns-then-some_slot c =
    let at = goal.at.returns-then-some_slot c in
    sym (add_refused slots _ _ _ (no_6 slots _ _ _ (within at.In_ok-p) (is_lawful at.Else-not-lawful) (sym c.in_ok-validate_region.ensures) (overlap at.After-some_slot ∙ c.if-some_slot.true)) (omega arith))

pub returns-in_err-free : goal.returns-in_err-free
unfolding full
returns-in_err-free c =
    let at = goal.at.returns-in_err-free c in
    let said : c.from_residual-in_err-free.result ≡ Err Full = search rules in
    rw said
    (sym (add_refused slots _ _ _ (no_7 slots _ _ _ (within at.In_ok-p) (is_lawful at.Else-not-lawful) (sym c.in_ok-validate_region.ensures) (is_apart at.Else-some_slot) (ap not (le-ltb _ _ (slotted_beyond _ (sym (free at.After-first_slot) ∙ c.in_err-free.ensures.ok_part))))) (omega arith)))

pub with-requires : goal.with-requires
with-requires c =
    let at = goal.at.with-requires c in
    omega (arith, c.flat.ensures, made at.In_ok-p, taken at.In_ok-free)

pub returns : goal.returns
unfolding full
returns c =
    let at = goal.at.returns c in
    let slot = taken at.In_ok-free in
    rw (add_accepted slots _ _ _ (no_0 slots _ _ _ (within at.In_ok-p) (is_lawful at.Else-not-lawful) (sym c.in_ok-validate_region.ensures) (is_apart at.Else-some_slot) (ap not (lt-ltb _ _ slot.0))))
    (ap (λ (t : Table). record { no = 0; table = t }) (c.with.ensures ∙ ap (λ (i : ℕ). with_entry c.args.self.now i (granted c.args.q)) (c.flat.ensures ∙ ap₂ (flat_index slots) (made at.In_ok-p).1 slot.1)))
