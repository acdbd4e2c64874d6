-- What stands in a table after an entry is written: that entry at its place, and what stood elsewhere. And two slots have one place only if
-- they are one slot of one partition: division by the slot count reads the two numbers back, at every place. Assumes nothing.
use mathlib.Core.Path.{◌≡◌, sym, ◌∙◌, ap, subst}
use mathlib.Core.Bool.{false}
use Prim.Native.Nat.{ℕ, ◌+◌, ◌*◌, ◌/◌, ◌%◌, ◌<◌}
use native.Mathlib.Nat.{mul_comm, mod-lt, div-add-mod, div-lt_iff_lt-mul}
use borrow.Author.Tests.{lt-ltb}
use lib.Arith.{digits_div, digits_mod, digits_lt}
use lib.ListN.{length-set, length-replicate}
use lib.Seq.{get_or-set_same, get_or-set_other}
use Rattle.table.specs.declared.Table.{Table}
use Rattle.table.specs.declared.Entry.{Entry}
use Rattle.table.specs.Numbers.{parts, flat_index}
use Rattle.table.specs.Table.{entry_at, with_entry, empty_table, slot_entry, no_entry, entry_answer}
use Rattle.table.specs.Whole.{Whole}

-- ---- one place
pub with_same : (n : ℕ) (t : Table) (i : ℕ) (e : Entry) → Whole n t → i < parts * n → entry_at (with_entry t i e) i ≡ e
with_same n t i e w h = λ k.
    record { base = get_or-set_same t.base i e.base 0 (rw w.base h) k; size = get_or-set_same t.size i e.size 0 (rw w.size h) k; enabled = get_or-set_same t.enabled i e.enabled false (rw w.enabled h) k; writable = get_or-set_same t.writable i e.writable false (rw w.writable h) k }

pub with_other : (t : Table) (i j : ℕ) (e : Entry) → ¬ (j ≡ i) → entry_at (with_entry t i e) j ≡ entry_at t j
with_other t i j e h = λ k.
    record { base = get_or-set_other t.base i j e.base 0 h k; size = get_or-set_other t.size i j e.size 0 h k; enabled = get_or-set_other t.enabled i j e.enabled false h k; writable = get_or-set_other t.writable i j e.writable false h k }

pub with_whole : (n : ℕ) (t : Table) (i : ℕ) (e : Entry) → Whole n t → Whole n (with_entry t i e)
with_whole n t i e w =
    record { base = length-set t.base i e.base ∙ w.base; size = length-set t.size i e.size ∙ w.size; enabled = length-set t.enabled i e.enabled ∙ w.enabled; writable = length-set t.writable i e.writable ∙ w.writable }

pub empty_whole : (n : ℕ) → Whole n (empty_table n)
empty_whole n =
    record { base = length-replicate (parts * n) _; size = length-replicate (parts * n) _; enabled = length-replicate (parts * n) _; writable = length-replicate (parts * n) _ }

-- ---- the flat index
module _ (n p s : ℕ) (h : s < n) where
  turned : flat_index n p s ≡ p * n + s
  turned = ap (λ (x : ℕ). x + s) (mul_comm n p)

  pub part_of : flat_index n p s / n ≡ p
  part_of = ap (λ (x : ℕ). x / n) turned ∙ digits_div p h

  pub slot_of : flat_index n p s % n ≡ s
  slot_of = ap (λ (x : ℕ). x % n) turned ∙ digits_mod p h

  pub flat_within : p < parts → flat_index n p s < parts * n
  flat_within k = subst (λ (x : ℕ). x < parts * n) (sym turned) (digits_lt k h)

pub flat_one : (n p s q r : ℕ) → s < n → r < n → flat_index n p s ≡ flat_index n q r → (p ≡ q) × (s ≡ r)
flat_one n p s q r h k e =
    (sym (part_of n p s h) ∙ ap (λ (x : ℕ). x / n) e ∙ part_of n q r k, sym (slot_of n p s h) ∙ ap (λ (x : ℕ). x % n) e ∙ slot_of n q r k)

-- every place of the arrays is a slot of one of the four partitions
pub every_place : (n i : ℕ) → 0 < n → i < 4 * n → (flat_index n (i / n) (i % n) ≡ i) × (i / n < 4) × (i % n < n)
every_place n i h k = (div-add-mod i n, (div-lt_iff_lt-mul h).1 k, mod-lt i h)

-- ---- the slots of a partition
module _ (n : ℕ) (t : Table) (p s : ℕ) (e : Entry) (h : s < n) where
  pub slot_same : Whole n t → p < parts → slot_entry n (with_entry t (flat_index n p s) e) p s ≡ e
  unfolding slot_entry
  slot_same w k = with_same n t (flat_index n p s) e w (flat_within n p s h k)

  pub slot_other : (q r : ℕ) → r < n → ¬ ((q ≡ p) × (r ≡ s)) → slot_entry n (with_entry t (flat_index n p s) e) q r ≡ slot_entry n t q r
  unfolding slot_entry
  slot_other q r k d = with_other t (flat_index n p s) (flat_index n q r) e (λ x. d (flat_one n q r p s k h x))

-- zeros, not enabled, field by field
pub blank : (e : Entry) → (e.base ≡ 0) × ((e.size ≡ 0) × ((e.enabled ≡ false) × (e.writable ≡ false))) → e ≡ no_entry
blank e h = λ k. record { base = h.0 k; size = h.1.0 k; enabled = h.1.1.0 k; writable = h.1.1.1 k }

-- what the public routine answers within both bounds
pub entry_within : (n : ℕ) (t : Table) (p s : ℕ) → p < parts → s < n → entry_answer n t p s ≡ slot_entry n t p s
unfolding entry_answer
entry_within n t p s h k = rw (lt-ltb p parts h, lt-ltb s n k)
