-- What stands at each place of the four arrays, in plain numbers: zero and false all over the empty table; what `entry` and `cell` answer, within
-- the bounds and beyond them; and the two are one, since every place is a slot. Each bound's test settles its answer. Assumes nothing.
use mathlib.Core.Path.{◌≡◌, sym, ◌∙◌, ap}
use mathlib.Core.Bool.{true, false, and-false}
use mathlib.Core.Logic.{◌⊎◌, ⊎_elim}
use Prim.Native.Nat.{ℕ, ◌+◌, ◌*◌, ◌/◌, ◌%◌, ◌≤◌, ◌<◌}
use borrow.Author.Tests.{lt-ltb, le-ltb}
use lib.Dec.{ltb}
use lib.ListN.{length, get_or, length-replicate, get_or-replicate}
use Rattle.table.specs.declared.Table.{Table}
use Rattle.table.specs.declared.Entry.{Entry}
use Rattle.table.specs.Table.{empty_table, slot_entry, entry_answer, cell_answer}
use Rattle.table.proofs.EntryLaws.{every_place, entry_within}

-- ---- the empty table: each array has 4 x n places, and each of them is really there, zero or false
pub empty_places : (n : ℕ) → (length (empty_table n).base ≡ 4 * n) × (length (empty_table n).size ≡ 4 * n) × (length (empty_table n).enabled ≡ 4 * n) × (length (empty_table n).writable ≡ 4 * n)
empty_places n = (length-replicate (4 * n) _, length-replicate (4 * n) _, length-replicate (4 * n) _, length-replicate (4 * n) _)

pub empty_zero : (n i : ℕ) → i < 4 * n → (get_or (empty_table n).base i 1 ≡ 0) × (get_or (empty_table n).size i 1 ≡ 0) × (get_or (empty_table n).enabled i true ≡ false) × (get_or (empty_table n).writable i true ≡ false)
empty_zero n i h = (get_or-replicate (4 * n) i 0 1 h, get_or-replicate (4 * n) i 0 1 h, get_or-replicate (4 * n) i false true h, get_or-replicate (4 * n) i false true h)

-- ---- the two public routines, by the arrays
abbrev held : Table → ℕ → Entry
held t i =
    record { base = get_or t.base i 0; size = get_or t.size i 0; enabled = get_or t.enabled i false; writable = get_or t.writable i false }

abbrev zeros : Entry
zeros = record { base = 0; size = 0; enabled = false; writable = false }

module _ (n : ℕ) (t : Table) where
  pub entry_holds : (p s : ℕ) → p < 4 → s < n → entry_answer n t p s ≡ held t (n * p + s)
  unfolding slot_entry
  entry_holds p s h k = entry_within n t p s h k

  pub entry_beyond : (p s : ℕ) → (4 ≤ p) ⊎ (n ≤ s) → entry_answer n t p s ≡ zeros
  unfolding entry_answer
  entry_beyond p s = ⊎_elim (λ h. rw (le-ltb p 4 h)) (λ h. rw (le-ltb s n h, and-false (ltb p 4)))

  pub cell_holds : (i : ℕ) → i < 4 * n → cell_answer n t i ≡ held t i
  unfolding cell_answer
  cell_holds i h = rw (lt-ltb i (4 * n) h)

  pub cell_beyond : (i : ℕ) → 4 * n ≤ i → cell_answer n t i ≡ zeros
  unfolding cell_answer
  cell_beyond i h = rw (le-ltb i (4 * n) h)

  -- the entry at a place is the entry of its slot
  pub cell_entry : (i : ℕ) → 0 < n → i < 4 * n → cell_answer n t i ≡ entry_answer n t (i / n) (i % n)
  cell_entry i h k =
      let w = every_place n i h k in
      cell_holds i k ∙ ap (held t) (sym w.0) ∙ sym (entry_holds (i / n) (i % n) w.1 w.2)
