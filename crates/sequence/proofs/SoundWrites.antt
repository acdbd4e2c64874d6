-- No write of a lawful table's partition is refused as a register write: the slots are below the count, a sound base is a multiple of 32, so that
-- bit 4 of RBAR is clear, and both control values are allowed. Assumes nothing.
use mathlib.Core.Path.{◌≡◌, refl, sym, ◌∙◌, ap, ap₂}
use mathlib.Core.Bool.{Bool, true, false, not}
use Prim.Native.Nat.{ℕ, ◌+◌, ◌-◌, ◌/◌, ◌%◌, ◌≤◌, ◌<◌}
use native.Mathlib.Decide.{ℕ_discrete}
use native.Mathlib.Omega.{arith}
use borrow.Author.Tests.{lt-ltb, le-ltb, le-leb, ne_eqb, not-false}
use Rattle.std.specs.Prelude.{Result, Ok, Some}
use Rattle.refusal.specs.declared.Refusal.{Refusal}
use Rattle.refusal.proofs.AnswerLaws.{answer_one}
use Rattle.region.specs.Sound.{region_no}
use Rattle.region.proofs.SoundLaws.{base_multiple}
use Rattle.fields.specs.Fields.{Field, rasr, rasr_answer, field_of}
use Rattle.fields.proofs.RasrLaws.{rasr_accepted, size_of_sound}
use Rattle.device.specs.declared.Write.{Write}
use Rattle.device.specs.Registers.{ctrl, allowed}
use Rattle.device.specs.RegisterWrite.{triple_refusals, triple_no}
use Rattle.table.specs.declared.Table.{Table}
use Rattle.table.specs.declared.Entry.{Entry}
use Rattle.table.specs.declared.numbers.Slot.{Slot}
use Rattle.table.specs.Numbers.{parts, slots, slotted}
use Rattle.table.specs.Table.{slot_entry, entry_answer}
use Rattle.table.specs.Lawful.{Lawful, lawful}
use Rattle.table.proofs.NumbersLaws.{slotted_is}
use Rattle.table.proofs.EntryLaws.{entry_within}
use Rattle.table.proofs.LawfulLaws.{lawful_exactly}
use Rattle.sequence.specs.Sequence.{off, on, attributes, slot_write, write_at}
use Rattle.sequence.proofs.WritesLaws.{write_first, write_slot, write_last}

module _ (n : ℕ) (few : n ≤ ctrl) where
  -- ---- the two control writes
  pub off_sound : triple_no n off ≡ 0
  unfolding triple_no triple_refusals allowed
  off_sound = rw (le-ltb ctrl n few)

  pub on_sound : triple_no n on ≡ 0
  unfolding triple_no triple_refusals allowed
  on_sound = rw (le-ltb ctrl n few)

  -- ---- a slot's write: its register is a slot's, and bit 4 of its RBAR is clear
  named_sound : (w : Write) → w.rnr < n → w.rbar / 16 % 2 ≡ 0 → triple_no n w ≡ 0
  unfolding triple_no triple_refusals
  named_sound w h z = rw (lt-ltb w.rnr n h, ne_eqb (w.rbar / 16 % 2) 1 (omega arith), ne_eqb w.rnr ctrl (omega arith))

  pub slot_sound : (s : ℕ) (e : Entry) → s < n → (e.enabled ≡ true → region_no e.base e.size ≡ 0) → triple_no n (slot_write s e) ≡ 0
  unfolding slot_write
  slot_sound s e h f = by e.enabled refl
    where
      by : (b : Bool) → e.enabled ≡ b → triple_no n (slot_write s e) ≡ 0
      by true x = rw x (named_sound _ h (omega (arith, base_multiple e.base e.size (f x))))
      by false x = rw x (named_sound _ h refl)

  -- ---- every write of a lawful partition
  pub writes_sound : (t : Table) (p : ℕ) → Lawful n t p → (i : ℕ) → i < n + 2 → triple_no n (write_at n t p i) ≡ 0
  writes_sound t p l i h = by (ℕ_discrete i 0) (ℕ_discrete i (1 + n))
    where
      by : Dec (i ≡ 0) → Dec (i ≡ 1 + n) → triple_no n (write_at n t p i) ≡ 0
      by (yes e) d = rw (e, write_first n t p) off_sound
      by (no e) (yes d) = rw (d, write_last n t p) on_sound
      by (no e) (no d) =
          let k : i - 1 < n = omega arith in
          let is : i ≡ 1 + (i - 1) = omega arith in
          ap (λ (x : ℕ). triple_no n (write_at n t p x)) is ∙ ap (triple_no n) (write_slot n t p (i - 1) k) ∙ slot_sound (i - 1) (slot_entry n t p (i - 1)) k (l.sound (i - 1) k)

-- ---- what the code asks: RASR of a sound entry is there, and the slot that is made has the entry before i
pub rasr_given : (r : Result ℕ Refusal) (e : Entry) → not e.enabled ≡ false → (e.enabled ≡ true → region_no e.base e.size ≡ 0) → field_of r ≡ rasr_answer (attributes e) → r ≡ Ok (rasr (attributes e))
rasr_given r e on f h =
    let a = attributes e in
    let told = h ∙ rasr_accepted a (size_of_sound e.base e.size (f (not-false _ on))) in
    answer_one 0 r (Ok (rasr a)) (ap (λ (f : Field). f.no) told) (ap (λ (f : Field). f.value) told)

module _ (t : Table) (p k : ℕ) (s : Slot) (part : p < parts) (made : Some s ≡ slotted k) where
  at : (k < slots) × (s.0 ≡ k)
  at = slotted_is k s (sym made)

  pub entry_made : entry_answer slots t p s.0 ≡ slot_entry slots t p k
  entry_made = entry_within slots t p s.0 part (rw at.1 at.0) ∙ ap (slot_entry slots t p) at.1

  pub made_sound : lawful slots t ≡ true → let e = entry_answer slots t p s.0 in e.enabled ≡ true → region_no e.base e.size ≡ 0
  made_sound ok = rw entry_made (((lawful_exactly slots t).0 ok p part).sound k at.0)

  pub made_write : (i : ℕ) → ¬ (i ≡ 0) → k ≡ i - 1 → slot_write s.0 (entry_answer slots t p s.0) ≡ write_at slots t p i
  unfolding write_at
  made_write i z e =
      rw (ne_eqb i 0 z, le-leb i slots (omega (arith, at.0, e)), sym e) (ap₂ slot_write at.1 entry_made)
