-- Which write stands where: the off first, slot by slot, the on last. Each by its place in the list; and the number, exactly when stated, with
-- zeros at every place where it refuses. Assumes nothing.
use mathlib.Core.Path.{◌≡◌, refl, sym, ◌∙◌, ap, ap₂}
use mathlib.Core.Bool.{Bool, true, false, not}
use mathlib.Core.Logic.{◌↔◌}
use mathlib.Core.List.{List, [], ◌∷◌, ◌++◌}
use Prim.Native.Nat.{ℕ, ◌+◌, ◌-◌, ◌*◌, ◌^◌, ◌<◌}
use native.Mathlib.Nat.{zero-add}
use native.Mathlib.Numerals.{add-two}
use native.Mathlib.Omega.{arith}
use borrow.Author.Tests.{ne_eqb, le-leb, lt-leb, not-true, not-false}
use lib.Dec.{eqb, lit<}
use lib.ListN.{length, get_or, length-replicate, get_or-replicate}
use Rattle.laws.specs.Pick.{pick}
use Rattle.laws.specs.Refuse.{◌⇒◌}
use Rattle.laws.specs.Listed.{listed}
use Rattle.laws.proofs.RefuseLaws.{accepted, given}
use Rattle.laws.proofs.ListedLaws.{length-listed, get_or-listed, listed_snoc, listed_same}
use Rattle.fields.specs.Fields.{rasr}
use Rattle.fields.proofs.SizeLaws.{size_of_power}
use Rattle.device.specs.declared.Write.{Write}
use Rattle.table.specs.declared.Table.{Table}
use Rattle.table.specs.declared.Entry.{Entry}
use Rattle.table.specs.Table.{slot_entry}
use Rattle.table.specs.Lawful.{lawful}
use Rattle.table.specs.Covers.{beyond}
use Rattle.sequence.specs.Sequence.{triple, off, on, slot_write, write_at, writes, sequence_no, sequence}

module _ (n : ℕ) (t : Table) (p : ℕ) where
  -- ---- by place: upstream's P4a, P1 to P3, P4b
  pub write_first : write_at n t p 0 ≡ off
  unfolding write_at
  write_first = refl

  pub write_slot : (s : ℕ) → s < n → write_at n t p (1 + s) ≡ slot_write s (slot_entry n t p s)
  unfolding write_at
  write_slot s h =
      let less : 1 + s - 1 ≡ s = omega arith in
      rw (ne_eqb (1 + s) 0 (omega arith), le-leb (1 + s) n (omega arith), less)

  pub write_last : write_at n t p (1 + n) ≡ on
  unfolding write_at
  write_last = rw (ne_eqb (1 + n) 0 (omega arith), lt-leb (1 + n) n (omega arith))

  pub writes_at : (i : ℕ) (d : Write) → i < n + 2 → get_or (writes n t p) i d ≡ write_at n t p i
  unfolding writes
  writes_at i d h = get_or-listed (write_at n t p) 0 (n + 2) i d h ∙ ap (write_at n t p) (zero-add i)

  pub writes_length : length (writes n t p) ≡ n + 2
  unfolding writes
  writes_length = length-listed (write_at n t p) 0 (n + 2)

  -- ---- as a switch: one write that turns off, a write for each slot, one that turns on
  abbrev pub middle : List Write
  middle = listed (λ (s : ℕ). slot_write s (slot_entry n t p s)) 0 n

  pub writes_switch : writes n t p ≡ off ∷ (middle ++ (on ∷ []))
  unfolding writes
  writes_switch =
      ap (listed (write_at n t p) 0) (add-two n)
      ∙ ap₂ ◌∷◌ write_first
      (listed_snoc (write_at n t p) 1 n
      ∙ ap₂ (λ (ms : List Write) (l : Write). ms ++ (l ∷ []))
      (listed_same (write_at n t p) (λ (s : ℕ). slot_write s (slot_entry n t p s)) 1 0 n (λ m h. write_slot m h ∙ ap (λ (x : ℕ). slot_write x (slot_entry n t p x)) (sym (zero-add m)))) write_last)

  -- ---- the number
  pub sequence_1 : ((sequence n t p).no ≡ 1) ↔ (beyond p ≡ true)
  unfolding sequence sequence_no
  sequence_1 =
      let why = given ((beyond p ⇒ 1) ∷ (not (lawful n t) ⇒ 9) ∷ []) refl refl 0 (lit< tt) in
      (λ e. (why.0 e).1, λ b. why.1 (tt, b))

  pub sequence_9 : ((sequence n t p).no ≡ 9) ↔ ((beyond p ≡ false) × (lawful n t ≡ false))
  unfolding sequence sequence_no
  sequence_9 =
      let why = given ((beyond p ⇒ 1) ∷ (not (lawful n t) ⇒ 9) ∷ []) refl refl 1 (lit< tt) in
      (λ e. let w = why.0 e in (w.0.0, not-true _ w.1), λ w. why.1 ((w.0, tt), ap not w.1))

  pub sequence_0 : ((sequence n t p).no ≡ 0) ↔ ((beyond p ≡ false) × (lawful n t ≡ true))
  unfolding sequence sequence_no
  sequence_0 =
      let quiet = accepted ((beyond p ⇒ 1) ∷ (not (lawful n t) ⇒ 9) ∷ []) refl in
      (λ e. let q = quiet.0 e in (q.0, not-false _ q.1.0), λ w. quiet.1 (w.0, (ap not w.1, tt)))

  pub sequence_writes : (sequence n t p).no ≡ 0 → (sequence n t p).writes ≡ writes n t p
  unfolding sequence
  sequence_writes e = rw e

  -- ---- accepted or refused, n + 2 triples; refused, zeros at each place, and each is really there
  pub sequence_length : length (sequence n t p).writes ≡ n + 2
  unfolding sequence
  sequence_length = by (eqb (sequence_no n t p) 0) _ (length-replicate (n + 2) _)
    where
      by : (b : Bool) (zeros : List Write) → length zeros ≡ n + 2 → length (pick b (writes n t p) zeros) ≡ n + 2
      by true zeros e = writes_length
      by false zeros e = e

  pub sequence_zeros : ¬ ((sequence n t p).no ≡ 0) → (i : ℕ) → i < n + 2 → get_or (sequence n t p).writes i (record { rnr = 1; rbar = 1; rasr = 1 }) ≡ record { rnr = 0; rbar = 0; rasr = 0 }
  unfolding sequence
  sequence_zeros h i k = rw (ne_eqb (sequence_no n t p) 0 h) (get_or-replicate (n + 2) i (triple 0 0 0) (triple 1 1 1) k)

-- ---- a slot's write in plain numbers: zeros unless it is enabled; else its base and RASR, of a size 2 ^ (f + 1)
pub slot_empty : (s : ℕ) (e : Entry) → e.enabled ≡ false → slot_write s e ≡ record { rnr = s; rbar = 0; rasr = 0 }
unfolding slot_write
slot_empty s e off = rw off

pub slot_granted : (s f : ℕ) (e : Entry) → e.enabled ≡ true → f < 32 → e.size ≡ 2 ^ (f + 1) → slot_write s e ≡ record { rnr = s; rbar = e.base; rasr = 1 + 2 * f + 16777216 * pick e.writable 3 6 }
unfolding slot_write rasr
slot_granted s f e on h k = rw (on, k, size_of_power f h)
