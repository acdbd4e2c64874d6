-- What the builder does. It accepts whatever is sound and fits: no refusal is left. An accepted request stands in the lowest free slot, as asked and
-- enabled, and nothing else changes. The table stays lawful: the new entry is sound and meets no other of its partition. Assumes nothing.
use mathlib.Core.Path.{◌≡◌, ap}
use mathlib.Core.Bool.{true, false, not}
use mathlib.Core.Logic.{◌↔◌}
use Prim.Native.Nat.{ℕ, ◌+◌, ◌*◌, ◌<◌, zero-le}
use borrow.Author.Tests.{ltb-true, lt-ltb, not-true, not-false, ne_eqb}
use lib.ListN.{get_or}
use Rattle.laws.specs.Search.{Least}
use Rattle.laws.proofs.BoolLaws.{unless}
use Rattle.laws.proofs.SearchLaws.{none_exactly, some_exactly, lowest_least}
use Rattle.region.specs.Overlap.{overlaps}
use Rattle.table.specs.declared.Table.{Table}
use Rattle.table.specs.declared.Entry.{Entry}
use Rattle.table.specs.declared.Request.{Request}
use Rattle.table.specs.Numbers.{flat_index}
use Rattle.table.specs.Table.{with_entry, slot_entry}
use Rattle.table.specs.Whole.{Whole}
use Rattle.table.specs.Entries.{range_of, is_free, meets}
use Rattle.table.specs.Builder.{wanted, granted, overlaps_any, first_free, full, builder_no, try_add, Fits, Grants}
use Rattle.table.proofs.EntryLaws.{with_other, slot_same}
use Rattle.table.proofs.LawfulLaws.{lawful_exactly}
use Rattle.table.proofs.RefusalLaws.{accepted_exactly}

module _ (n : ℕ) (t : Table) (p : ℕ) (q : Request) where
  -- ---- what the two searches mean
  pub apart_exactly : (overlaps_any n t p q ≡ false) ↔ ((s : ℕ) → s < n → (slot_entry n t p s).enabled ≡ true → overlaps (wanted q) (range_of (slot_entry n t p s)) ≡ false)
  unfolding overlaps_any
  apart_exactly =
      let none = none_exactly (λ s. meets (wanted q) (slot_entry n t p s)) {i = 0} {m = n} zero-le in
      (λ e s h on. unless.0 (none.0 e s zero-le h) on, λ f. none.1 (λ s l h. unless.1 (f s h)))

  pub room_exactly : (full n t p ≡ false) ↔ ((s : ℕ) × (s < n) × ((slot_entry n t p s).enabled ≡ false))
  unfolding full first_free
  room_exactly =
      let found = some_exactly (λ s. is_free (slot_entry n t p s)) {i = 0} {m = n} zero-le in
      (λ e. let w = found.0 (not-false _ e) in (w.0, w.2, not-true _ w.3), λ w. ap not (found.1 (w.0, zero-le, w.1, ap not w.2)))

  -- ---- acceptance, both directions
  pub accepts_exactly : ((try_add n t p q).no ≡ 0) ↔ Fits n t p q
  unfolding try_add
  accepts_exactly = (
    λ e.
        let w = (accepted_exactly n t p q).0 e in
        record { partition = ltb-true _ _ (not-false _ w.0); lawful = (lawful_exactly n t).0 w.1; sound = w.2; apart = apart_exactly.0 w.3; room = room_exactly.0 w.4 },
    λ f.
        (accepted_exactly n t p q).1 (ap not (lt-ltb _ _ f.partition), (lawful_exactly n t).1 f.lawful, f.sound, apart_exactly.1 f.apart, room_exactly.1 f.room),
  )

  -- ---- refused: the table as received
  pub refused_same : ¬ ((try_add n t p q).no ≡ 0) → (try_add n t p q).table ≡ t
  unfolding try_add
  refused_same h = rw (ne_eqb (builder_no n t p q) 0 h)

  -- ---- accepted: what is there now
  module _ (w : Whole n t) (ok : (try_add n t p q).no ≡ 0) where
    table_is : (try_add n t p q).table ≡ with_entry t (flat_index n p (first_free n t p)) (granted q)
    unfolding try_add
    table_is = rw ok

    low : Least (λ s. is_free (slot_entry n t p s)) 0 n (first_free n t p)
    unfolding first_free
    low = lowest_least (λ s. is_free (slot_entry n t p s)) zero-le

    within : first_free n t p < n
    unfolding full first_free
    within = ltb-true _ _ (not-false _ (room_exactly.1 (accepts_exactly.0 ok).room))

    pub grants : Grants n t p q (try_add n t p q).table
    grants =
        record { slot = first_free n t p; within = within; was_free = not-true _ (low.passes within); lowest = λ s h. not-false _ (low.none s zero-le h); entry = rw table_is (slot_same n t p (first_free n t p) (granted q) within w (accepts_exactly.0 ok).partition); others = λ i d. rw table_is (with_other t (flat_index n p (first_free n t p)) i (granted q) d) }

    -- the same in the four arrays, place by place: as asked and enabled at 8 x partition + slot
    pub stored : let u = (try_add n t p q).table in let i = n * p + grants.slot in (get_or u.base i 0 ≡ q.base) × (get_or u.size i 0 ≡ q.size) × (get_or u.enabled i false ≡ true) × (get_or u.writable i false ≡ q.writable)
    unfolding slot_entry
    stored =
        (ap (λ (e : Entry). e.base) grants.entry, ap (λ (e : Entry). e.size) grants.entry, ap (λ (e : Entry). e.enabled) grants.entry, ap (λ (e : Entry). e.writable) grants.entry)

    pub others_stay : let u = (try_add n t p q).table in (i : ℕ) → ¬ (i ≡ n * p + grants.slot) → (get_or u.base i 0 ≡ get_or t.base i 0) × (get_or u.size i 0 ≡ get_or t.size i 0) × (get_or u.enabled i false ≡ get_or t.enabled i false) × (get_or u.writable i false ≡ get_or t.writable i false)
    others_stay i d =
        let o = grants.others i d in
        (ap (λ (e : Entry). e.base) o, ap (λ (e : Entry). e.size) o, ap (λ (e : Entry). e.enabled) o, ap (λ (e : Entry). e.writable) o)
