-- The builder.
--   wanted q             == the bytes that the request q asks for
--   granted q            == the entry that grants q: as asked, and enabled
--   first_free n t p     == the lowest slot of the partition that isn't enabled; n where all are
--   full n t p           == all slots are enabled
--   overlaps_any n t p q == the request overlaps an enabled entry of the partition
--   refusals n t p q     == what refuses, in the order of the paper: 1, 9, 2, 3, 4, 5, 6, 7
--   builder_no n t p q   == the number of the first that holds; 0 where the request is accepted
--   try_add n t p q      == the number, and the table: with q granted in the first free slot where accepted, else as received
--   added_of r           == the same, of the code's answer
--   answered t r         == the same, of an answer that hands back no table where it refuses: t is the one received
--   Fits, Grants         == what acceptance asks, and what it does, as facts
use Rattle.std.specs.Prelude.{◌≡◌, Bool, true, false, not, List, [], ◌∷◌, ◌++◌, ℕ, Result, ◌<◌, ltb, eqb}
use Rattle.laws.specs.Pick.{pick}
use Rattle.laws.specs.Refuse.{Refusal, ◌⇒◌, refuse}
use Rattle.laws.specs.Search.{lowest, some}
use Rattle.refusal.specs.declared.Refusal as paper
use Rattle.refusal.specs.declared.Refused.{Refused}
use Rattle.refusal.specs.Refusal.{no_of, why_no, value_or, held_by}
use Rattle.region.specs.declared.Range.{Range}
use Rattle.region.specs.Sound.{soundness, region_no}
use Rattle.region.specs.Overlap.{overlaps}
use Rattle.table.specs.declared.Table.{Table}
use Rattle.table.specs.declared.Entry.{Entry}
use Rattle.table.specs.declared.Request.{Request}
use Rattle.table.specs.Numbers.{parts, flat_index}
use Rattle.table.specs.Table.{entry_at, with_entry, slot_entry}
use Rattle.table.specs.Entries.{range_of, is_free, meets}
use Rattle.table.specs.Lawful.{lawful, Lawful}
use Rattle.table.specs.Covers.{beyond}

-- the builder's answer: a number, and the table, as received where the number refuses
pub record Added : Type 0 where
  pub no : ℕ
  pub table : Table

abbrev pub added_of : Result Table (Refused Table) → Added
added_of r = record { no = why_no r; table = held_by r }

abbrev pub answered : Table → Result Table paper.Refusal → Added
answered t r = record { no = no_of r; table = value_or t r }

abbrev pub wanted : Request → Range
wanted q = record { base = q.base; size = q.size }

abbrev pub granted : Request → Entry
granted q = record { base = q.base; size = q.size; enabled = true; writable = q.writable }

unfoldable pub overlaps_any : ℕ → Table → ℕ → Request → Bool
overlaps_any n t p q = some (λ s. meets (wanted q) (slot_entry n t p s)) 0 n

unfoldable pub first_free : ℕ → Table → ℕ → ℕ
first_free n t p = lowest (λ s. is_free (slot_entry n t p s)) 0 n

unfoldable pub full : ℕ → Table → ℕ → Bool
full n t p = not (ltb (first_free n t p) n)

unfoldable pub refusals : ℕ → Table → ℕ → Request → List Refusal
refusals n t p q =
    (beyond p ⇒ 1) ∷ (not (lawful n t) ⇒ 9) ∷ soundness q.base q.size ++ ((overlaps_any n t p q ⇒ 6) ∷ (full n t p ⇒ 7) ∷ [])

unfoldable pub builder_no : ℕ → Table → ℕ → Request → ℕ
builder_no n t p q = refuse (refusals n t p q)

unfoldable pub try_add : ℕ → Table → ℕ → Request → Added
try_add n t p q =
    record { no = builder_no n t p q; table = pick (eqb (builder_no n t p q) 0) (with_entry t (flat_index n p (first_free n t p)) (granted q)) t }

-- ---- what acceptance asks and does, as facts
-- a lawful table, a partition below 4, a sound request that overlaps no enabled entry of that partition, and a slot that is free
pub record Fits (n : ℕ) (t : Table) (p : ℕ) (q : Request) : Type 0 where
  pub partition : p < parts
  pub lawful : (r : ℕ) → r < parts → Lawful n t r
  pub sound : region_no q.base q.size ≡ 0
  pub apart : (s : ℕ) → s < n → (slot_entry n t p s).enabled ≡ true → overlaps (wanted q) (range_of (slot_entry n t p s)) ≡ false
  pub room : (s : ℕ) × (s < n) × ((slot_entry n t p s).enabled ≡ false)

-- u is t with q granted: in the lowest slot that wasn't enabled, as asked; every other place of every array as it was
pub record Grants (n : ℕ) (t : Table) (p : ℕ) (q : Request) (u : Table) : Type 0 where
  pub slot : ℕ
  pub within : slot < n
  pub was_free : (slot_entry n t p slot).enabled ≡ false
  pub lowest : (s : ℕ) → s < slot → (slot_entry n t p s).enabled ≡ true
  pub entry : slot_entry n u p slot ≡ granted q
  pub others : (i : ℕ) → ¬ (i ≡ flat_index n p slot) → entry_at u i ≡ entry_at t i
