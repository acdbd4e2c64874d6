-- What may be said of one entry.
--   range_of e           == its bytes, as a range
--   is_free e            == it isn't enabled
--   is_unsound e         == it is enabled and no sound region
--   meets r e            == it is enabled and overlaps the range r
--   covers_byte a e      == it is enabled, and base <= a < base + size
--   slot_asked n t p f s == whether the entry of slot s of partition p passes the test f
--   Computes says f      == what a piece of code may say of an entry is what the test f gives
use Rattle.std.specs.Prelude.{◌≡◌, Bool, not, ◌&&◌, ℕ, ◌+◌, ltb, leb, eqb}
use Rattle.region.specs.declared.Range.{Range}
use Rattle.region.specs.Sound.{region_no}
use Rattle.region.specs.Overlap.{overlaps}
use Rattle.table.specs.declared.Table.{Table}
use Rattle.table.specs.declared.Entry.{Entry}
use Rattle.table.specs.Table.{slot_entry}

abbrev pub range_of : Entry → Range
range_of e = record { base = e.base; size = e.size }

abbrev pub is_free : Entry → Bool
is_free e = not e.enabled

abbrev pub is_unsound : Entry → Bool
is_unsound e = e.enabled && not (eqb (region_no e.base e.size) 0)

abbrev pub meets : Range → Entry → Bool
meets r e = e.enabled && overlaps r (range_of e)

abbrev pub covers_byte : ℕ → Entry → Bool
covers_byte a e = e.enabled && (leb e.base a && ltb a (e.base + e.size))

abbrev pub slot_asked : ℕ → Table → ℕ → (Entry → Bool) → ℕ → Bool
slot_asked n t p f s = f (slot_entry n t p s)

abbrev pub Computes : (Entry → Bool → Type 0) → (Entry → Bool) → Type 0
Computes says f = (e : Entry) (b : Bool) → says e b → b ≡ f e
