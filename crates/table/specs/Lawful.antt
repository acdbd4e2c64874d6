-- A lawful table, said by partition; contents of entries that aren't enabled are free.
--   clash_at n t p i  == entry i of the partition is enabled and a later one, enabled too, overlaps it
--   lawful_part n t p == no entry of the partition is enabled and unsound, and none clashes
--   lawful n t        == each of the four partitions is lawful
--   Lawful n t p      == the same of a partition, as facts
use Rattle.std.specs.Prelude.{◌≡◌, Bool, true, false, not, ◌&&◌, ℕ, ◌+◌, ◌<◌}
use Rattle.laws.specs.Search.{some, every}
use Rattle.region.specs.Sound.{region_no}
use Rattle.region.specs.Overlap.{overlaps}
use Rattle.table.specs.declared.Table.{Table}
use Rattle.table.specs.Numbers.{parts}
use Rattle.table.specs.Table.{slot_entry}
use Rattle.table.specs.Entries.{range_of, is_unsound, meets}

unfoldable pub clash_at : ℕ → Table → ℕ → ℕ → Bool
clash_at n t p i = (slot_entry n t p i).enabled && some (λ j. meets (range_of (slot_entry n t p i)) (slot_entry n t p j)) (i + 1) n

unfoldable pub lawful_part : ℕ → Table → ℕ → Bool
lawful_part n t p = not (some (λ s. is_unsound (slot_entry n t p s)) 0 n) && not (some (clash_at n t p) 0 n)

unfoldable pub lawful : ℕ → Table → Bool
lawful n t = every (lawful_part n t) 0 parts

pub record Lawful (n : ℕ) (t : Table) (p : ℕ) : Type 0 where
  pub sound : (s : ℕ) → s < n → (slot_entry n t p s).enabled ≡ true → region_no (slot_entry n t p s).base (slot_entry n t p s).size ≡ 0
  pub disjoint : (i j : ℕ) → i < j → j < n → (slot_entry n t p i).enabled ≡ true → (slot_entry n t p j).enabled ≡ true → overlaps (range_of (slot_entry n t p i)) (range_of (slot_entry n t p j)) ≡ false
