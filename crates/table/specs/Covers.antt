-- Covering. It needs no lawful table.
--   Has e a              == the entry is enabled, and base <= a < base + size, as facts
--   covers n t p a       == some enabled entry of the partition has the byte a
--   cover_answer n t p a == 1 and no for a partition above 3; else 0 beside whether a is covered
--   covered_of r         == the same, of the code's answer
use Rattle.std.specs.Prelude.{◌≡◌, Bool, true, false, not, [], ◌∷◌, ℕ, Result, ◌+◌, ◌≤◌, ◌<◌, ltb}
use Rattle.laws.specs.Pick.{pick}
use Rattle.laws.specs.Refuse.{◌⇒◌, refuse}
use Rattle.laws.specs.Search.{some}
use Rattle.refusal.specs.declared.Refusal.{Refusal}
use Rattle.refusal.specs.Refusal.{no_of, value_or}
use Rattle.table.specs.declared.Table.{Table}
use Rattle.table.specs.declared.Entry.{Entry}
use Rattle.table.specs.Numbers.{parts}
use Rattle.table.specs.Table.{slot_entry}
use Rattle.table.specs.Entries.{covers_byte}

-- whether a byte is covered, beside a refusal's number
pub record Covered : Type 0 where
  pub no : ℕ
  pub yes : Bool

abbrev pub covered_of : Result Bool Refusal → Covered
covered_of r = record { no = no_of r; yes = value_or false r }

-- a partition above 3
abbrev pub beyond : ℕ → Bool
beyond p = not (ltb p parts)

unfoldable pub covers : ℕ → Table → ℕ → ℕ → Bool
covers n t p a = some (λ s. covers_byte a (slot_entry n t p s)) 0 n

unfoldable pub cover_answer : ℕ → Table → ℕ → ℕ → Covered
cover_answer n t p a = record { no = refuse ((beyond p ⇒ 1) ∷ []); yes = pick (beyond p) false (covers n t p a) }

pub record Has (e : Entry) (a : ℕ) : Type 0 where
  pub on : e.enabled ≡ true
  pub from : e.base ≤ a
  pub below : a < e.base + e.size
