-- The requests of the paper on the builder, worked by hand: a history of requests from the empty table, and the number due for each.
--   run t rs              == the numbers that the builder gives, one request after the other
--   cases                 == the histories of the paper
--   the tables at the end == made by hand, as no builder would
use Rattle.std.specs.Prelude.{Bool, true, false, List, [], ◌∷◌, ◌++◌, ℕ}
use Rattle.table.specs.declared.Table.{Table}
use Rattle.table.specs.declared.Entry.{Entry}
use Rattle.table.specs.declared.Request.{Request}
use Rattle.table.specs.Numbers.{slots, flat_index}
use Rattle.table.specs.Table.{with_entry, empty_table}
use Rattle.table.specs.Builder.{try_add}

pub record Step : Type 0 where
  pub part : ℕ
  pub asked : Request
  pub due : ℕ

abbrev step : ℕ → ℕ → ℕ → ℕ → Step
step p b s k = record { part = p; asked = record { base = b; size = s; writable = true }; due = k }

abbrev pub run : Table → List Step → List ℕ
run t [] = []
run t (x ∷ xs) = let r = try_add slots t x.part x.asked in r.no ∷ run r.table xs

abbrev pub dues : List Step → List ℕ
dues [] = []
dues (x ∷ xs) = x.due ∷ dues xs

-- partition 1 full of 32 bytes each; then an overlapping request, and a disjoint one
abbrev pub filled : List Step
filled = step 1 0 32 0 ∷ step 1 32 32 0 ∷ step 1 64 32 0 ∷ step 1 96 32 0 ∷ step 1 128 32 0 ∷ step 1 160 32 0 ∷ step 1 192 32 0 ∷ step 1 224 32 0 ∷ []

abbrev pub cases : List (List Step)
cases =
    (filled ++ (step 1 128 64 6 ∷ step 1 1024 1024 7 ∷ step 2 1024 1024 0 ∷ []))
    ∷ (step 0 1024 1024 0 ∷ step 0 1024 1024 6 ∷ step 3 1024 1024 0 ∷ [])
    ∷ (step 4 0 0 1 ∷ step 0 0 0 2 ∷ [])
    ∷ (step 0 0 2147483648 0 ∷ step 0 2147483648 2147483648 5 ∷ step 0 0xFFFF_FFE0 32 5 ∷ step 0 0xFFFF_FFC0 32 0 ∷ [])
    ∷ []

-- ---- tables by hand
abbrev entry : ℕ → ℕ → Bool → Entry
entry b s on = record { base = b; size = s; enabled = on; writable = false }

-- unlawful in partition 2, by an unsound entry
abbrev pub unsound_table : Table
unsound_table = with_entry (empty_table slots) (flat_index slots 2 5) (entry 0 48 true)

-- unlawful in partition 3, by an overlap
abbrev pub clashing_table : Table
clashing_table = with_entry (with_entry (empty_table slots) (flat_index slots 3 0) (entry 0 64 true)) (flat_index slots 3 7) (entry 32 32 true)

-- lawful: what is not enabled may be rubbish
abbrev pub rubbish_table : Table
rubbish_table = with_entry (with_entry (empty_table slots) (flat_index slots 0 3) (entry 7 48 false)) (flat_index slots 0 4) (entry 7 48 false)

-- an enabled entry that runs past the top, and one of no bytes at 47
abbrev pub top_table : Table
top_table = with_entry (with_entry (empty_table slots) (flat_index slots 0 0) (entry 0xFFFF_FFF0 64 true)) (flat_index slots 0 1) (entry 47 0 true)

-- slots 0 and 2 of partition 2 enabled, and slot 1 between them not
abbrev pub holed_table : Table
holed_table = with_entry (with_entry (empty_table slots) (flat_index slots 2 0) (entry 0 32 true)) (flat_index slots 2 2) (entry 64 32 true)

-- the table after a history
abbrev pub after : Table → List Step → Table
after t [] = t
after t (x ∷ xs) = after (try_add slots t x.part x.asked).table xs
