-- The starred requests of the paper as one table: what the rules give, and what is due. Each crate below has its part of it.
--   Case    == a number that the rules give, beside the one that is due
--   starred == one region, the values of RASR, and the builder's histories, in this order
use Rattle.std.specs.Prelude.{List, [], ◌∷◌, ◌++◌, map, ℕ}
use Rattle.region.specs.Sound.{region_no}
use Rattle.region.specs.Worked as region
use Rattle.fields.specs.Fields.{rasr_answer}
use Rattle.fields.specs.Worked as fields
use Rattle.table.specs.declared.Table.{Table}
use Rattle.table.specs.Numbers.{slots}
use Rattle.table.specs.Table.{empty_table}
use Rattle.table.specs.Builder.{try_add}
use Rattle.table.specs.Worked as table

pub record Case : Type 0 where
  pub got : ℕ
  pub due : ℕ

abbrev pub of_region : region.Case → Case
of_region c = record { got = region_no c.base c.size; due = c.due }

abbrev pub of_fields : fields.Case → Case
of_fields c = record { got = (rasr_answer c.encoded).value; due = c.due }

-- one request after the other, each from the table that the one before it left
abbrev pub of_history : Table → List table.Step → List Case
of_history t [] = []
of_history t (x ∷ xs) = let r = try_add slots t x.part x.asked in record { got = r.no; due = x.due } ∷ of_history r.table xs

abbrev pub of_histories : List (List table.Step) → List Case
of_histories [] = []
of_histories (h ∷ hs) = of_history (empty_table slots) h ++ of_histories hs

abbrev pub starred : List Case
starred = map of_region region.cases ++ map of_fields fields.cases ++ of_histories table.cases
