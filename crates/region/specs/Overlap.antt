-- The overlap of two ranges.
--   overlaps a b       == b1 < b2 + s2 and b2 < b1 + s1, in whole numbers
--   passes a           == the range ends above 4294967295
--   overlap_answer a b == 5 and no where either range passes; else 0 beside whether they overlap
--   overlap_of r       == what the answer r says, in the same words
--   Inside x a         == the byte x lies in the range
use Rattle.std.specs.Prelude.{Result, Bool, false, ◌&&◌, ◌||◌, [], ◌∷◌, ℕ, ◌+◌, ◌≤◌, ◌<◌, ltb}
use Rattle.laws.specs.Pick.{pick}
use Rattle.laws.specs.Refuse.{◌⇒◌, refuse}
use Rattle.region.specs.declared.Range.{Range}
use Rattle.refusal.specs.declared.Refusal.{Refusal}
use Rattle.refusal.specs.Refusal.{no_of, value_or}
use Rattle.region.specs.Sound.{highest_end}

unfoldable pub overlaps : Range → Range → Bool
overlaps a b = ltb a.base (b.base + b.size) && ltb b.base (a.base + a.size)

abbrev pub passes : Range → Bool
passes a = ltb highest_end (a.base + a.size)

-- a yes or no beside a number
pub record Overlap : Type 0 where
  pub no : ℕ
  pub yes : Bool

unfoldable pub overlap_answer : Range → Range → Overlap
overlap_answer a b =
    record { no = refuse ((passes a || passes b ⇒ 5) ∷ []); yes = pick (passes a || passes b) false (overlaps a b) }

-- what an answer says in the paper's words: the number, and the yes or no, which is no where it is refused
abbrev pub overlap_of : Result Bool Refusal → Overlap
overlap_of r = record { no = no_of r; yes = value_or false r }

pub record Inside (x : ℕ) (a : Range) : Type 0 where
  pub from : a.base ≤ x
  pub below : x < a.base + a.size
