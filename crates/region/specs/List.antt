-- A region list: records of three words, base, size and attr; attr is never read. The first `count` are judged.
--   record_at ws i       == record i of the words ws
--   range_in r           == the range of one record, given as its words
--   range_at rs i        == range i of a list of ranges
--   culprit at n         == the lowest unsound record of n, `at` giving each
--   pair_of at n         == the first pair of n that overlaps, or that there is none
--   judged at have n     == what is found of n records, `at` giving each, where there are `have` of them
--   unsound_of at n      == the lowest unsound record of n, or that there is none
--   number_of, places_of == the number of the paper for an answer, and the indices that it names
--   judged_by r          == what the answer r of a list check says
--   pair_found r         == what the answer r of the search for a pair says
--   fault_no e           == the number of the paper for a fault
--   list_no, list_places == the number that is due, in the order of the paper, and the indices
--   AllSound, Apart      == each of n records is sound; no two overlap
--   First at n i j       == i and j are the first pair that overlaps
--   Says at have n r     == what the answer r says of the list, as facts
use Rattle.std.specs.Prelude.{◌≡◌, Option, Some, None, Result, Ok, Err, Bool, false, not, List, [], ◌∷◌, ℕ, ◌+◌, ◌*◌, ◌/◌, ◌≤◌, ◌<◌, ltb, eqb, length, get_or}
use Rattle.laws.specs.Pick.{pick}
use Rattle.laws.specs.Refuse.{◌⇒◌, refuse}
use Rattle.laws.specs.Search.{lowest, some, paired, pair_low, pair_high, FirstPair}
use Rattle.region.specs.declared.Range.{Range}
use Rattle.refusal.specs.Refusal.{number}
use Rattle.region.specs.declared.Fault.{Fault}
use Rattle.region.specs.declared.Fault.TheVariants as fault
use Rattle.region.specs.Sound.{region_no}
use Rattle.region.specs.Overlap.{overlaps}

abbrev pub words_each : ℕ
words_each = 3

abbrev pub record_at : List ℕ → ℕ → Range
record_at ws i = record { base = get_or ws (words_each * i) 0; size = get_or ws (words_each * i + 1) 0 }

-- one record, given as its words
abbrev pub range_in : List ℕ → Range
range_in r = record { base = get_or r 0 0; size = get_or r 1 0 }

-- range i of a list of ranges
abbrev pub range_at : List Range → ℕ → Range
range_at rs i = get_or rs i (record { base = 0; size = 0 })

abbrev pub number_at : (ℕ → Range) → ℕ → ℕ
number_at at i = region_no (at i).base (at i).size

abbrev pub unsound : (ℕ → Range) → ℕ → Bool
unsound at i = not (eqb (number_at at i) 0)

abbrev pub meeting : (ℕ → Range) → ℕ → ℕ → Bool
meeting at i j = overlaps (at i) (at j)

-- what a list is found to be: the count is beyond the records, the lowest unsound record with its number, the first pair that overlaps, or valid
pub data Judged : Type 0 where
  Valid : Judged
  Short : Judged
  Unsound : ℕ → ℕ → Judged
  Pair : ℕ → ℕ → Judged

-- the lowest unsound record
abbrev pub culprit : (ℕ → Range) → ℕ → ℕ
culprit at n = lowest (unsound at) 0 n

unfoldable pub unsound_of : (ℕ → Range) → ℕ → Judged
unsound_of at n = pick (some (unsound at) 0 n) (Unsound (culprit at n) (number_at at (culprit at n))) Valid

-- all records being sound: the first pair that overlaps, or none
unfoldable pub pair_of : (ℕ → Range) → ℕ → Judged
pair_of at n = pick (some (paired (meeting at) n) 0 n) (Pair (pair_low (meeting at) n) (pair_high (meeting at) n)) Valid

unfoldable pub judged : (ℕ → Range) → ℕ → ℕ → Judged
judged at have n =
    pick (ltb have n) Short
    (pick (some (unsound at) 0 n) (Unsound (culprit at n) (number_at at (culprit at n))) (pair_of at n))

-- how many whole records the words hold
abbrev pub records : List ℕ → ℕ
records ws = length ws / words_each

-- ---- the same in the numbers of the paper: 8 before any region is read, then the lowest unsound record's, then 6
unfoldable pub list_no : (ℕ → Range) → ℕ → ℕ → ℕ
list_no at have n =
    refuse
    ((ltb have n ⇒ 8) ∷ (some (unsound at) 0 n ⇒ number_at at (culprit at n)) ∷ (some (paired (meeting at) n) 0 n ⇒ 6) ∷ [])

unfoldable pub list_places : (ℕ → Range) → ℕ → ℕ → List ℕ
list_places at have n =
    pick (ltb have n) []
    (pick (some (unsound at) 0 n) (culprit at n ∷ [])
    (pick (some (paired (meeting at) n) 0 n) (pair_low (meeting at) n ∷ pair_high (meeting at) n ∷ []) []))

abbrev pub number_of : Judged → ℕ
number_of Valid = 0
number_of Short = 8
number_of (Unsound at k) = k
number_of (Pair i j) = 6

abbrev pub places_of : Judged → List ℕ
places_of Valid = []
places_of Short = []
places_of (Unsound at k) = at ∷ []
places_of (Pair i j) = i ∷ j ∷ []

-- ---- what the code's answers say
abbrev pub fault_no : Fault → ℕ
fault_no fault.Short = 8
fault_no (fault.Unsound at why) = number why
fault_no (fault.Pair i j) = 6

abbrev pub judged_by : {X : Type 0} → Result X Fault → Judged
judged_by (Ok x) = Valid
judged_by (Err fault.Short) = Short
judged_by (Err (fault.Unsound at why)) = Unsound at (number why)
judged_by (Err (fault.Pair i j)) = Pair i j

abbrev pub pair_found : Option (ℕ × ℕ) → Judged
pair_found None = Valid
pair_found (Some p) = Pair p.0 p.1

-- ---- what an answer says
abbrev pub AllSound : (ℕ → Range) → ℕ → Type 0
AllSound at n = (i : ℕ) → i < n → region_no (at i).base (at i).size ≡ 0

abbrev pub Apart : (ℕ → Range) → ℕ → Type 0
Apart at n = (i j : ℕ) → i < j → j < n → overlaps (at i) (at j) ≡ false

-- i < j overlap; no pair has a lower first record, and none of i a lower second
abbrev pub First : (ℕ → Range) → ℕ → ℕ → ℕ → Type 0
First at n i j = FirstPair (meeting at) n i j

abbrev pub Says : (ℕ → Range) → ℕ → ℕ → Judged → Type 0
Says at have n Valid = (n ≤ have) × AllSound at n × Apart at n
Says at have n Short = have < n
Says at have n (Unsound i k) = (n ≤ have) × AllSound at i × (i < n) × (region_no (at i).base (at i).size ≡ k) × ¬ (k ≡ 0)
Says at have n (Pair i j) = (n ≤ have) × AllSound at n × First at n i j
