-- The requests of the paper on one region, worked by hand: base, size, and the number due. Below them, regions that every such chip has, which the
-- source's `lemma_common_regions_valid` only named: flash and memory of the usual sizes, the peripherals, the smallest region.
-- Then two ranges each, with the number and the yes or no due; and lists of words, with a count, the number due and the places that it names.
use Rattle.std.specs.Prelude.{Bool, true, false, List, [], ◌∷◌, ℕ}
use Rattle.region.specs.declared.Range.{Range}

pub record Case : Type 0 where
  pub base : ℕ
  pub size : ℕ
  pub due : ℕ

abbrev region : ℕ → ℕ → ℕ → Case
region b s k = record { base = b; size = s; due = k }

abbrev pub cases : List Case
cases =
    region 0xFFFF_FFC0 32 0
    ∷ region 0xFFFF_FFE0 32 5
    ∷ region 0 2147483648 0
    ∷ region 2147483648 2147483648 5
    ∷ region 0 0 2
    ∷ region 0 16 3
    ∷ region 0 48 2
    ∷ region 32 64 4
    ∷ []

abbrev pub common : List Case
common =
    region 0x0800_0000 65536 0
    ∷ region 0x0800_0000 1048576 0
    ∷ region 0x2000_0000 1024 0
    ∷ region 0x2000_0000 131072 0
    ∷ region 0x4000_0000 536870912 0
    ∷ region 0 32 0
    ∷ []

-- ---- two ranges
pub record Two : Type 0 where
  pub a : Range
  pub b : Range
  pub no : ℕ
  pub yes : Bool

abbrev two : ℕ → ℕ → ℕ → ℕ → ℕ → Bool → Two
two b s c t k y = record { a = record { base = b; size = s }; b = record { base = c; size = t }; no = k; yes = y }

abbrev pub ranges : List Two
ranges =
    -- 0 + 4294967295 passes nothing, 1 + 4294967295 does, on either side
    two 0 4294967295 7 1 0 true
    ∷ two 1 4294967295 7 1 5 false
    ∷ two 7 1 0 4294967295 0 true
    ∷ two 7 1 1 4294967295 5 false
    ∷ two 0xFFFF_FFE0 31 0xFFFF_FFFE 1 0 true
    ∷ two 0xFFFF_FFE0 32 0xFFFF_FFFE 1 5 false
    ∷ two 4294967295 4294967295 4294967295 4294967295 5 false
    -- touching; one byte in both; any size is no refusal
    ∷ two 0 32 32 32 0 false
    ∷ two 0 33 32 32 0 true
    ∷ two 32 48 0 32 0 false
    ∷ two 31 3 0 32 0 true
    -- a range with no byte: strictly inside, on either edge, at the place of another
    ∷ two 0 32 16 0 0 true
    ∷ two 0 32 0 0 0 false
    ∷ two 32 0 0 32 0 false
    ∷ two 16 0 16 0 0 false
    ∷ []

-- ---- lists
pub record Asked : Type 0 where
  pub words : List ℕ
  pub count : ℕ
  pub no : ℕ
  pub places : List ℕ

abbrev list : List ℕ → ℕ → ℕ → List ℕ → Asked
list ws n k is = record { words = ws; count = n; no = k; places = is }

abbrev pub lists : List Asked
lists =
    -- none judged; past the count lies what is not read
    list [] 0 0 []
    ∷ list (0 ∷ 32 ∷ 9 ∷ 32 ∷ 32 ∷ 9 ∷ 0 ∷ 0 ∷ 0 ∷ []) 2 0 []
    -- 8: count 2 over one record, sound or not, and over five words
    ∷ list (0 ∷ 32 ∷ 9 ∷ []) 2 8 []
    ∷ list (0 ∷ 0 ∷ 9 ∷ []) 2 8 []
    ∷ list (0 ∷ 32 ∷ 9 ∷ 32 ∷ 32 ∷ []) 2 8 []
    -- the lowest unsound record with its own number, also where an earlier pair overlaps
    ∷ list (0 ∷ 48 ∷ 9 ∷ []) 1 2 (0 ∷ [])
    ∷ list (0 ∷ 64 ∷ 9 ∷ 32 ∷ 32 ∷ 9 ∷ 0 ∷ 16 ∷ 9 ∷ 0 ∷ 0 ∷ 9 ∷ []) 4 3 (2 ∷ [])
    ∷ list (0 ∷ 32 ∷ 9 ∷ 32 ∷ 64 ∷ 9 ∷ []) 2 4 (1 ∷ [])
    ∷ list (0 ∷ 32 ∷ 9 ∷ 32 ∷ 32 ∷ 9 ∷ 64 ∷ 64 ∷ 9 ∷ 0xFFFF_FFE0 ∷ 32 ∷ 9 ∷ []) 4 5 (3 ∷ [])
    -- the first pair: lowest i, then lowest j
    ∷ list (0 ∷ 32 ∷ 9 ∷ 64 ∷ 32 ∷ 9 ∷ 64 ∷ 64 ∷ 9 ∷ []) 3 6 (1 ∷ 2 ∷ [])
    ∷ list (0 ∷ 64 ∷ 9 ∷ 128 ∷ 32 ∷ 9 ∷ 128 ∷ 32 ∷ 9 ∷ 32 ∷ 32 ∷ 9 ∷ []) 4 6 (0 ∷ 3 ∷ [])
    ∷ list (0 ∷ 64 ∷ 9 ∷ 0 ∷ 32 ∷ 9 ∷ 32 ∷ 32 ∷ 9 ∷ []) 3 6 (0 ∷ 1 ∷ [])
    ∷ []
