-- Worked by hand from the paper: the eight rows, bytes answered by small states, the bits of RASR that are read and those that are not, and register writes, each table under one claim that computes. Assumes nothing.
use mathlib.Core.Path.{◌≡◌, refl}
use mathlib.Core.Bool.{Bool, true, false}
use mathlib.Core.List.{List, [], ◌∷◌, ◌++◌, map}
use Prim.Native.Nat.{ℕ, ◌+◌, ◌*◌, ◌^◌}
use lib.ListN.{replicate}
use Rattle.laws.specs.Search.{first, lowest, highest}
use Rattle.laws.specs.Listed.{listed}
use Rattle.std.specs.Prelude.{Some, None, Result, Ok, Err}
use Rattle.refusal.specs.declared.Refusal.{Refusal as Why}
use Rattle.refusal.specs.declared.Refusal.TheVariants.{NoRegister, ValidBit, BadControl}
use Rattle.device.specs.declared.Pair.{Pair}
use Rattle.device.specs.declared.Mpu.{Mpu}
use Rattle.device.specs.declared.Kind.{Kind}
use Rattle.device.specs.declared.Kind.TheVariants.{Read, Write}
use Rattle.device.specs.declared.Answer.{Answer}
use Rattle.device.specs.declared.Answer.TheVariants.{Private, Unchecked, Undefined, Permitted, Denied}
use Rattle.device.specs.Registers.{slot_count, allowed}
use Rattle.device.specs.RegisterWrite.{triple_refusals, write_no, refused_no, written_of}
use Rattle.device.specs.Permission.{row_answer}
use Rattle.device.specs.Decision.{bad, matches, judged, decision, number_of, word_of}

-- ---- the rows: a privileged read and write, then an unprivileged read and write
answers : ℕ → List Answer
answers ap = row_answer ap true Read ∷ row_answer ap true Write ∷ row_answer ap false Read ∷ row_answer ap false Write ∷ []

rows_worked : map answers (0 ∷ 1 ∷ 2 ∷ 3 ∷ 4 ∷ 5 ∷ 6 ∷ 7 ∷ [])
    ≡ (Denied ∷ Denied ∷ Denied ∷ Denied ∷ [])
    ∷ (Permitted ∷ Permitted ∷ Denied ∷ Denied ∷ [])
    ∷ (Permitted ∷ Permitted ∷ Permitted ∷ Denied ∷ [])
    ∷ (Permitted ∷ Permitted ∷ Permitted ∷ Permitted ∷ [])
    ∷ (Undefined ∷ Undefined ∷ Undefined ∷ Undefined ∷ [])
    ∷ (Permitted ∷ Denied ∷ Denied ∷ Denied ∷ [])
    ∷ (Permitted ∷ Denied ∷ Permitted ∷ Denied ∷ [])
    ∷ (Undefined ∷ Undefined ∷ Undefined ∷ Undefined ∷ [])
    ∷ []
unfolding answers row_answer
rows_worked = refl

-- ---- bytes
-- a RASR that is enabled
abbrev entry : ℕ → ℕ → ℕ
entry size ap = 1 + 2 * size + 16777216 * ap

-- two slots, the other six zeros, under a control value
abbrev state : ℕ → Pair → Pair → Mpu
state c p q = record { slots = p ∷ q ∷ replicate 6 (record { rbar = 0; rasr = 0 }); control = c }

abbrev pair : ℕ → ℕ → Pair
pair base attr = record { rbar = base; rasr = attr }

-- partition 1 of the paper, under control c
abbrev worked : ℕ → Mpu
worked c = state c (pair 536870912 50331667) (pair 134217728 100663327)

record Case : Type 0 where
  held : Mpu
  address : ℕ
  kind : Kind
  privileged : Bool
  due : Result Answer Why

abbrev byte : Mpu → ℕ → Kind → Bool → Result Answer Why → Case
byte m x k p r = record { held = m; address = x; kind = k; privileged = p; due = r }

abbrev told : Case → Result Answer Why
told c = decision slot_count c.held (record { address = c.address; kind = c.kind; privileged = c.privileged })

abbrev cases : List Case
cases =
    -- the paper's own
    byte (worked 1) 536871935 Write false (Ok Permitted)
    ∷ byte (worked 1) 536871936 Write false (Ok Denied)
    ∷ byte (worked 1) 134217728 Read false (Ok Permitted)
    ∷ byte (worked 1) 134217728 Write true (Ok Denied)
    -- the private bus from its first byte to its last, and a byte beside each; a bad control before it
    ∷ byte (worked 1) 0xE000_0000 Write false (Ok Private)
    ∷ byte (worked 0) 0xE00F_FFFF Read true (Ok Private)
    ∷ byte (worked 5) 0xDFFF_FFFF Read false (Ok Denied)
    ∷ byte (worked 1) 0xE010_0000 Read false (Ok Denied)
    ∷ byte (worked 2) 0xE000_0000 Read true (Err BadControl)
    -- ENABLE, and the background
    ∷ byte (worked 4) 536871936 Write false (Ok Unchecked)
    ∷ byte (worked 5) 536871936 Write true (Ok Permitted)
    ∷ byte (worked 5) 536871936 Write false (Ok Denied)
    ∷ byte (worked 1) 536871936 Write true (Ok Denied)
    -- the highest matching slot, whichever way round
    ∷ byte (state 1 (pair 0 (entry 31 3)) (pair 4096 (entry 9 6))) 4096 Write true (Ok Denied)
    ∷ byte (state 1 (pair 0 (entry 31 3)) (pair 4096 (entry 9 6))) 5120 Write true (Ok Permitted)
    ∷ byte (state 1 (pair 4096 (entry 9 6)) (pair 0 (entry 31 3))) 4096 Write true (Ok Permitted)
    -- rule 3 wherever the slot lies, and not where it is disabled
    ∷ byte (state 1 (pair 64 (entry 3 3)) (pair 0 (entry 31 3))) 4096 Read true (Ok Undefined)
    ∷ byte (state 1 (pair 64 (entry 9 3 + 256)) (pair 0 (entry 31 3))) 4096 Read true (Ok Undefined)
    ∷ byte (state 1 (pair 64 6) (pair 0 (entry 31 3))) 4096 Read true (Ok Permitted)
    -- an undefined row counts where its slot decides
    ∷ byte (state 1 (pair 4096 (entry 9 4)) (pair 0 0)) 4096 Read true (Ok Undefined)
    ∷ byte (state 1 (pair 4096 (entry 9 7)) (pair 0 (entry 31 3))) 4096 Read true (Ok Permitted)
    -- RBAR is rounded down to its block; the last byte of all
    ∷ byte (state 1 (pair 4128 (entry 9 3)) (pair 0 0)) 4096 Read false (Ok Permitted)
    ∷ byte (state 1 (pair 4128 (entry 9 3)) (pair 0 0)) 5120 Read false (Ok Denied)
    ∷ byte (state 1 (pair 0xFFFF_FFE0 (entry 4 3)) (pair 0 0)) 0xFFFF_FFFF Read false (Ok Permitted)
    ∷ []

bytes_worked : map told cases ≡ map (λ (c : Case). c.due) cases
unfolding decision judged bad matches lowest first highest allowed row_answer
bytes_worked = refl

-- ---- bits: the paper's first entry with bit k of RASR set besides, asked to write its first byte
with_bit : ℕ → Result Answer Why
with_bit k = decision slot_count (state 1 (pair 536870912 (50331667 + 2 ^ k)) (pair 0 0)) (record { address = 536870912; kind = Write; privileged = false })

-- each of bits 15:8 makes it undefined
subregions_worked : listed with_bit 8 8 ≡ replicate 8 (Ok Undefined)
unfolding with_bit decision judged bad matches lowest first highest allowed row_answer
subregions_worked = refl

-- bits 7:6, 23:16 and 31:27 are ignored
ignored_worked : listed with_bit 6 2 ++ listed with_bit 16 8 ++ listed with_bit 27 5 ≡ replicate 15 (Ok Permitted)
unfolding with_bit decision judged bad matches lowest first highest allowed row_answer
ignored_worked = refl

-- ---- register writes: the held control, the triple, the number
abbrev refused : ℕ → ℕ → ℕ → ℕ → ℕ
refused c rnr rbar rasr = write_no slot_count (worked c) (record { rnr = rnr; rbar = rbar; rasr = rasr })

-- a slot; no register; RBAR bit 4 and the bits beside it; the control, and no register beside it; a bad control to come, and one that is held
writes_worked : refused 0 7 32 0 ∷ refused 1 8 0 0 ∷ refused 4 7 16 0 ∷ refused 4 0 15 0 ∷ refused 5 4294967295 16 4 ∷ refused 5 4294967294 0 4 ∷ refused 0 4294967295 0 2 ∷ refused 2 4294967295 0 0 ∷ refused 3 8 16 9 ∷ []
    ≡ 0 ∷ 10 ∷ 11 ∷ 0 ∷ 0 ∷ 10 ∷ 12 ∷ 12 ∷ 12 ∷ []
unfolding write_no triple_refusals allowed
writes_worked = refl

-- ---- what the code answers, in the paper's words
reasons_worked : map refused_no (None ∷ Some NoRegister ∷ Some ValidBit ∷ Some BadControl ∷ []) ≡ 0 ∷ 10 ∷ 11 ∷ 12 ∷ []
reasons_worked = refl

written_worked : (m : Mpu) → map written_of (Ok m ∷ Err (record { why = BadControl; held = m }) ∷ [])
    ≡ record { no = 0; mpu = m } ∷ record { no = 12; mpu = m } ∷ []
written_worked m = refl

-- ---- the numbers of the answers: only a refused one has one
numbers_worked : map number_of (Ok Private ∷ Ok Unchecked ∷ Ok Undefined ∷ Ok Permitted ∷ Ok Denied ∷ Err BadControl ∷ []) ≡ 0 ∷ 0 ∷ 0 ∷ 0 ∷ 0 ∷ 12 ∷ []
numbers_worked = refl

-- ---- the words, by their letters
words_worked : map word_of (Private ∷ Unchecked ∷ Undefined ∷ Permitted ∷ Denied ∷ [])
    ≡ (112 ∷ 114 ∷ 105 ∷ 118 ∷ 97 ∷ 116 ∷ 101 ∷ [])
    ∷ (117 ∷ 110 ∷ 99 ∷ 104 ∷ 101 ∷ 99 ∷ 107 ∷ 101 ∷ 100 ∷ [])
    ∷ (117 ∷ 110 ∷ 100 ∷ 101 ∷ 102 ∷ 105 ∷ 110 ∷ 101 ∷ 100 ∷ [])
    ∷ (112 ∷ 101 ∷ 114 ∷ 109 ∷ 105 ∷ 116 ∷ 116 ∷ 101 ∷ 100 ∷ [])
    ∷ (100 ∷ 101 ∷ 110 ∷ 105 ∷ 101 ∷ 100 ∷ [])
    ∷ []
words_worked = refl
