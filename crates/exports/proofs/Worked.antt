-- Worked by hand, words in and words out: of an MPU and accesses, of requests, of switches and of lists, each computed. Assumes nothing.
use mathlib.Core.Path.{◌≡◌, refl}
use mathlib.Core.List.{List, [], ◌∷◌, ◌++◌, map}
use Prim.Native.Nat.{ℕ, suc}
use lib.ListN.{replicate}
use Rattle.laws.specs.Listed.{listed}
use Rattle.laws.specs.Search.{first, lowest, highest}
use Rattle.laws.specs.Power.{log2, is_pow2}
use Rattle.region.specs.Sound.{soundness, region_no}
use Rattle.region.specs.Overlap.{overlaps}
use Rattle.region.specs.List.{pair_of, judged as list_judged}
use Rattle.device.specs.declared.Pair.{Pair}
use Rattle.device.specs.declared.Mpu.{Mpu}
use Rattle.device.specs.Registers.{allowed}
use Rattle.device.specs.RegisterWrite.{triple_refusals, triple_no, write_no, stored, write_register}
use Rattle.device.specs.Permission.{row_answer}
use Rattle.device.specs.Decision.{bad, matches, judged, decision}
use Rattle.table.specs.Table.{slot_entry}
use Rattle.table.specs.Lawful.{clash_at, lawful_part, lawful}
use Rattle.table.specs.Builder.{overlaps_any, first_free, full, refusals, builder_no, try_add}
use Rattle.sequence.specs.Sequence.{triple, slot_write, write_at, writes}
use Rattle.sequence.specs.Worked.{example}
use Rattle.switch.specs.declared.Switch.{Switch}
use Rattle.switch.specs.Switch.{start_no, started, stepped, steps, whole}
use Rattle.exports.specs.Words.{mpu_of, held_no, found_words, switch_word}
use Rattle.exports.specs.Many.{case_at, table_after, table_by, added_at, switch_after, switched_at, found_word_at}

-- ---- decisions, by the MPU of the paper's example under a control
abbrev held : ℕ → List ℕ
held c = 536870912 ∷ 50331667 ∷ 134217728 ∷ 100663327 ∷ (replicate 12 0 ++ (c ∷ []))

-- the paper's bytes: two written, one read, one written; then a privileged write beside the regions, the private bus, and a privileged write where it is read-only
abbrev asked : List ℕ
asked = 536871935 ∷ 1 ∷ 536871936 ∷ 1 ∷ 134217728 ∷ 0 ∷ 134217728 ∷ 1 ∷ 536871936 ∷ 3 ∷ 0xE000_0000 ∷ 0 ∷ 134217728 ∷ 3 ∷ []

-- the last one is beyond the end: a read of byte 0
cases_worked : map (λ c. listed (case_at (held c) asked) 0 8) (1 ∷ 5 ∷ 4 ∷ 2 ∷ [])
    ≡ (4 ∷ 5 ∷ 4 ∷ 5 ∷ 5 ∷ 1 ∷ 5 ∷ 5 ∷ [])
    ∷ (4 ∷ 5 ∷ 4 ∷ 5 ∷ 4 ∷ 1 ∷ 5 ∷ 5 ∷ [])
    ∷ (2 ∷ 2 ∷ 2 ∷ 2 ∷ 2 ∷ 1 ∷ 2 ∷ 2 ∷ [])
    ∷ (6 ∷ 6 ∷ 6 ∷ 6 ∷ 6 ∷ 6 ∷ 6 ∷ 6 ∷ [])
    ∷ []
unfolding decision judged bad matches lowest first highest allowed row_answer
cases_worked = refl

-- a slot with bits 15:8 not zero; and no words at all, so that the control is 0
undefined_worked : case_at (4096 ∷ 275 ∷ (replicate 14 0 ++ (1 ∷ []))) asked 0 ∷ case_at [] asked 0 ∷ [] ≡ 3 ∷ 2 ∷ []
unfolding decision judged bad matches lowest first highest allowed row_answer
undefined_worked = refl

numbers_worked : map (λ c. held_no (mpu_of (held c))) (0 ∷ 1 ∷ 2 ∷ 3 ∷ 4 ∷ 5 ∷ 6 ∷ []) ≡ 0 ∷ 0 ∷ 12 ∷ 12 ∷ 0 ∷ 0 ∷ 12 ∷ []
unfolding allowed
numbers_worked = refl

-- ---- requests: accepted, the same again, in another partition; then each of 1 to 5, and one beyond the end
abbrev requested : List ℕ
requested =
    (1 ∷ 536870912 ∷ 1024 ∷ 1 ∷ 1 ∷ 536870912 ∷ 1024 ∷ 1 ∷ 2 ∷ 536870912 ∷ 1024 ∷ 0 ∷ [])
    ++ (4 ∷ 0 ∷ 0 ∷ 0 ∷ 0 ∷ 0 ∷ 48 ∷ 0 ∷ 0 ∷ 0 ∷ 16 ∷ 0 ∷ 0 ∷ 32 ∷ 64 ∷ 0 ∷ 0 ∷ 0xFFFF_FFE0 ∷ 32 ∷ 0 ∷ [])

fills_worked : listed (λ i. (added_at requested i).no) 0 9 ≡ 0 ∷ 6 ∷ 0 ∷ 1 ∷ 2 ∷ 3 ∷ 4 ∷ 5 ∷ 2 ∷ []
unfolding table_after try_add builder_no refusals full first_free overlaps_any lawful lawful_part clash_at slot_entry soundness region_no overlaps is_pow2 log2 lowest first
fills_worked = refl

-- the paper's two requests, writable and read-only; three words left over are no request
abbrev two : List ℕ
two = 1 ∷ 536870912 ∷ 1024 ∷ 1 ∷ 1 ∷ 134217728 ∷ 65536 ∷ 0 ∷ []

table_worked : map table_by (two ∷ (two ++ (1 ∷ 0 ∷ 32 ∷ [])) ∷ []) ≡ example ∷ example ∷ []
unfolding table_after
table_worked = refl

-- ---- the words of a switch: numbered in the order in which they are told, and none more
abbrev numbered : Switch
numbered =
    let p : ℕ → ℕ → Pair = λ a b. record { rbar = a; rasr = b } in
    record {
      mpu = record { slots = p 1 2 ∷ p 3 4 ∷ p 5 6 ∷ p 7 8 ∷ p 9 10 ∷ p 11 12 ∷ p 13 14 ∷ p 15 16 ∷ []; control = 17 };
      writes = replicate 10 (triple 0 0 0);
      position = 99;
      log = triple 18 19 20 ∷ triple 21 22 23 ∷ triple 24 25 26 ∷ triple 27 28 29 ∷ triple 30 31 32 ∷ triple 33 34 35 ∷ triple 36 37 38 ∷ triple 39 40 41 ∷ triple 42 43 44 ∷ triple 45 46 47 ∷ [];
    }

words_worked : listed (switch_word numbered) 0 49 ≡ listed suc 0 47 ++ (0 ∷ 0 ∷ [])
unfolding switch_word
words_worked = refl

-- ---- switches from the empty table: what is received with control 5, then with control 2
abbrev received : ℕ → Mpu
received c = mpu_of (listed suc 0 16 ++ (c ∷ []))

switches_worked : map (λ c. listed (λ i. (switched_at (table_by []) (received c) (0 ∷ 4 ∷ []) i).no) 0 3) (5 ∷ 2 ∷ []) ≡ (0 ∷ 1 ∷ 0 ∷ []) ∷ (12 ∷ 1 ∷ 12 ∷ []) ∷ []
unfolding table_after switch_after whole steps started start_no stepped write_register write_no triple_no triple_refusals stored allowed writes write_at slot_write lawful lawful_part clash_at slot_entry lowest first
switches_worked = refl

-- after one, its MPU and log; after a refused one, the MPU that the first left and a log of zeros; where the first is refused, the MPU received
last_worked : listed (switch_word (switch_after (table_by []) (received 5) (0 ∷ 4 ∷ []) 1)) 17 30 ≡ 4294967295 ∷ 0 ∷ 0 ∷ 0 ∷ 0 ∷ 0 ∷ 1 ∷ 0 ∷ 0 ∷ 2 ∷ 0 ∷ 0 ∷ 3 ∷ 0 ∷ 0 ∷ 4 ∷ 0 ∷ 0 ∷ 5 ∷ 0 ∷ 0 ∷ 6 ∷ 0 ∷ 0 ∷ 7 ∷ 0 ∷ 0 ∷ 4294967295 ∷ 0 ∷ 1 ∷ []
unfolding switch_word table_after switch_after whole steps started start_no stepped write_register write_no triple_no triple_refusals stored allowed writes write_at slot_write lawful lawful_part clash_at slot_entry lowest first
last_worked = refl

kept_worked : map (λ c. listed (switch_word (switch_after (table_by []) (received c) (0 ∷ 4 ∷ []) 2)) 0 47) (5 ∷ 2 ∷ []) ≡ (replicate 16 0 ++ (1 ∷ replicate 30 0)) ∷ (listed suc 0 16 ++ (2 ∷ replicate 30 0)) ∷ []
unfolding switch_word table_after switch_after whole steps started start_no stepped write_register write_no triple_no triple_refusals stored allowed writes write_at slot_write lawful lawful_part clash_at slot_entry lowest first
kept_worked = refl

-- ---- eleven words have room for three answers; the two words left over stay
left_worked : found_words suc (replicate 11 70) ≡ listed suc 0 9 ++ (70 ∷ 70 ∷ [])
left_worked = refl

-- ---- lists of two records: valid; record 1 of a size that is no power of two; records 0 and 1 overlap; one record and a half; none
lists_worked : listed (found_word_at (0 ∷ 32 ∷ 9 ∷ 64 ∷ 32 ∷ 9 ∷ 0 ∷ 32 ∷ 9 ∷ 0 ∷ 48 ∷ 9 ∷ 0 ∷ 64 ∷ 9 ∷ 32 ∷ 32 ∷ 9 ∷ 0 ∷ 48 ∷ 9 ∷ 0 ∷ []) 2) 0 15 ≡ 0 ∷ 0 ∷ 0 ∷ 2 ∷ 1 ∷ 0 ∷ 6 ∷ 0 ∷ 1 ∷ 8 ∷ 0 ∷ 0 ∷ 8 ∷ 0 ∷ 0 ∷ []
unfolding list_judged pair_of soundness region_no overlaps is_pow2 log2 lowest first
lists_worked = refl
