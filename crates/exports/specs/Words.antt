-- What words say, to the exported routines and from them.
--   word_at ws i    == word i; 0 beyond the end
--   mpu_of ws       == the MPU of 17 words: eight pairs (pair_at ws i: RBAR, then RASR), then the control
--   access_at ws i  == access i, of 2 words: the address, then 1 for a write (kind_of), with 2 more where it is privileged
--   request_at ws i == request i, of 4 words: the partition (part_at ws i), base, size, and 0 for read-only
--   list_at ws n i  == list i, where each has n records of 3 words
--   end_of len at n == where n words that begin at a place end: there, or with the words
--   held_no m       == the number of every decision of an MPU: 12 where its control is not 0, 1, 4 or 5
--   case_no a       == the case of an answer: 1 private bus, 2 unchecked, 3 undefined, 4 permitted, 5 denied; 6, for none, where it is refused
--   found_word j k  == word k of a list's answer, of 3 words: the number of the paper, then the places that it names; 0 where there is none
--   found_words f d == the words d with an answer, by f, in each three that are whole
--   switch_word s k == word k of a switch, of 47 words: its MPU's 17, then for each write of its log 3 (write_word w k: register, RBAR, RASR); 0 beyond
use Rattle.std.specs.Prelude.{not, Result, Ok, Err, List, ◌∷◌, ◌++◌, ℕ, ◌+◌, ◌*◌, ◌-◌, ◌/◌, ◌%◌, ltb, eqb, length, get_or, take, drop}
use Rattle.laws.specs.Pick.{pick}
use Rattle.laws.specs.Listed.{listed}
use Rattle.refusal.specs.declared.Refusal.{Refusal}
use Rattle.region.specs.List.{Judged, words_each, number_of, places_of}
use Rattle.device.specs.declared.Pair.{Pair as Slot}
use Rattle.device.specs.declared.Mpu.{Mpu}
use Rattle.device.specs.declared.Write.{Write}
use Rattle.device.specs.declared.Kind.{Kind}
use Rattle.device.specs.declared.Kind.TheVariants.{Read, Write as Writing}
use Rattle.device.specs.declared.Access.{Access}
use Rattle.device.specs.declared.Answer.{Answer}
use Rattle.device.specs.declared.Answer.TheVariants.{Private, Unchecked, Undefined, Permitted, Denied}
use Rattle.device.specs.Registers.{slot_count, slot_at, allowed}
use Rattle.table.specs.declared.Request.{Request}
use Rattle.sequence.specs.Sequence.{triple}
use Rattle.switch.specs.declared.Switch.{Switch}

abbrev pub word_at : List ℕ → ℕ → ℕ
word_at ws i = get_or ws i 0

abbrev pub pair_at : List ℕ → ℕ → Slot
pair_at ws i = record { rbar = word_at ws (2 * i); rasr = word_at ws (2 * i + 1) }

abbrev pub mpu_of : List ℕ → Mpu
mpu_of ws = record { slots = listed (pair_at ws) 0 slot_count; control = word_at ws 16 }

abbrev pub kind_of : ℕ → Kind
kind_of h = pick (eqb (h % 2) 1) Writing Read

abbrev pub access_at : List ℕ → ℕ → Access
access_at ws i =
    record { address = word_at ws (2 * i); kind = kind_of (word_at ws (2 * i + 1)); privileged = eqb (word_at ws (2 * i + 1) / 2 % 2) 1 }

abbrev pub held_no : Mpu → ℕ
held_no m = pick (allowed m.control) 0 12

abbrev pub case_no : Result Answer Refusal → ℕ
case_no (Ok Private) = 1
case_no (Ok Unchecked) = 2
case_no (Ok Undefined) = 3
case_no (Ok Permitted) = 4
case_no (Ok Denied) = 5
case_no (Err e) = 6

abbrev pub part_at : List ℕ → ℕ → ℕ
part_at ws i = word_at ws (4 * i)

abbrev pub request_at : List ℕ → ℕ → Request
request_at ws i =
    record { base = word_at ws (4 * i + 1); size = word_at ws (4 * i + 2); writable = not (eqb (word_at ws (4 * i + 3)) 0) }

abbrev pub list_at : List ℕ → ℕ → ℕ → List ℕ
list_at ws n i = take (words_each * n) (drop (words_each * n * i) ws)

abbrev pub end_of : ℕ → ℕ → ℕ → ℕ
end_of len at n = pick (ltb (len - at) n) len (at + n)

abbrev pub found_word : Judged → ℕ → ℕ
found_word j k = get_or (number_of j ∷ places_of j) k 0

abbrev pub found_words : (ℕ → ℕ) → List ℕ → List ℕ
found_words f d = let n = 3 * (length d / 3) in listed f 0 n ++ drop n d

abbrev pub write_word : Write → ℕ → ℕ
write_word w k = pick (eqb k 0) w.rnr (pick (eqb k 1) w.rbar w.rasr)

unfoldable pub switch_word : Switch → ℕ → ℕ
switch_word s k =
    pick (ltb k 16) (pick (eqb (k % 2) 0) (slot_at s.mpu.slots (k / 2)).rbar (slot_at s.mpu.slots (k / 2)).rasr)
    (pick (eqb k 16) s.mpu.control
    (pick (ltb k 47) (write_word (get_or s.log ((k - 17) / 3) (triple 0 0 0)) ((k - 17) % 3)) 0))
