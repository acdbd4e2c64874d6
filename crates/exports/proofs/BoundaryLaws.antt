-- What a caller reads off the words: numbers and cases by literal, and each word by its place. By the definitions, and by the device's law on the held control.
-- Assumes nothing.
use mathlib.Core.Path.{◌≡◌, refl, sym, ◌∙◌, ap}
use mathlib.Core.Bool.{Bool, true, false, not}
use mathlib.Core.List.{List, [], ◌∷◌, map}
use Prim.Native.Nat.{ℕ, zero, suc, ◌+◌, ◌*◌, ◌/◌, ◌%◌, ◌≤◌, ◌<◌}
use native.Mathlib.Nat.{mul_assoc, zero-add}
use native.Mathlib.Omega.{arith}
use borrow.Author.Tests.{le-ltb, ne_eqb}
use lib.Dec.{eqb}
use lib.ListN.{length, get_or, drop, get_or-append, get_or-eq_default}
use lib.Seq.{get_or-take, get_or-drop, get_or-append-add}
use Rattle.std.specs.Prelude.{Ok, Err}
use Rattle.laws.specs.Pick.{pick}
use Rattle.laws.specs.Listed.{listed}
use Rattle.laws.proofs.ListedLaws.{length-listed, get_or-listed}
use Rattle.refusal.specs.declared.Refusal.{Refusal}
use Rattle.region.specs.List.{Judged, Valid, Short, Unsound, Pair, record_at}
use Rattle.device.specs.declared.Pair.{Pair as Slot}
use Rattle.device.specs.declared.Mpu.{Mpu}
use Rattle.device.specs.declared.Access.{Access}
use Rattle.device.specs.declared.Kind.TheVariants.{Read, Write}
use Rattle.device.specs.declared.Answer.TheVariants.{Private, Unchecked, Undefined, Permitted, Denied}
use Rattle.device.specs.Registers.{slot_count, allowed}
use Rattle.device.specs.Decision.{decision, decision_no, number_of}
use Rattle.device.proofs.ControlLaws.{Allowed, allowed_exactly}
use Rattle.device.proofs.RuleLaws.{refused_exactly}
use Rattle.device.proofs.NumberLaws.{in_numbers}
use Rattle.table.specs.declared.Table.{Table}
use Rattle.table.specs.Numbers.{slots}
use Rattle.table.specs.Table.{empty_table}
use Rattle.table.specs.Builder.{try_add}
use Rattle.switch.specs.declared.Switch.{Switch}
use Rattle.switch.specs.Switch.{whole}
use Rattle.exports.specs.Words.{word_at, mpu_of, access_at, held_no, case_no, request_at, list_at, found_word, found_words, switch_word}
use Rattle.exports.specs.Many.{case_at, table_after, table_by, added_at, switch_after, switched_at, found_at, found_word_at}
use Rattle.exports.proofs.ListAtLaws.{third}

-- ---- a word beyond the end is 0
word_beyond : (ws : List ℕ) (i : ℕ) → length ws ≤ i → word_at ws i ≡ 0
word_beyond ws i h = get_or-eq_default ws 0 h

-- ---- decisions
cases_told : (e : Refusal) → map case_no (Ok Private ∷ Ok Unchecked ∷ Ok Undefined ∷ Ok Permitted ∷ Ok Denied ∷ Err e ∷ []) ≡ 1 ∷ 2 ∷ 3 ∷ 4 ∷ 5 ∷ 6 ∷ []
cases_told e = refl

abbrev pair : ℕ → ℕ → Slot
pair a b = record { rbar = a; rasr = b }

mpu_words : (ws : List ℕ) → let w : ℕ → ℕ = λ k. get_or ws k 0 in mpu_of ws ≡ record { slots = pair (w 0) (w 1) ∷ pair (w 2) (w 3) ∷ pair (w 4) (w 5) ∷ pair (w 6) (w 7) ∷ pair (w 8) (w 9) ∷ pair (w 10) (w 11) ∷ pair (w 12) (w 13) ∷ pair (w 14) (w 15) ∷ []; control = w 16 }
mpu_words ws = refl

-- the held control is word 16: 0, 1, 4 or 5 gives the number 0; any other gives 12, and no case
decided_0 : (ms : List ℕ) → Allowed (get_or ms 16 0) → held_no (mpu_of ms) ≡ 0
decided_0 ms h = rw ((allowed_exactly (get_or ms 16 0)).1 h)

unallowed : (c : ℕ) → ¬ Allowed c → allowed c ≡ false
unallowed c h = by (allowed c) refl
  where
    by : (b : Bool) → allowed c ≡ b → allowed c ≡ false
    by true e = absurd (h ((allowed_exactly c).0 e))
    by false e = e

refused_12 : (ms : List ℕ) → ¬ Allowed (get_or ms 16 0) → (held_no (mpu_of ms) ≡ 12) × ((ws : List ℕ) (i : ℕ) → case_at ms ws i ≡ 6)
refused_12 ms h = let off = unallowed (get_or ms 16 0) h in (rw off, λ ws i. ap case_no ((refused_exactly slot_count (mpu_of ms) (access_at ws i)).1 off))

-- it is the number of each decision
held_each : (m : Mpu) (a : Access) → number_of (decision slot_count m a) ≡ held_no m
unfolding decision_no
held_each m a = (in_numbers slot_count m a refl).1 ∙ by (allowed m.control)
  where
    by : (b : Bool) → pick {X = ℕ} (not b) 12 0 ≡ pick b 0 12
    by true = refl
    by false = refl

-- ---- accesses: the lowest bit of the second word writes, the next one is privileged
access_words : (ws : List ℕ) (i : ℕ) → let how = get_or ws (2 * i + 1) 0 in access_at ws i ≡ record { address = get_or ws (2 * i) 0; kind = pick (eqb (how % 2) 1) Write Read; privileged = eqb (how / 2 % 2) 1 }
access_words ws i = refl

-- ---- requests
request_words : (ws : List ℕ) (i : ℕ) → request_at ws i ≡ record { base = get_or ws (4 * i + 1) 0; size = get_or ws (4 * i + 2) 0; writable = not (eqb (get_or ws (4 * i + 3) 0) 0) }
request_words ws i = refl

-- each number is that of one call of the builder, on the table that the call before left; the first is on the empty one
builds : Table → List ℕ → ℕ → ℕ → List ℕ
builds t ws i zero = []
builds t ws i (suc n) =
    let r = try_add slots t (get_or ws (4 * i) 0) (request_at ws i) in
    r.no ∷ builds r.table ws (suc i) n

builds_from : (ws : List ℕ) (i n : ℕ) → listed (λ k. (added_at ws k).no) i n ≡ builds (table_after ws i) ws i n
unfolding builds table_after
builds_from ws i zero = refl
builds_from ws i (suc n) = ap (λ (l : List ℕ). (added_at ws i).no ∷ l) (builds_from ws (suc i) n)

one_build_after_another : (ws : List ℕ) (n : ℕ) → listed (λ k. (added_at ws k).no) 0 n ≡ builds (empty_table slots) ws 0 n
unfolding table_after
one_build_after_another ws n = builds_from ws 0 n

-- a switch's table is the one after every request of four whole words
all_whole_requests : (ws : List ℕ) → table_by ws ≡ table_after ws (length ws / 4)
all_whole_requests ws = refl

-- ---- switches: each number is that of one whole switch, of the MPU that the one before left; the first is of the MPU received
switches : Table → Mpu → List ℕ → ℕ → ℕ → List ℕ
switches t m ps i zero = []
switches t m ps i (suc n) =
    let r = whole slots m t (get_or ps i 0) in
    r.no ∷ switches t r.switch.mpu ps (suc i) n

switches_from : (t : Table) (m : Mpu) (ps : List ℕ) (i n : ℕ) → listed (λ k. (switched_at t m ps k).no) i n ≡ switches t (switch_after t m ps i).mpu ps i n
unfolding switches switch_after
switches_from t m ps i zero = refl
switches_from t m ps i (suc n) = ap (λ (l : List ℕ). (switched_at t m ps i).no ∷ l) (switches_from t m ps (suc i) n)

one_switch_after_another : (t : Table) (m : Mpu) (ps : List ℕ) (n : ℕ) → listed (λ k. (switched_at t m ps k).no) 0 n ≡ switches t m ps 0 n
unfolding switch_after
one_switch_after_another t m ps n = switches_from t m ps 0 n

-- after the 47 words of a switch come zeros
switch_beyond : (s : Switch) (k : ℕ) → 47 ≤ k → switch_word s k ≡ 0
unfolding switch_word
switch_beyond s k h = rw (le-ltb k 16 (omega arith), ne_eqb k 16 (omega arith), le-ltb k 47 h)

-- ---- lists
-- the three words of each answer
found_words_lem : (i j k : ℕ) → map (λ (r : Judged). listed (found_word r) 0 3) (Valid ∷ Short ∷ Unsound i k ∷ Pair i j ∷ []) ≡ (0 ∷ 0 ∷ 0 ∷ []) ∷ (8 ∷ 0 ∷ 0 ∷ []) ∷ (k ∷ i ∷ 0 ∷ []) ∷ (6 ∷ i ∷ j ∷ []) ∷ []
found_words_lem i j k = refl

-- word m of answer i stands at 3 i + m
found_place : (ws : List ℕ) (n i m : ℕ) → m < 3 → found_word_at ws n (3 * i + m) ≡ found_word (found_at ws n i) m
found_place ws n i m h = sym (third (λ k x. found_word (found_at ws n k) x) i m (3 * i + m) h refl)

-- record r of list i is record n i + r of the words
record_place : (ws : List ℕ) (n i r : ℕ) → r < n → record_at (list_at ws n i) r ≡ record { base = get_or ws (3 * (n * i + r)) 0; size = get_or ws (3 * (n * i + r) + 1) 0 }
record_place ws n i r h =
    let all : 3 * n * i ≡ 3 * (n * i) = mul_assoc 3 n i in
    let base : 3 * n * i + 3 * r ≡ 3 * (n * i + r) = omega arith in
    let size : 3 * n * i + (3 * r + 1) ≡ 3 * (n * i + r) + 1 = omega arith in
    let part = drop (3 * n * i) ws in
    λ k. record {
      base = (get_or-take (3 * n) part (3 * r) 0 (omega arith) ∙ get_or-drop (3 * n * i) ws (3 * r) 0 ∙ ap (λ (x : ℕ). get_or ws x 0) base) k;
      size = (get_or-take (3 * n) part (3 * r + 1) 0 (omega arith) ∙ get_or-drop (3 * n * i) ws (3 * r + 1) 0 ∙ ap (λ (x : ℕ). get_or ws x 0) size) k;
    }

-- every whole three words get an answer; the words left over stay
module _ (f : ℕ → ℕ) (d : List ℕ) where
  answered : (k : ℕ) → k < 3 * (length d / 3) → get_or (found_words f d) k 0 ≡ f k
  answered k h =
      let n = 3 * (length d / 3) in
      get_or-append (listed f 0 n) (drop n d) 0 k (rw (length-listed f 0 n) h) ∙ get_or-listed f 0 n k 0 h ∙ ap f (zero-add k)

  left_over : (m : ℕ) → let n = 3 * (length d / 3) in get_or (found_words f d) (n + m) 0 ≡ get_or d (n + m) 0
  left_over m =
      let n = 3 * (length d / 3) in
      ap (λ (x : ℕ). get_or (found_words f d) (x + m) 0) (sym (length-listed f 0 n)) ∙ get_or-append-add (listed f 0 n) (drop n d) m 0 ∙ get_or-drop n d m 0
