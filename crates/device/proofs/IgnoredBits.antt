-- Bits that are ignored are ignored, and so are all bits of a slot that is not enabled. An enabled slot that is not bad has SIZE 4 or more, so that
-- its block is made of blocks of 32 bytes, and the quotient of RBAR by 32 says where it lies. So both searches come out alike in two states that
-- agree on the bits that matter. Assumes nothing.
use mathlib.Core.Path.{◌≡◌, refl, sym, ◌∙◌}
use mathlib.Core.Bool.{Bool, true, false, true≢false}
use mathlib.Core.Logic.{inl}
use Prim.Native.Nat.{ℕ, zero, suc, ◌+◌, ◌-◌, ◌/◌, ◌%◌, ◌^◌, ◌≤◌, ◌<◌, zero-le}
use native.Mathlib.Omega.{arith}
use borrow.Author.Tests.{ltb-true, ltb-false, eqb-true, ne_eqb}
use lib.Dec.{ltb, eqb}
use lib.Pow.{shr-shr}
use Rattle.laws.specs.Pick.{pick}
use Rattle.laws.specs.Search.{some, Greatest}
use Rattle.laws.proofs.SearchLaws.{highest_greatest, none_exactly, some_same, highest_same}
use Rattle.device.specs.declared.Pair.{Pair}
use Rattle.device.specs.declared.Mpu.{Mpu}
use Rattle.device.specs.declared.Access.{Access}
use Rattle.device.specs.declared.Answer.TheVariants.{Undefined}
use Rattle.device.specs.Registers.{slot_at, enabled, size_field, ap_field}
use Rattle.device.specs.Permission.{row_answer}
use Rattle.device.specs.Decision.{least_size, bad, bad_at, matches, matches_at, deciding, unmatched, judged, decision}
use Rattle.device.proofs.BlockLaws.{matches_exactly}
use Rattle.device.proofs.JudgedLaws.{bad_exactly}

-- the bits of an enabled slot that matter: RASR 5:1, 15:8 and 26:24, RBAR 31:5
pub record Agree (p q : Pair) : Type 0 where
  pub size : p.rasr / 2 % 32 ≡ q.rasr / 2 % 32
  pub subregion : p.rasr / 256 % 256 ≡ q.rasr / 256 % 256
  pub ap : p.rasr / 16777216 % 8 ≡ q.rasr / 16777216 % 8
  pub base : p.rbar / 32 ≡ q.rbar / 32

-- RASR bit 0 agrees, and the other bits where it is set
pub record Alike (p q : Pair) : Type 0 where
  pub enable : p.rasr % 2 ≡ q.rasr % 2
  pub fields : p.rasr % 2 ≡ 1 → Agree p q

module _ {p q : Pair} (s : Alike p q) where
  bad_alike : bad p ≡ bad q
  unfolding bad
  bad_alike = by (enabled p) refl
    where
      by : (b : Bool) → enabled p ≡ b → bad p ≡ bad q
      by true e = let f = s.fields (eqb-true _ _ e) in rw (← s.enable, f.size, f.subregion)
      by false e = rw (← s.enable, e)

  matches_alike : (x : ℕ) → bad p ≡ false → matches x p ≡ matches x q
  unfolding matches
  matches_alike x sound = by (enabled p) (ltb (size_field p) least_size) refl refl
    where
      -- by 32 first, then by the rest
      part : (r : ℕ) → least_size ≤ size_field p → r / 2 ^ (size_field p + 1) ≡ r / 32 / 2 ^ (size_field p - 4)
      part r h = let e : size_field p + 1 ≡ 5 + (size_field p - 4) = omega arith in rw e (sym (shr-shr r 5 (size_field p - 4)))

      by : (b l : Bool) → enabled p ≡ b → ltb (size_field p) least_size ≡ l → matches x p ≡ matches x q
      by false l e f = rw (← s.enable, e)
      by true true e f = absurd (true≢false (sym ((bad_exactly p).1 (eqb-true _ _ e, inl (ltb-true _ _ f))) ∙ sound))
      by true false e f =
          let h : least_size ≤ size_field p = ltb-false _ _ f in
          let same = s.fields (eqb-true _ _ e) in
          rw (← s.enable, ← same.size, part p.rbar h, part q.rbar h, same.base)

module _ (n : ℕ) (m o : Mpu) (a : Access) (control : m.control ≡ o.control) (slots : (k : ℕ) → k < n → Alike (slot_at m.slots k) (slot_at o.slots k)) where
  judged_alike : ((k : ℕ) → k < n → bad_at m.slots k ≡ false) → judged n m a ≡ judged n o a
  unfolding judged
  judged_alike sound = rw (← same) (by (deciding n m.slots a.address) (highest_greatest _ n))
    where
      same : deciding n m.slots a.address ≡ deciding n o.slots a.address
      same = highest_same n (λ k h. matches_alike (slots k h) a.address (sound k h))

      by : (d : ℕ) → Greatest (matches_at m.slots a.address) n d → pick (eqb d 0) (unmatched m.control a.privileged) (row_answer (ap_field (slot_at m.slots (d - 1))) a.privileged a.kind) ≡ pick (eqb d 0) (unmatched o.control a.privileged) (row_answer (ap_field (slot_at o.slots (d - 1))) a.privileged a.kind)
      by zero g = rw control
      by (suc k) g =
          let less : suc k - 1 ≡ k = omega arith in
          let on = ((matches_exactly a.address (slot_at m.slots k)).0 (rw less at (g.passes (omega arith)))).0 in
          rw (ne_eqb (suc k) 0 (λ e. omega arith), less, ((slots k g.within).fields on).ap)

  pub answers_alike : decision n m a ≡ decision n o a
  unfolding decision
  answers_alike = rw (whole, control)
    where
      same : some (bad_at m.slots) 0 n ≡ some (bad_at o.slots) 0 n
      same = some_same n (λ k h. bad_alike (slots k h))

      by : (b : Bool) → some (bad_at m.slots) 0 n ≡ b → pick b Undefined (judged n m a) ≡ pick b Undefined (judged n o a)
      by true e = refl
      by false e = judged_alike (λ k h. (none_exactly (bad_at m.slots) zero-le).0 e k zero-le h)

      whole : pick (some (bad_at m.slots) 0 n) Undefined (judged n m a) ≡ pick (some (bad_at o.slots) 0 n) Undefined (judged n o a)
      whole = rw (← same) (by (some (bad_at m.slots) 0 n) refl)
