-- Where the table and the device meet: the pair that the sequence writes for a sound entry matches a byte exactly if the entry covers it, is never bad,
-- and its row lets through what the entry allows. RASR's fields read back as what was put in, and the base is a multiple of the size. A slot that
-- isn't enabled is written off. Assumes nothing.
use mathlib.Core.Path.{◌≡◌, refl, sym, ◌∙◌, ap, subst}
use mathlib.Core.Bool.{Bool, true, false, true≢false}
use Prim.Native.Nat.{ℕ, ◌+◌, ◌%◌, ◌^◌}
use native.Mathlib.Omega.{arith}
use borrow.Author.Tests.{eq-eqb, le-ltb}
use Rattle.laws.proofs.BoolLaws.{same_test}
use Rattle.region.specs.Sound.{region_no}
use Rattle.region.proofs.SoundLaws.{sound_facts}
use Rattle.fields.specs.Fields
use Rattle.fields.specs.Fields.{rasr}
use Rattle.fields.proofs.SizeLaws.{Sized, size_sized}
use Rattle.fields.proofs.RasrLaws.{Holds, size_of_sound, rasr_holds}
use Rattle.table.specs.declared.Entry.{Entry}
use Rattle.table.specs.Entries.{covers_byte}
use Rattle.table.proofs.CoversLaws.{byte_exactly}
use Rattle.device.specs.declared.Pair.{Pair}
use Rattle.device.specs.declared.Kind.{Kind}
use Rattle.device.specs.declared.Kind.TheVariants.{Read, Write}
use Rattle.device.specs.Registers.{enabled, size_field, subregions}
use Rattle.device.specs.Registers as registers
use Rattle.device.specs.RegisterWrite.{pair_of}
use Rattle.device.specs.Permission.{answered, row_answer}
use Rattle.device.specs.Decision.{bad, matches}
use Rattle.device.proofs.BlockLaws.{matches_aligned}
use Rattle.laws.specs.Pick.{pick}
use Rattle.sequence.specs.Sequence.{triple, attributes, slot_write}
use Rattle.isolation.specs.Maps.{allows}

-- what the pair q of a slot has to be for the entry e
pub record Meets (e : Entry) (q : Pair) : Type 0 where
  pub good : bad q ≡ false
  pub matching : (a : ℕ) → matches a q ≡ covers_byte a e
  pub row : e.enabled ≡ true → (p : Bool) (k : Kind) → row_answer (registers.ap_field q) p k ≡ answered (allows k e)

-- ---- a pair whose fields are those of a sound entry
module _ (e : Entry) (x : e.enabled ≡ true) (ok : region_no e.base e.size ≡ 0) (v : ℕ) (h : Holds v (Fields.size_field e.size) (Fields.ap_field e.writable)) where
  abbrev pair : Pair
  pair = record { rbar = e.base; rasr = v }

  on : enabled pair ≡ true
  on = eq-eqb (v % 2) 1 h.enable

  size_is : size_field pair ≡ Fields.size_field e.size
  size_is = h.size_bits

  none_masked : subregions pair ≡ 0
  none_masked = omega (arith, h.between)

  sized : Sized e.size
  sized = size_sized e.size (omega (arith, (sound_facts e.base e.size ok).fits)) (size_of_sound e.base e.size ok)

  -- the slot's block is the entry's range
  block_size : 2 ^ (size_field pair + 1) ≡ e.size
  block_size = ap (λ (f : ℕ). 2 ^ (f + 1)) size_is ∙ sized.power

  good : bad pair ≡ false
  unfolding bad
  good = rw (on, le-ltb (size_field pair) 4 (omega (arith, size_is, sized.least)), eq-eqb (subregions pair) 0 none_masked)

  matching : (a : ℕ) → matches a pair ≡ covers_byte a e
  matching a =
      let aligned : e.base % 2 ^ (size_field pair + 1) ≡ 0 = rw block_size (sound_facts e.base e.size ok).multiple in
      let inside = matches_aligned a pair aligned in
      same_test (matches a pair) (covers_byte a e) (
        λ m. let w = (inside.0 m).1 in (byte_exactly a e).1 (record { on = x; from = w.from; below = omega (arith, w.below, block_size) }),
        λ c. let b = (byte_exactly a e).0 c in inside.1 (on, record { from = b.from; below = omega (arith, b.below, block_size) }),
      )

  row : (p : Bool) (k : Kind) → row_answer (registers.ap_field pair) p k ≡ answered (allows k e)
  unfolding row_answer
  row p k = ap (λ (f : ℕ). row_answer f p k) h.ap_bits ∙ by e.writable p k
    where
      by : (w p : Bool) (k : Kind) → row_answer (Fields.ap_field w) p k ≡ answered (allows k (record { base = e.base; size = e.size; enabled = e.enabled; writable = w }))
      by true true Read = refl
      by true true Write = refl
      by true false Read = refl
      by true false Write = refl
      by false true Read = refl
      by false true Write = refl
      by false false Read = refl
      by false false Write = refl

-- ---- the pair that the sequence writes
pub meets : (s : ℕ) (e : Entry) → (e.enabled ≡ true → region_no e.base e.size ≡ 0) → Meets e (pair_of (slot_write s e))
unfolding slot_write bad matches
meets s e f = by e.enabled refl
  where
    by : (b : Bool) → e.enabled ≡ b → Meets e (pair_of (slot_write s e))
    by true x =
        let h = rasr_holds (attributes e) (omega (arith, (sound_facts e.base e.size (f x)).fits)) (size_of_sound e.base e.size (f x)) in
        let v = rasr (attributes e) in
        subst (Meets e) (sym (ap (λ (b : Bool). pair_of (pick b (triple s e.base v) (triple s 0 0))) x)) (record { good = good e x (f x) v h; matching = matching e x (f x) v h; row = λ y. row e x (f x) v h })
    by false x = rw x (record { good = refl; matching = λ a. refl; row = λ y. absurd (true≢false (sym y)) })
