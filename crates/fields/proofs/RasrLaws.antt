-- What RASR holds. SIZE has five bits and AP three, so the sum 1 + 2 x SIZE + 16777216 x AP carries nowhere, and each field is read back by
-- division. Assumes nothing.
use mathlib.Core.Path.{◌≡◌, refl}
use mathlib.Core.Bool.{Bool, true, false}
use Prim.Native.Nat.{ℕ, ◌/◌, ◌%◌, ◌^◌, ◌≤◌, ◌<◌}
use native.Mathlib.Omega.{arith}
use borrow.Author.Tests.{ne_eqb}
use Rattle.laws.specs.Refuse.{refuse}
use Rattle.region.specs.Sound.{region_no}
use Rattle.region.proofs.SoundLaws.{sound_facts}
use Rattle.fields.specs.declared.Attributes.{Attributes}
use Rattle.fields.specs.Fields.{size_field, ap_field, rasr, sizing, answer, size_answer, rasr_answer}
use Rattle.fields.proofs.SizeLaws.{size_accepted, size_sized}

-- ---- RASR is refused as SIZE is, and then both are the number beside 0
pub rasr_number : (a : Attributes) → (rasr_answer a).no ≡ (size_answer a.size).no
unfolding rasr_answer size_answer
rasr_number a = refl

pub rasr_refused : (a : Attributes) → ¬ ((size_answer a.size).no ≡ 0) → rasr_answer a ≡ size_answer a.size
unfolding rasr_answer size_answer
rasr_refused a h = rw (ne_eqb (refuse (sizing a.size)) 0 h)

pub rasr_accepted : (a : Attributes) → (size_answer a.size).no ≡ 0 → rasr_answer a ≡ answer 0 (rasr a)
unfolding rasr_answer size_answer
rasr_accepted a h = rw h

-- a sound region's size is accepted
pub size_of_sound : (base size : ℕ) → region_no base size ≡ 0 → (size_answer size).no ≡ 0
size_of_sound base size e =
    let s = sound_facts base size e in
    (size_accepted size (omega (arith, s.fits))).1 (s.power, s.least)

-- ---- the fields of an accepted RASR: bit 0, bits 5:1, bits 26:24, and the bits between and above
pub record Holds (v size ap : ℕ) : Type 0 where
  pub enable : v % 2 ≡ 1
  pub size_bits : v / 2 % 32 ≡ size
  pub between : v / 64 % 2 ^ 18 ≡ 0
  pub ap_bits : v / 2 ^ 24 % 8 ≡ ap
  pub above : v / 2 ^ 27 ≡ 0

-- AP: 3 if writable, else 6
pub ap_exactly : (ap_field true ≡ 3) × (ap_field false ≡ 6)
ap_exactly = (refl, refl)

pub ap_range : (w : Bool) → ap_field w ≤ 6
ap_range true = omega arith
ap_range false = omega arith

pub rasr_holds : (a : Attributes) → a.size < 2 ^ 32 → (size_answer a.size).no ≡ 0 → Holds (rasr a) (size_field a.size) (ap_field a.writable)
unfolding rasr
rasr_holds a word e =
    let s = size_sized a.size word e in
    let w = ap_range a.writable in
    record { enable = omega (arith, s.most, w); size_bits = omega (arith, s.most, w); between = omega (arith, s.most, w); ap_bits = omega (arith, s.most, w); above = omega (arith, s.most, w) }
