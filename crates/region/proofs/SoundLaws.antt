-- What the number of one region means: each exactly when the paper states it. The refusal list tells its condition, and each condition is a
-- test whose meaning is known; that a size of 32 bits is a power of two is `pow2_exactly`. Assumes nothing.
use mathlib.Core.Path.{◌≡◌, refl, sym, ◌∙◌, ap}
use mathlib.Core.Bool.{true, false, not}
use mathlib.Core.Logic.Iff
use mathlib.Core.Logic.{◌↔◌}
use Prim.Native.Nat.{ℕ, ◌+◌, ◌%◌, ◌^◌, ◌≤◌, ◌<◌}
use borrow.Author.Tests.{ltb-true, ltb-false, lt-ltb, le-ltb, eqb-true, eqb-false, eq-eqb, ne_eqb, not-true, not-false}
use native.Mathlib.Nat.{mod-mod_of_dvd, dvd_of_mod-eq-zero}
use native.Mathlib.Omega.{arith}
use lib.Dec.{ltb, lit<}
use lib.Pow.{pow_pos}
use Rattle.laws.specs.Power.{is_pow2, Pow2}
use Rattle.laws.specs.Refuse.{fresh}
use Rattle.laws.proofs.BoolLaws.{fails_exactly}
use Rattle.laws.proofs.RefuseLaws.{accepted, given}
use Rattle.laws.proofs.PowerLaws.{pow2_exactly, pow_below, power_multiple}
use Rattle.region.specs.Sound.{min_region_size, highest_end, soundness, region_no, Sound}

-- ---- what is told of the size, by this list and by that of the fields
module _ (size : ℕ) (word : size < 2 ^ 32) where
  power : (is_pow2 size ≡ true) ↔ Pow2 size
  power = pow2_exactly size word

  pub why_2 : (Unit {0} × (not (is_pow2 size) ≡ true)) ↔ ¬ Pow2 size
  why_2 = (λ q. (fails_exactly power).0 (not-true _ q.1), λ n. (tt, ap not ((fails_exactly power).1 n)))

  pub why_3 : (((not (is_pow2 size) ≡ false) × Unit {0}) × (ltb size min_region_size ≡ true)) ↔ (Pow2 size × (size < 32))
  why_3 = (λ q. (power.0 (not-false _ q.0.0), ltb-true _ _ q.1), λ s. ((ap not (power.1 s.0), tt), lt-ltb _ _ s.1))

-- ---- one region
pub soundness_numbered : (base size : ℕ) → fresh 0 (soundness base size) ≡ true
unfolding soundness
soundness_numbered base size = refl

module _ (base size : ℕ) (word : size < 2 ^ 32) where
  pub sound_exactly : (region_no base size ≡ 0) ↔ Sound base size
  unfolding region_no soundness
  sound_exactly =
      Iff.trans (accepted (soundness base size) refl) (
        λ q. record { power = (power size word).0 (not-false _ q.0); least = ltb-false _ _ q.1.0; multiple = eqb-true _ _ (not-false _ q.1.1.0); fits = ltb-false _ _ q.1.1.1.0 },
        λ s. (ap not ((power size word).1 s.power), (le-ltb _ _ s.least, (ap not (eq-eqb _ _ s.multiple), (le-ltb _ _ s.fits, tt)))),
      )

  pub refused_2 : (region_no base size ≡ 2) ↔ ¬ Pow2 size
  unfolding region_no soundness
  refused_2 = Iff.trans (given (soundness base size) refl refl 0 (lit< tt)) (why_2 size word)

  pub refused_3 : (region_no base size ≡ 3) ↔ (Pow2 size × (size < 32))
  unfolding region_no soundness
  refused_3 = Iff.trans (given (soundness base size) refl refl 1 (lit< tt)) (why_3 size word)

  pub refused_4 : (region_no base size ≡ 4) ↔ (Pow2 size × (32 ≤ size) × ¬ (base % size ≡ 0))
  unfolding region_no soundness
  refused_4 =
      Iff.trans (given (soundness base size) refl refl 2 (lit< tt)) (
        λ q. ((power size word).0 (not-false _ q.0.0), ltb-false _ _ q.0.1.0, eqb-false _ _ (not-true _ q.1)),
        λ s. ((ap not ((power size word).1 s.0), (le-ltb _ _ s.1, tt)), ap not (ne_eqb _ _ s.2)),
      )

  pub refused_5 : (region_no base size ≡ 5) ↔ (Pow2 size × (32 ≤ size) × (base % size ≡ 0) × (4294967295 < base + size))
  unfolding region_no soundness
  refused_5 =
      Iff.trans (given (soundness base size) refl refl 3 (lit< tt)) (
        λ q. ((power size word).0 (not-false _ q.0.0), ltb-false _ _ q.0.1.0, eqb-true _ _ (not-false _ q.0.1.1.0), ltb-true _ _ q.1),
        λ s. ((ap not ((power size word).1 s.0), (le-ltb _ _ s.1, (ap not (eq-eqb _ _ s.2), tt))), lt-ltb _ _ s.3),
      )

-- an accepted region is one of 32 bits, so nothing need be known of its size beforehand
pub sound_facts : (base size : ℕ) → region_no base size ≡ 0 → Sound base size
unfolding region_no soundness
sound_facts base size e =
    let end : base + size ≤ highest_end = ltb-false _ _ ((accepted (soundness base size) refl).0 e).1.1.1.0 in
    (sound_exactly base size (omega arith)).0 e

-- a sound base is a multiple of the smallest size, whatever its own
pub base_multiple : (base size : ℕ) → region_no base size ≡ 0 → base % 32 ≡ 0
base_multiple base size e = sym (mod-mod_of_dvd min_region_size base (dvd_of_mod-eq-zero min_region_size whole)) ∙ ap (λ (r : ℕ). r % min_region_size) s.multiple
  where
    s : Sound base size
    s = sound_facts base size e

    k : ℕ
    k = s.power.0

    five : 5 ≤ k
    five = pow_below 4 k (omega (arith, s.least, s.power.1))

    whole : size % min_region_size ≡ 0
    whole = rw s.power.1 (power_multiple 5 k five)

-- ---- what the source's empty lemmas only named
pub zero_size_refused : (base : ℕ) → region_no base 0 ≡ 2
zero_size_refused base = (refused_2 base 0 (lit< tt)).1 (λ p. not_zero p.0 p.1)
  where
    not_zero : (k : ℕ) → 0 ≡ 2 ^ k → ⊥
    not_zero k e = omega (arith, pow_pos k, e)

pub below_minimum_refused : (base size : ℕ) → size < 32 → ¬ (region_no base size ≡ 0)
below_minimum_refused base size h e = omega (arith, h, ((sound_exactly base size (omega (arith, h))).0 e).least)

pub misaligned_refused : (base size : ℕ) → size < 2 ^ 32 → ¬ (base % size ≡ 0) → ¬ (region_no base size ≡ 0)
misaligned_refused base size h n e = n ((sound_exactly base size h).0 e).multiple
