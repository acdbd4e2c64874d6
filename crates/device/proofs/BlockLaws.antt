-- Two numbers have one quotient by 2^k exactly if the first lies in the second's aligned block: the quotient's multiple is at most the number,
-- and the next multiple is above it. So a slot matches exactly the bytes of its block. Assumes nothing.
use mathlib.Core.Path.{◌≡◌}
use mathlib.Core.Bool.{true}
use mathlib.Core.Logic.Iff
use mathlib.Core.Logic.{◌↔◌}
use Prim.Native.Nat.{ℕ, ◌+◌, ◌*◌, ◌/◌, ◌%◌, ◌^◌, ◌≤◌, ◌<◌}
use native.Mathlib.Nat.{div-mul-le_self, div-eq_of_lt-le, div-eq_of_lt, mod-lt, div-add-mod', add-mul, one-mul}
use native.Mathlib.Omega.{arith}
use lib.Pow.{pow_pos, shr-shr}
use Rattle.device.specs.declared.Pair.{Pair}
use Rattle.device.specs.Registers.{enabled, size_field}
use Rattle.device.specs.Decision.{matches}
use Rattle.laws.proofs.TestLaws.{and_exactly, eq_exactly}

-- to shift by k and then by one is to divide by 2^(k + 1)
pub shifted : (x k : ℕ) → x / 2 ^ k / 2 ≡ x / 2 ^ (k + 1)
shifted x k = shr-shr x k 1

-- a is one of the 2^k bytes from b on
pub record Within (b k a : ℕ) : Type 0 where
  pub from : b ≤ a
  pub below : a < b + 2 ^ k

module _ (k a b : ℕ) where
  pub same_block : (a / 2 ^ k ≡ b / 2 ^ k) ↔ Within (b / 2 ^ k * 2 ^ k) k a
  same_block = (λ e. rw (← e) own, λ h. div-eq_of_lt-le (2 ^ k) h.from (rw (add-mul, one-mul) h.below))
    where
      own : Within (a / 2 ^ k * 2 ^ k) k a
      own = record { from = div-mul-le_self a (2 ^ k); below = omega (arith, div-add-mod' a (2 ^ k), mod-lt a (pow_pos k)) }

  -- the block of a multiple of 2^k starts there
  pub aligned_block : b % 2 ^ k ≡ 0 → (a / 2 ^ k ≡ b / 2 ^ k) ↔ Within b k a
  aligned_block e =
      let start : b / 2 ^ k * 2 ^ k ≡ b = omega (arith, div-add-mod' b (2 ^ k)) in
      rw start at same_block

-- the first byte of a slot's block
abbrev pub start : Pair → ℕ
start p = p.rbar / 2 ^ (p.rasr / 2 % 32 + 1) * 2 ^ (p.rasr / 2 % 32 + 1)

module _ (x : ℕ) (p : Pair) where
  abbrev quotients : Type 0
  quotients = x / 2 ^ (size_field p + 1) ≡ p.rbar / 2 ^ (size_field p + 1)

  matches_quotients : (matches x p ≡ true) ↔ ((enabled p ≡ true) × quotients)
  unfolding matches
  matches_quotients = Iff.trans (and_exactly _ _) (Iff.and Iff.rfl (eq_exactly _ _))

  -- by the bits: RASR bit 0 is set, and the byte is one of the 2^(SIZE+1) of the block, SIZE being bits 5:1
  pub matches_exactly : (matches x p ≡ true) ↔ ((p.rasr % 2 ≡ 1) × Within (start p) (p.rasr / 2 % 32 + 1) x)
  matches_exactly = Iff.trans matches_quotients (Iff.and (eq_exactly _ _) (same_block (p.rasr / 2 % 32 + 1) x p.rbar))

  -- the block of a slot whose RBAR is a multiple of its size starts there
  pub matches_aligned : p.rbar % 2 ^ (size_field p + 1) ≡ 0 → (matches x p ≡ true) ↔ ((enabled p ≡ true) × Within p.rbar (size_field p + 1) x)
  matches_aligned e = Iff.trans matches_quotients (Iff.and Iff.rfl (aligned_block (size_field p + 1) x p.rbar e))

-- SIZE 31 matches all
pub matches_all : (x : ℕ) (p : Pair) → x < 2 ^ 32 → p.rbar < 2 ^ 32 → p.rasr % 2 ≡ 1 → p.rasr / 2 % 32 ≡ 31 → matches x p ≡ true
unfolding matches
matches_all x p h k e s =
    let u : x / 2 ^ 32 ≡ 0 = div-eq_of_lt h in
    let v : p.rbar / 2 ^ 32 ≡ 0 = div-eq_of_lt k in
    rw (e, s, u, v)
