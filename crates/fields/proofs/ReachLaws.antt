-- One power after the other: a power that is not above a size of 32 bits has its exponent below 32; and one that reaches the size gives its SIZE. Assumes nothing.
use mathlib.Core.Path.{◌≡◌, ◌∙◌}
use Prim.Native.Nat.{ℕ, ◌+◌, ◌^◌, ◌≤◌, ◌<◌}
use native.Mathlib.Nat.{le_of_lt, le_antisymm, lt_of_le_of_lt}
use native.Mathlib.Omega.{arith}
use Rattle.laws.proofs.PowerLaws.{log2-pow, pow_below}
use Rattle.fields.specs.Fields.{size_field}

pub exponent : (power field size : ℕ) → power ≡ 2 ^ (field + 1) → power ≤ size → size < 2 ^ 32 → field + 1 < 32
exponent power field size e h word = pow_below (field + 1) 32 (rw e at (lt_of_le_of_lt h word))

pub reached : (power field size : ℕ) → power ≡ 2 ^ (field + 1) → power ≤ size → size ≤ power → size < 2 ^ 32 → field ≡ size_field size
unfolding size_field
reached power field size e h k word =
    let is : size ≡ 2 ^ (field + 1) = le_antisymm k h ∙ e in
    rw (is, log2-pow (field + 1) (le_of_lt (exponent power field size e h word))) (omega arith)
