-- Worked by hand from the paper, each claim computed: steps at position 10 and past it, and at 9; triples made by hand with some of them bad; the paper's
-- ten writes after three steps, after ten and after eleven. Assumes nothing.
use mathlib.Core.Path.{◌≡◌, refl}
use mathlib.Core.List.{List, [], ◌∷◌, map}
use Prim.Native.Nat.{ℕ}
use lib.ListN.{set, replicate}
use Rattle.laws.specs.Search.{first, lowest}
use Rattle.table.specs.Numbers.{slots}
use Rattle.device.specs.declared.Pair.{Pair}
use Rattle.device.specs.declared.Mpu.{Mpu}
use Rattle.device.specs.declared.Write.{Write}
use Rattle.device.specs.Registers.{allowed}
use Rattle.device.specs.RegisterWrite.{triple_refusals, triple_no, write_no, stored, write_register}
use Rattle.sequence.specs.Sequence.{triple}
use Rattle.sequence.specs.Worked.{ten_writes}
use Rattle.switch.specs.declared.Switch.{Switch}
use Rattle.switch.specs.Switch.{Did, Wrote, Finished, Refused, fresh, stepped, steps, step_no}
use Rattle.switch.specs.Applied.{applied_no, applied}

-- an MPU of zeros, and one with two pairs in it, under a control value
abbrev pair : ℕ → ℕ → Pair
pair b a = record { rbar = b; rasr = a }

abbrev blank : ℕ → Mpu
blank c = record { slots = replicate 8 (pair 0 0); control = c }

abbrev loaded : ℕ → Mpu
loaded c = record { slots = pair 536870912 50331667 ∷ pair 134217728 100663327 ∷ replicate 6 (pair 0 0); control = c }

-- ---- a step by position, held control and triple: from 10 on it is finished, whatever would be refused
abbrev did : ℕ → ℕ → Write → Did
did i c w = (stepped slots (record { mpu = blank c; writes = replicate 10 w; position = i; log = replicate 10 (triple 0 0 0) })).did

abbrev tried : List Did
tried =
    did 10 2 (triple 0 0 0)
    ∷ did 10 0 (triple 8 0 0)
    ∷ did 11 3 (triple 0 16 0)
    ∷ did 4294967295 6 (triple 4294967295 0 2)
    ∷ did 9 2 (triple 0 0 0)
    ∷ did 9 0 (triple 8 0 0)
    ∷ did 9 1 (triple 7 16 0)
    ∷ did 9 4 (triple 4294967295 0 2)
    ∷ did 9 5 (triple 7 32 0)
    ∷ did 0 0 (triple 4294967295 16 4)
    ∷ []

steps_worked : tried ≡ Finished ∷ Finished ∷ Finished ∷ Finished ∷ Refused 12 ∷ Refused 10 ∷ Refused 11 ∷ Refused 12 ∷ Wrote ∷ Wrote ∷ []
unfolding stepped write_register write_no triple_refusals allowed
steps_worked = refl

step_numbers : map step_no tried ≡ 0 ∷ 0 ∷ 0 ∷ 0 ∷ 12 ∷ 10 ∷ 11 ∷ 12 ∷ 0 ∷ 0 ∷ []
unfolding stepped write_register write_no triple_refusals allowed
step_numbers = refl

-- ---- ten triples made by hand: the held control, and the paper's ten with the triple w at place i
abbrev given : ℕ → ℕ → Write → ℕ
given c i w = (applied slots (blank c) (set ten_writes i w)).no

hand_worked : given 0 0 (triple 4294967295 0 0) ∷ given 2 0 (triple 8 0 0) ∷ given 1 9 (triple 8 0 0) ∷ given 4 9 (triple 7 16 0) ∷ given 5 9 (triple 4294967295 0 2) ∷ given 0 9 (triple 4294967295 16 5) ∷ (applied slots (blank 0) (set (set ten_writes 8 (triple 8 0 0)) 3 (triple 2 16 0))).no ∷ []
    ≡ 0 ∷ 12 ∷ 10 ∷ 11 ∷ 12 ∷ 0 ∷ 11 ∷ []
unfolding applied applied_no triple_no triple_refusals allowed lowest first
hand_worked = refl

-- ---- the paper's ten writes, from an MPU of zeros
abbrev after : ℕ → Switch
after k = steps slots k (fresh slots (blank 0) ten_writes)

three_steps : after 3 ≡ record { mpu = loaded 0; writes = ten_writes; position = 3; log = triple 4294967295 0 0 ∷ triple 0 536870912 50331667 ∷ triple 1 134217728 100663327 ∷ replicate 7 (triple 0 0 0) }
unfolding steps stepped write_register write_no triple_refusals stored allowed
three_steps = refl

ten_steps : after 10 ∷ after 11 ∷ [] ≡ replicate 2 (record { mpu = loaded 1; writes = ten_writes; position = 10; log = ten_writes })
unfolding steps stepped write_register write_no triple_refusals stored allowed
ten_steps = refl
