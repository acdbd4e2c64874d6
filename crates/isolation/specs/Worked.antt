-- The example of the paper, asked at every cut: a switch to partition 1 from an MPU of zeros, and from one that another partition's map is live in.
--   zeros       == an MPU of zeros, control 0
--   at_cuts k q == q asked before the first step and after each of k steps
--   ours        == the last byte of the paper's writable entry, written
--   afterwards  == after the ten steps: the three bytes of the paper, and a step more before the last of them
--   two         == the example's table, with data2, code2 and more2 in partition 2
--   live c      == the MPU that holds partition 2, under control c
--   asks        == bytes of partition 2, of slots 0 and 2, and of partition 1, one of each of its entries; the first byte of the private bus
--   behind      == a byte of neither, written by privileged code
use Rattle.std.specs.Prelude.{true, false, List, [], ◌∷◌, ◌++◌, ℕ, zero, suc, replicate}
use Rattle.table.specs.declared.Table.{Table}
use Rattle.table.specs.declared.Request.{Request}
use Rattle.table.specs.Numbers.{slots}
use Rattle.table.specs.Builder.{try_add}
use Rattle.device.specs.declared.Mpu.{Mpu}
use Rattle.device.specs.declared.Kind.{Kind}
use Rattle.device.specs.declared.Kind.TheVariants.{Read, Write}
use Rattle.device.specs.declared.Access.{Access}
use Rattle.sequence.specs.Worked.{example}
use Rattle.order.specs.Play.{Event, write, ask}

abbrev pub zeros : Mpu
zeros = record { slots = replicate 8 (record { rbar = 0; rasr = 0 }); control = 0 }

abbrev pub access : ℕ → Kind → Access
access x k = record { address = x; kind = k; privileged = false }

abbrev pub at_cuts : ℕ → List (Event Access) → List (Event Access)
at_cuts zero q = q
at_cuts (suc k) q = q ++ (write ∷ at_cuts k q)

abbrev pub ours : List (Event Access)
ours = ask (access 536871935 Write) ∷ []

abbrev pub afterwards : List (Event Access)
afterwards =
    replicate 10 write
    ++ (ask (access 536871935 Write) ∷ ask (access 536871936 Write) ∷ ask (access 536871936 Read) ∷ ask (access 134217728 Read) ∷ write ∷ ask (access 134217728 Write) ∷ [])

-- ---- another partition's map is live
abbrev pub data2 : Request
data2 = record { base = 1610612736; size = 4096; writable = true }

abbrev pub code2 : Request
code2 = record { base = 1342177280; size = 32; writable = false }

abbrev pub more2 : Request
more2 = record { base = 1879048192; size = 256; writable = true }

abbrev pub two : Table
two = (try_add slots (try_add slots (try_add slots example 2 data2).table 2 code2).table 2 more2).table

abbrev pub live : ℕ → Mpu
live c =
    record { slots = record { rbar = 1610612736; rasr = 50331671 } ∷ record { rbar = 1342177280; rasr = 100663305 } ∷ record { rbar = 1879048192; rasr = 50331663 } ∷ replicate 5 (record { rbar = 0; rasr = 0 }); control = c }

abbrev pub asks : List (Event Access)
asks =
    ask (access 1610616831 Write)
    ∷ ask (access 1879048447 Write)
    ∷ ask (access 536871935 Write)
    ∷ ask (access 134217728 Read)
    ∷ ask (access 0xE000_0000 Read)
    ∷ []

abbrev pub behind : List (Event Access)
behind = ask (record { address = 536871936; kind = Write; privileged = true }) ∷ []
