-- The three maps of a switch, and the switch as a machine that is asked between its steps.
--   dark a              == while the MPU is off: private on the private bus, else unchecked
--   allows k e          == the entry lets an access of kind k through: a read always, a write where it is writable
--   grants_byte n t p a == some enabled entry of the partition covers the byte, and lets the access through
--   partition_map n t p == the partition's map: private on the private bus; else permitted exactly if granted, denied if not
--   asked n m t p es    == the answers to the accesses of es, a write event being one step of the switch that starts from the MPU m
use Rattle.std.specs.Prelude.{Bool, true, ◌&&◌, List, ℕ, Result, Ok}
use Rattle.laws.specs.Pick.{pick}
use Rattle.laws.specs.Search.{some}
use Rattle.refusal.specs.declared.Refusal.{Refusal}
use Rattle.table.specs.declared.Table.{Table}
use Rattle.table.specs.declared.Entry.{Entry}
use Rattle.table.specs.Table.{slot_entry}
use Rattle.table.specs.Entries.{covers_byte}
use Rattle.device.specs.declared.Mpu.{Mpu}
use Rattle.device.specs.declared.Kind.{Kind}
use Rattle.device.specs.declared.Kind.TheVariants.{Read, Write}
use Rattle.device.specs.declared.Access.{Access}
use Rattle.device.specs.declared.Answer.{Answer}
use Rattle.device.specs.declared.Answer.TheVariants.{Private, Unchecked}
use Rattle.device.specs.Permission.{answered}
use Rattle.device.specs.Decision.{private_bus, decision}
use Rattle.switch.specs.declared.Switch.{Switch}
use Rattle.switch.specs.Switch.{started, stepped}
use Rattle.order.specs.Play.{Event}
use Rattle.order.specs.Machine.{run}

unfoldable pub dark : Access → Result Answer Refusal
dark a = Ok (pick (private_bus a.address) Private Unchecked)

abbrev pub allows : Kind → Entry → Bool
allows Read e = true
allows Write e = e.writable

unfoldable pub grants_byte : ℕ → Table → ℕ → Access → Bool
grants_byte n t p a = some (λ s. covers_byte a.address (slot_entry n t p s) && allows a.kind (slot_entry n t p s)) 0 n

unfoldable pub partition_map : ℕ → Table → ℕ → Access → Result Answer Refusal
partition_map n t p a = Ok (pick (private_bus a.address) Private (answered (grants_byte n t p a)))

abbrev pub asked : ℕ → Mpu → Table → ℕ → List (Event Access) → List (Result Answer Refusal)
asked n m t p es = run (λ (s : Switch). (stepped n s).switch) (λ (s : Switch). decision n s.mpu) (started n m t p).switch es
