-- A loaded MPU answers as its partition's map does. No slot is bad; if no entry covers the byte, no slot matches, and control 1 has no background; if
-- one does, its slot matches and no other, since entries of a lawful partition do not overlap, and its row lets through what the entry allows.
-- Assumes nothing.
use mathlib.Core.Path.{◌≡◌, refl, sym, ◌∙◌, ap}
use mathlib.Core.Bool.{Bool, true, false, ◌&&◌}
use Prim.Native.Nat.{ℕ, ◌<◌, zero-le}
use native.Mathlib.Omega.{arith}
use Rattle.std.specs.Prelude.{Ok}
use Rattle.laws.specs.Search.{some}
use Rattle.laws.proofs.BoolLaws.{both, unless, fails_unless}
use Rattle.laws.proofs.SearchLaws.{some_exactly, none_exactly}
use Rattle.table.specs.declared.Table.{Table}
use Rattle.table.specs.declared.Entry.{Entry}
use Rattle.table.specs.Table.{slot_entry}
use Rattle.table.specs.Entries.{covers_byte}
use Rattle.table.specs.Lawful.{Lawful}
use Rattle.table.proofs.CoversLaws.{byte_exactly, covers_unique}
use Rattle.device.specs.declared.Mpu.{Mpu}
use Rattle.device.specs.declared.Access.{Access}
use Rattle.device.specs.declared.Answer.TheVariants.{Private, Denied}
use Rattle.device.specs.Registers.{slot_at, enables, allowed}
use Rattle.device.specs.Permission.{answered}
use Rattle.device.specs.Decision.{bad_at, private_bus, decision}
use Rattle.device.proofs.DecidingLaws.{Decides}
use Rattle.device.proofs.JudgedLaws.{background_else, decided_by_row, decided_unmatched}
use Rattle.isolation.specs.Maps.{dark, allows, grants_byte, partition_map}
use Rattle.isolation.proofs.MeetLaws.{Meets, meets}
use Rattle.isolation.proofs.LoadLaws.{Off, Loaded}

-- ---- while it is off
pub off_dark : (n : ℕ) (m : Mpu) (a : Access) → Off m → decision n m a ≡ dark a
unfolding decision dark
off_dark n m a o = rw (o.held, o.clear)

-- ---- loaded
module _ (n : ℕ) (t : Table) (p : ℕ) (lawful : Lawful n t p) (m : Mpu) (load : Loaded n t p m) (a : Access) where
  abbrev entry : ℕ → Entry
  entry = slot_entry n t p

  abbrev has : ℕ → Bool
  has s = covers_byte a.address (entry s)

  meet : (k : ℕ) → k < n → Meets (entry k) (slot_at m.slots k)
  meet k h = rw (load.slot k h) (meets k (entry k) (lawful.sound k h))

  held : allowed m.control ≡ true
  unfolding allowed
  held = rw load.control

  on : enables m.control ≡ true
  on = rw load.control

  sound : (k : ℕ) → k < n → bad_at m.slots k ≡ false
  sound k h = (meet k h).good

  -- no entry has the byte: the background, which control 1 hasn't
  denied : private_bus a.address ≡ false → ((s : ℕ) → s < n → has s ≡ false) → decision n m a ≡ Ok Denied
  denied out none =
      decided_unmatched n m a held out on sound (λ k h. (meet k h).matching a.address ∙ none k h)
      ∙ ap Ok (background_else m.control a.privileged (λ w. omega (arith, w.1, load.control)))

  none_granted : ((s : ℕ) → s < n → has s ≡ false) → grants_byte n t p a ≡ false
  unfolding grants_byte
  none_granted none = (none_exactly (λ s. has s && allows a.kind (entry s)) zero-le).1 (λ s l h. rw (none s h))

  -- entry k has it: its slot decides
  module _ (k : ℕ) (h : k < n) (c : has k ≡ true) where
    alone : (j : ℕ) → j < n → has j ≡ true → k ≡ j
    alone j l x = covers_unique n t p a.address lawful k j h l ((byte_exactly a.address (entry k)).0 c) ((byte_exactly a.address (entry j)).0 x)

    decides : Decides m.slots a.address n k
    decides =
        record { within = h; matching = (meet k h).matching a.address ∙ c; none = λ j u l. (meet j l).matching a.address ∙ fails_unless (λ x. omega (arith, alone j l x, u)) }

    decided : private_bus a.address ≡ false → decision n m a ≡ Ok (answered (allows a.kind (entry k)))
    decided out =
        decided_by_row n m a held out on sound decides ∙ ap Ok ((meet k h).row ((byte_exactly a.address (entry k)).0 c).on a.privileged a.kind)

    granted : grants_byte n t p a ≡ allows a.kind (entry k)
    unfolding grants_byte
    granted = by (allows a.kind (entry k)) refl
      where
        by : (b : Bool) → allows a.kind (entry k) ≡ b → grants_byte n t p a ≡ b
        by true e = (some_exactly (λ s. has s && allows a.kind (entry s)) zero-le).1 (k, zero-le, h, both c e)
        by false e = (none_exactly (λ s. has s && allows a.kind (entry s)) zero-le).1 (λ s l u. unless.1 (λ x. ap (λ (j : ℕ). allows a.kind (entry j)) (sym (alone s u x)) ∙ e))

  -- ---- the map
  outside : private_bus a.address ≡ false → decision n m a ≡ Ok (answered (grants_byte n t p a))
  outside out = by (some has 0 n) refl
    where
      by : (b : Bool) → some has 0 n ≡ b → decision n m a ≡ Ok (answered (grants_byte n t p a))
      by true e =
          let w = (some_exactly has zero-le).0 e in
          decided w.0 w.2 w.3 out ∙ ap (λ (b : Bool). Ok (answered b)) (sym (granted w.0 w.2 w.3))
      by false e =
          let none : (s : ℕ) → s < n → has s ≡ false = λ s h. (none_exactly has {i = 0} {m = n} zero-le).0 e s zero-le h in
          denied out none ∙ ap (λ (b : Bool). Ok (answered b)) (sym (none_granted none))

  on_the_bus : private_bus a.address ≡ true → decision n m a ≡ Ok Private
  unfolding decision
  on_the_bus e = rw (held, e)

  pub loaded_answers : decision n m a ≡ partition_map n t p a
  unfolding partition_map
  loaded_answers = by (private_bus a.address) refl
    where
      by : (b : Bool) → private_bus a.address ≡ b → decision n m a ≡ partition_map n t p a
      by true e = rw e (on_the_bus e)
      by false e = rw e (outside e)
