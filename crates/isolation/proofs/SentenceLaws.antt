-- Demand 3 sentence by sentence, in numbers: what an access is answered by how many steps stand before it. The map in force is the one that the count
-- says, and the partition's map is read from the four arrays at place n x partition + slot. Assumes nothing.
use mathlib.Core.Path.{◌≡◌, ◌∙◌, ap}
use mathlib.Core.Bool.{true, false}
use mathlib.Core.List.{List, ◌∷◌, ◌++◌}
use mathlib.Core.Logic.{◌↔◌, ◌⊎◌, inl, inr}
use Prim.Native.Nat.{ℕ, ◌+◌, ◌*◌, ◌≤◌, ◌<◌}
use native.Mathlib.Decide.{dec_lt}
use native.Mathlib.Omega.{arith}
use borrow.Author.Tests.{le-leb, lt-leb}
use lib.ListN.{length, get_or}
use Rattle.std.specs.Prelude.{Result, Ok}
use Rattle.laws.proofs.BoolLaws.{both}
use Rattle.refusal.specs.declared.Refusal.{Refusal}
use Rattle.table.specs.declared.Table.{Table}
use Rattle.table.specs.Table.{slot_entry}
use Rattle.table.specs.Covers.{Has}
use Rattle.table.specs.Built.{Built}
use Rattle.device.specs.declared.Mpu.{Mpu}
use Rattle.device.specs.declared.Access.{Access}
use Rattle.device.specs.declared.Answer.{Answer}
use Rattle.device.specs.declared.Kind.TheVariants.{Read, Write}
use Rattle.device.specs.declared.Answer.TheVariants.{Private, Unchecked, Permitted, Denied}
use Rattle.device.specs.Registers.{allowed}
use Rattle.device.specs.Decision.{private_bus, decision}
use Rattle.device.proofs.ControlLaws.{Allowed, allowed_exactly}
use Rattle.device.proofs.RuleLaws.{private_exactly}
use Rattle.order.specs.Play.{Event, ask, accesses, writes}
use Rattle.order.specs.Cut.{in_force}
use Rattle.order.proofs.PlayLaws.{counted_at}
use Rattle.order.proofs.CutLaws.{in_force_dark, in_force_new}
use Rattle.isolation.specs.Maps.{dark, partition_map, asked}
use Rattle.isolation.proofs.MapLaws.{map_private, read_exactly, write_exactly, else_denied}
use Rattle.isolation.proofs.DemandThree.{by_steps}

-- ---- the private bus, and a byte outside it
on_bus : (x : ℕ) → 0xE000_0000 ≤ x → x ≤ 0xE00F_FFFF → private_bus x ≡ true
on_bus x h k = both (le-leb _ _ h) (le-leb _ _ k)

abbrev pub Outside : ℕ → Type 0
Outside x = (x < 0xE000_0000) ⊎ (0xE00F_FFFF < x)

off_bus : (x : ℕ) → Outside x → private_bus x ≡ false
off_bus x (inl h) = rw (lt-leb 0xE000_0000 x h)
off_bus x (inr h) = rw (lt-leb x 0xE00F_FFFF h, le-leb 0xE000_0000 x (omega arith))

-- ---- an enabled entry, in slot s of partition p, that covers the byte x
pub record Covers (n : ℕ) (t : Table) (p s x : ℕ) : Type 0 where
  pub within : s < n
  pub on : get_or t.enabled (n * p + s) false ≡ true
  pub from : get_or t.base (n * p + s) 0 ≤ x
  pub below : x < get_or t.base (n * p + s) 0 + get_or t.size (n * p + s) 0

module _ (n : ℕ) (t : Table) (p s x : ℕ) where
  covers_has : ((s < n) × Has (slot_entry n t p s) x) ↔ Covers n t p s x
  unfolding slot_entry
  covers_has = (
    λ h. record { within = h.0; on = h.1.on; from = h.1.from; below = h.1.below },
    λ c. (c.within, record { on = c.on; from = c.from; below = c.below }),
  )

-- ---- an access a, with the events es before it and gs after it (r stands for no answer)
module _ (n : ℕ) (few : n ≤ 4294967295) (t : Table) (built : Built n t) (p : ℕ) (part : p < 4) (m : Mpu) (whole : length m.slots ≡ n) (held : Allowed m.control) (es gs : List (Event Access)) (a : Access) (r : Result Answer Refusal) where
  abbrev told : Result Answer Refusal
  told = get_or (asked n m t p (es ++ ask a ∷ gs)) (length (accesses es)) r

  may : allowed m.control ≡ true
  may = (allowed_exactly m.control).1 held

  told_by : told ≡ in_force (decision n m) dark (partition_map n t p) n (writes es) a
  told_by =
      rw (by_steps n few t built p part m whole may (es ++ ask a ∷ gs)) (counted_at (in_force (decision n m) dark (partition_map n t p) n) 0 (writes es) es gs a r (omega arith))

  -- before the first write: the old state's answer
  pub before_the_first : writes es ≡ 0 → told ≡ decision n m a
  before_the_first e = told_by ∙ ap (λ (k : ℕ). in_force (decision n m) dark (partition_map n t p) n k a) e

  dark_told : 0 < writes es → writes es < n + 2 → told ≡ dark a
  dark_told h k = told_by ∙ ap (λ (f : Access → Result Answer Refusal). f a) (in_force_dark (decision n m) dark (partition_map n t p) n (writes es) h k)

  new_told : n + 2 ≤ writes es → told ≡ partition_map n t p a
  new_told h = told_by ∙ ap (λ (f : Access → Result Answer Refusal). f a) (in_force_new (decision n m) dark (partition_map n t p) n (writes es) h)

  module _ (out : Outside a.address) where
    -- after the first and before the last: unchecked
    pub under_way : 0 < writes es → writes es < n + 2 → told ≡ Ok Unchecked
    unfolding dark
    under_way h k = dark_told h k ∙ rw (off_bus a.address out)

    module _ (done : n + 2 ≤ writes es) where
      -- after the last a read is permitted exactly if an enabled entry of that partition covers the byte
      pub read_after : a.kind ≡ Read → (told ≡ Ok Permitted) ↔ ((s : ℕ) × Covers n t p s a.address)
      read_after k =
          rw (new_told done) (
            λ e. let w = (read_exactly n t p a (off_bus a.address out) k).0 e in (w.0, (covers_has n t p w.0 a.address).0 (w.1, w.2)),
            λ w. let h = (covers_has n t p w.0 a.address).1 w.1 in (read_exactly n t p a (off_bus a.address out) k).1 (w.0, h.0, h.1),
          )

      -- a write exactly if that entry is also writable
      pub write_after : a.kind ≡ Write → (told ≡ Ok Permitted) ↔ ((s : ℕ) × Covers n t p s a.address × (get_or t.writable (n * p + s) false ≡ true))
      unfolding slot_entry
      write_after k =
          rw (new_told done) (
            λ e. let w = (write_exactly n t p a (off_bus a.address out) k).0 e in (w.0, (covers_has n t p w.0 a.address).0 (w.1, w.2), w.3),
            λ w. let h = (covers_has n t p w.0 a.address).1 w.1 in (write_exactly n t p a (off_bus a.address out) k).1 (w.0, h.0, h.1, w.2),
          )

      -- and any other access is denied
      pub other_denied : ¬ (told ≡ Ok Permitted) → told ≡ Ok Denied
      other_denied h = new_told done ∙ else_denied n t p a (off_bus a.address out) (λ e. h (new_told done ∙ e))

  -- private on the private bus, whatever the state
  pub private_always : 0xE000_0000 ≤ a.address → a.address ≤ 0xE00F_FFFF → told ≡ Ok Private
  unfolding dark
  private_always h k = by (dec_lt 0 (writes es)) (dec_lt (writes es) (n + 2))
    where
      bus : private_bus a.address ≡ true
      bus = on_bus a.address h k

      by : Dec (0 < writes es) → Dec (writes es < n + 2) → told ≡ Ok Private
      by (no z) d = before_the_first (omega arith) ∙ (private_exactly n m a may).1 (h, k)
      by (yes z) (yes l) = dark_told z l ∙ rw bus
      by (yes z) (no l) = new_told (omega arith) ∙ map_private n t p a bus
