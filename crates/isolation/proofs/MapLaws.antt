-- What the partition's map means, byte by byte: a read is permitted exactly if an enabled entry covers the byte, a write exactly if such an entry is
-- writable too, and everything else is denied. By the search's meaning. Assumes nothing.
use mathlib.Core.Path.{◌≡◌, refl, sym, ◌∙◌, ap}
use mathlib.Core.Bool.{Bool, true, false, ◌&&◌}
use mathlib.Core.Logic.{◌↔◌}
use Prim.Native.Nat.{ℕ, ◌<◌, zero-le}
use native.Mathlib.Omega.{arith}
use Rattle.std.specs.Prelude.{Result, Ok}
use Rattle.laws.proofs.BoolLaws.{and_left, and_right, both}
use Rattle.laws.proofs.SearchLaws.{some_exactly}
use Rattle.refusal.specs.declared.Refusal.{Refusal}
use Rattle.table.specs.declared.Table.{Table}
use Rattle.table.specs.Table.{slot_entry}
use Rattle.table.specs.Entries.{covers_byte}
use Rattle.table.specs.Covers.{Has}
use Rattle.table.proofs.CoversLaws.{byte_exactly}
use Rattle.device.specs.declared.Access.{Access}
use Rattle.device.specs.declared.Kind.{Kind}
use Rattle.device.specs.declared.Kind.TheVariants.{Read, Write}
use Rattle.device.specs.declared.Answer.{Answer}
use Rattle.device.specs.declared.Answer.TheVariants.{Private, Permitted, Denied}
use Rattle.device.specs.Permission.{answered}
use Rattle.device.specs.Decision.{private_bus}
use Rattle.isolation.specs.Maps.{allows, grants_byte, partition_map}

-- the answer that is given where b says yes
abbrev given : Bool → Result Answer Refusal
given b = Ok (answered b)

permitted_if : (b : Bool) → (given b ≡ Ok Permitted) ↔ (b ≡ true)
permitted_if true = (λ e. refl, λ e. refl)
permitted_if false = (λ e. let z : ◌≡◌ {A = ℕ} 0 1 = cc in absurd (omega arith), λ e. ap given e)

module _ (n : ℕ) (t : Table) (p : ℕ) (a : Access) where
  pub map_private : private_bus a.address ≡ true → partition_map n t p a ≡ Ok Private
  unfolding partition_map
  map_private e = rw e

  module _ (out : private_bus a.address ≡ false) where
    map_outside : partition_map n t p a ≡ given (grants_byte n t p a)
    unfolding partition_map
    map_outside = rw out

    pub permitted_exactly : (partition_map n t p a ≡ Ok Permitted) ↔ ((s : ℕ) × (s < n) × Has (slot_entry n t p s) a.address × (allows a.kind (slot_entry n t p s) ≡ true))
    unfolding partition_map grants_byte
    permitted_exactly =
        let found = some_exactly (λ s. covers_byte a.address (slot_entry n t p s) && allows a.kind (slot_entry n t p s)) {i = 0} {m = n} zero-le in
        rw out (
          λ e.
              let w = found.0 ((permitted_if _).0 e) in
              let c = covers_byte a.address (slot_entry n t p w.0) in
              let l = allows a.kind (slot_entry n t p w.0) in
              (w.0, w.2, (byte_exactly a.address _).0 (and_left c l w.3), and_right c l w.3),
          λ w. (permitted_if _).1 (found.1 (w.0, zero-le, w.1, both ((byte_exactly a.address _).1 w.2) w.3)),
        )

    pub else_denied : ¬ (partition_map n t p a ≡ Ok Permitted) → partition_map n t p a ≡ Ok Denied
    else_denied h = by (grants_byte n t p a) refl
      where
        by : (b : Bool) → grants_byte n t p a ≡ b → partition_map n t p a ≡ Ok Denied
        by true e = absurd (h (map_outside ∙ ap given e))
        by false e = map_outside ∙ ap given e

    -- ---- in the paper's words
    pub read_exactly : a.kind ≡ Read → (partition_map n t p a ≡ Ok Permitted) ↔ ((s : ℕ) × (s < n) × Has (slot_entry n t p s) a.address)
    read_exactly k = (λ e. let w = permitted_exactly.0 e in (w.0, w.1, w.2), λ w. permitted_exactly.1 (w.0, w.1, w.2, ap (λ (x : Kind). allows x (slot_entry n t p w.0)) k))

    pub write_exactly : a.kind ≡ Write → (partition_map n t p a ≡ Ok Permitted) ↔ ((s : ℕ) × (s < n) × Has (slot_entry n t p s) a.address × ((slot_entry n t p s).writable ≡ true))
    write_exactly k = (
      λ e. let w = permitted_exactly.0 e in (w.0, w.1, w.2, sym (ap (λ (x : Kind). allows x (slot_entry n t p w.0)) k) ∙ w.3),
      λ w. permitted_exactly.1 (w.0, w.1, w.2, ap (λ (x : Kind). allows x (slot_entry n t p w.0)) k ∙ w.3),
    )
