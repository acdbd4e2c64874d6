-- After triples made by hand that are accepted, each register holds the last value written to it, and what none names is as it was. Every write is one
-- that is not refused, so by going down the triples. Assumes nothing.
use mathlib.Core.Path.{◌≡◌, refl, sym, ◌∙◌, ap}
use mathlib.Core.Bool.{true}
use mathlib.Core.List.{List, [], ◌∷◌}
use Prim.Native.Nat.{ℕ, zero, suc, ◌+◌, ◌≤◌, ◌<◌}
use native.Mathlib.Omega.{arith}
use lib.ListN.{length, take}
use Rattle.device.specs.declared.Pair.{Pair}
use Rattle.device.specs.declared.Mpu.{Mpu}
use Rattle.device.specs.declared.Write.{Write}
use Rattle.device.specs.Registers.{slot_at, allowed}
use Rattle.device.specs.RegisterWrite.{write_register}
use Rattle.device.proofs.ControlLaws.{allowed_exactly}
use Rattle.switch.specs.Switch.{fresh, steps}
use Rattle.switch.specs.Applied.{write_all, applied}
use Rattle.switch.proofs.RunLaws.{taken, all_state}
use Rattle.switch.proofs.HandLaws.{at, Sound, sound_exactly, accepted_exactly}
use Rattle.switch.proofs.OneWriteLaws.{Ready, OneWrite, one_write, still_ready}

module _ (n : ℕ) (few : n ≤ 4294967295) where
  -- ---- several: one register r, what it reads and what a triple gives it
  module _ {X : Type 0} (read : Mpu → X) (value : Write → X) (r : ℕ) (same : (m : Mpu) (w : Write) (u : Mpu) → OneWrite n m w u → w.rnr ≡ r → read u ≡ value w) (other : (m : Mpu) (w : Write) (u : Mpu) → OneWrite n m w u → ¬ (w.rnr ≡ r) → read u ≡ read m) where
    unnamed : (ws : List Write) (m : Mpu) → Ready n m → ((i : ℕ) → i < length ws → Sound n (at ws i)) → ((i : ℕ) → i < length ws → ¬ ((at ws i).rnr ≡ r)) → read (write_all n m ws) ≡ read m
    unfolding write_all
    unnamed [] m ready sound none = refl
    unnamed (w ∷ ws) m ready sound none =
        let z = sound 0 (omega arith) in
        unnamed ws _ (still_ready n few m w ready z) (λ i h. sound (suc i) (omega (arith, h))) (λ i h. none (suc i) (omega (arith, h)))
        ∙ other m w _ (one_write n few m w ready z) (none 0 (omega arith))

    last : (ws : List Write) (m : Mpu) → Ready n m → ((i : ℕ) → i < length ws → Sound n (at ws i)) → (i : ℕ) → i < length ws → (at ws i).rnr ≡ r → ((j : ℕ) → i < j → j < length ws → ¬ ((at ws j).rnr ≡ r)) → read (write_all n m ws) ≡ value (at ws i)
    unfolding write_all
    last [] m ready sound i h e none = absurd (omega arith)
    last (w ∷ ws) m ready sound zero h e none =
        let z = sound 0 h in
        unnamed ws _ (still_ready n few m w ready z) (λ i h. sound (suc i) (omega (arith, h))) (λ j h. none (suc j) (omega arith) (omega (arith, h)))
        ∙ same m w _ (one_write n few m w ready z) e
    last (w ∷ ws) m ready sound (suc i) h e none =
        last ws _ (still_ready n few m w ready (sound 0 (omega arith))) (λ i h. sound (suc i) (omega (arith, h))) i (omega arith) e (λ j l u. none (suc j) (omega (arith, l)) (omega (arith, u)))

  -- ---- triples made by hand that are accepted
  module _ (m : Mpu) (whole : length m.slots ≡ n) (ws : List Write) (len : length ws ≡ n + 2) (e : (applied n m ws).no ≡ 0) where
    ready : Ready n m
    ready = record { held = ((accepted_exactly n few m ws).0 e).0; whole = whole }

    sound : (i : ℕ) → i < n + 2 → Sound n (at ws i)
    sound = ((accepted_exactly n few m ws).0 e).1

    may : allowed m.control ≡ true
    may = (allowed_exactly m.control).1 ready.held

    abbrev after : Mpu
    after = (applied n m ws).mpu

    written : after ≡ write_all n m ws
    unfolding applied
    written = rw e

    -- no triple, or none after place i, names register r
    abbrev Unnamed : ℕ → Type 0
    Unnamed r = (j : ℕ) → j < n + 2 → ¬ ((at ws j).rnr ≡ r)

    abbrev NoneAfter : ℕ → ℕ → Type 0
    NoneAfter r i = (j : ℕ) → i < j → j < n + 2 → ¬ ((at ws j).rnr ≡ r)

    -- slot k, and the control: what the last triple that names it gives, or as it was where none does
    module _ (k : ℕ) (h : k < n) where
      abbrev slot : Mpu → Pair
      slot u = slot_at u.slots k

      abbrev pair : Write → Pair
      pair w = record { rbar = w.rbar; rasr = w.rasr }

      same : (u : Mpu) (w : Write) (v : Mpu) → OneWrite n u w v → w.rnr ≡ k → slot v ≡ pair w
      same u w v o q = ap (slot_at v.slots) (sym q) ∙ o.slot (rw q h)

      other : (u : Mpu) (w : Write) (v : Mpu) → OneWrite n u w v → ¬ (w.rnr ≡ k) → slot v ≡ slot u
      other u w v o d = o.other_slots k (λ q. d (sym q))

      pub slot_last : (i : ℕ) → i < n + 2 → (at ws i).rnr ≡ k → NoneAfter k i → slot_at after.slots k ≡ record { rbar = (at ws i).rbar; rasr = (at ws i).rasr }
      slot_last i l q none = ap slot written ∙ last slot pair k same other ws m ready (rw len sound) i (rw len l) q (rw len none)

      pub slot_kept : Unnamed k → slot_at after.slots k ≡ slot_at m.slots k
      slot_kept none = ap slot written ∙ unnamed slot pair k same other ws m ready (rw len sound) (rw len none)

    abbrev control : Mpu → ℕ
    control u = u.control

    abbrev third : Write → ℕ
    third w = w.rasr

    pub control_last : (i : ℕ) → i < n + 2 → (at ws i).rnr ≡ 4294967295 → NoneAfter 4294967295 i → after.control ≡ (at ws i).rasr
    control_last i l q none =
        ap control written ∙ last control third 4294967295 (λ u w v o. o.control) (λ u w v o. o.control_stays) ws m ready (rw len sound) i (rw len l) q (rw len none)

    pub control_kept : Unnamed 4294967295 → after.control ≡ m.control
    control_kept none =
        ap control written ∙ unnamed control third 4294967295 (λ u w v o. o.control) (λ u w v o. o.control_stays) ws m ready (rw len sound) (rw len none)

    -- none of the writes is refused, and as a switch of these triples it ends with the same MPU and the same log
    pub none_refused : (i : ℕ) → i < n + 2 → (write_register n (write_all n m (take i ws)) (at ws i)).no ≡ 0
    none_refused = taken n few m may ws len (λ i h. (sound_exactly n few _).1 (sound i h))

    pub as_steps : steps n (n + 2) (fresh n m ws) ≡ record { mpu = after; writes = ws; position = n + 2; log = ws }
    as_steps =
        all_state n few m may ws len (λ i h. (sound_exactly n few _).1 (sound i h))
        ∙ ap (λ (u : Mpu). record { mpu = u; writes = ws; position = n + 2; log = ws }) (sym written)
