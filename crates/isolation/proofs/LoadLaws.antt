-- What the MPU holds after the writes of a partition: control 1, and in each slot what was written for it. The first write turns off, each of the
-- middle ones stores its own slot and leaves the others and the control, the last turns on. By induction on the middle writes. Assumes nothing.
use mathlib.Core.Path.{◌≡◌, refl, sym, ◌∙◌, ap}
use mathlib.Core.Bool.{Bool, true, false}
use mathlib.Core.Logic.{⊎_elim}
use mathlib.Core.List.{List, [], ◌∷◌, ◌++◌}
use Prim.Native.Nat.{ℕ, zero, suc, ◌+◌, ◌≤◌, ◌<◌, zero-le}
use native.Mathlib.Nat.{eq-or-lt_of_le, zero-add}
use native.Mathlib.Omega.{arith}
use lib.ListN.{length, get_or}
use Rattle.laws.specs.Listed.{listed}
use Rattle.table.specs.declared.Table.{Table}
use Rattle.table.specs.declared.Entry.{Entry}
use Rattle.table.specs.Table.{slot_entry}
use Rattle.table.specs.Lawful.{Lawful}
use Rattle.device.specs.declared.Mpu.{Mpu}
use Rattle.device.specs.declared.Write.{Write}
use Rattle.device.specs.Registers.{ctrl, slot_at, enables, allowed}
use Rattle.device.specs.RegisterWrite.{triple_no, pair_of, stored, write_register}
use Rattle.device.proofs.RefusedWriteLaws.{held_allowed}
use Rattle.device.proofs.StoredLaws.{accepted_stored, slot_stored, slots_stay, control_stays, slots_length, control_stored}
use Rattle.laws.specs.Pick.{pick}
use Rattle.fields.specs.Fields.{rasr}
use Rattle.device.specs.RegisterWrite.{Written}
use Rattle.laws.proofs.ListedLaws.{length-listed, get_or-listed}
use Rattle.order.specs.Play.{after}
use Rattle.order.specs.Off.{Quiet}
use Rattle.order.proofs.SwitchLaws.{quiet_at}
use Rattle.sequence.specs.Sequence.{triple, off, on, attributes, slot_write}
use Rattle.sequence.proofs.WritesLaws.{middle}
use Rattle.sequence.proofs.SoundWrites.{off_sound, on_sound, slot_sound}

abbrev pub put : ℕ → Mpu → Write → Mpu
put n m w = (write_register n m w).mpu

-- the MPU is off, and its control is one that it may hold
pub record Off (m : Mpu) : Type 0 where
  pub held : allowed m.control ≡ true
  pub clear : enables m.control ≡ false

-- what a partition's writes leave
pub record Loaded (n : ℕ) (t : Table) (p : ℕ) (m : Mpu) : Type 0 where
  pub control : m.control ≡ 1
  pub slot : (k : ℕ) → k < n → slot_at m.slots k ≡ pair_of (slot_write k (slot_entry n t p k))

after_append : {S W : Type 0} (f : S → W → S) (s : S) (xs ys : List W) → after f s (xs ++ ys) ≡ after f (after f s xs) ys
after_append f s [] ys = refl
after_append f s (x ∷ xs) ys = after_append f (f s x) xs ys

slot_register : (s : ℕ) (e : Entry) → (slot_write s e).rnr ≡ s
unfolding slot_write
slot_register s e = by e.enabled
  where
    by : (b : Bool) → (pick b (triple s e.base (rasr (attributes e))) (triple s 0 0)).rnr ≡ s
    by true = refl
    by false = refl

module _ (n : ℕ) (few : n ≤ ctrl) where
  -- a sound triple is stored
  taken : (m : Mpu) (w : Write) → allowed m.control ≡ true → triple_no n w ≡ 0 → put n m w ≡ stored n m w
  taken m w h e = ap (λ (r : Written). r.mpu) (accepted_stored n m w (held_allowed n m w h ∙ e))

  -- ---- the two control writes
  turned : (m : Mpu) (w : Write) → allowed m.control ≡ true → triple_no n w ≡ 0 → w.rnr ≡ ctrl → put n m w ≡ record { slots = m.slots; control = w.rasr }
  turned m w h e c = taken m w h e ∙ control_stored n m w few c

  pub off_off : (m : Mpu) → allowed m.control ≡ true → Off (put n m off)
  unfolding allowed
  off_off m h = rw (turned m off h (off_sound n few) refl) (record { held = refl; clear = refl })

  -- ---- the middle writes of slots i to i + k, each sound
  module _ (g : ℕ → Write) (named : (s : ℕ) → (g s).rnr ≡ s) (sound : (s : ℕ) → s < n → triple_no n (g s) ≡ 0) where
    stores : (m : Mpu) (s : ℕ) → s < n → allowed m.control ≡ true → put n m (g s) ≡ stored n m (g s)
    stores m s h a = taken m (g s) a (sound s h)

    control_kept : (m : Mpu) (s : ℕ) → s < n → allowed m.control ≡ true → (put n m (g s)).control ≡ m.control
    control_kept m s h a = ap (λ (x : Mpu). x.control) (stores m s h a) ∙ control_stays n m (g s) (rw (named s) h)

    length_kept : (m : Mpu) (s : ℕ) → s < n → allowed m.control ≡ true → length (put n m (g s)).slots ≡ length m.slots
    length_kept m s h a = ap (λ (x : Mpu). length x.slots) (stores m s h a) ∙ slots_length n m (g s)

    record Filled (m u : Mpu) (i k : ℕ) : Type 0 where
      control : u.control ≡ m.control
      inside : (j : ℕ) → i ≤ j → j < i + k → slot_at u.slots j ≡ pair_of (g j)
      before : (j : ℕ) → j < i → slot_at u.slots j ≡ slot_at m.slots j

    fills : (m : Mpu) (i k : ℕ) → i + k ≤ n → length m.slots ≡ n → allowed m.control ≡ true → Filled m (after (put n) m (listed g i k)) i k
    fills m i zero h l a = record { control = refl; inside = λ j u v. absurd (omega arith); before = λ j u. refl }
    fills m i (suc k) h l a =
        let w : i < n = omega arith in
        let rest = fills (put n m (g i)) (suc i) k (omega arith) (length_kept m i w a ∙ l) (ap allowed (control_kept m i w a) ∙ a) in
        record { control = rest.control ∙ control_kept m i w a; inside = λ j u v. ⊎_elim (λ e. here i w (after (put n) m (listed g i (suc k))) rest j (sym e)) (λ x. rest.inside j x (omega arith)) (eq-or-lt_of_le u); before = λ j u. rest.before j (omega arith) ∙ stays i w j (omega arith) }
      where
        stays : (i : ℕ) → i < n → (j : ℕ) → ¬ (j ≡ i) → slot_at (put n m (g i)).slots j ≡ slot_at m.slots j
        stays i w j d = ap (λ (x : Mpu). slot_at x.slots j) (stores m i w a) ∙ slots_stay n m (g i) j (λ e. d (e ∙ named i))

        here : (i : ℕ) → i < n → (u : Mpu) → Filled (put n m (g i)) u (suc i) k → (j : ℕ) → j ≡ i → slot_at u.slots j ≡ pair_of (g j)
        here i w u rest j e =
            rest.before j (omega (arith, e))
            ∙ ap (slot_at (put n m (g i)).slots) (e ∙ sym (named i))
            ∙ ap (λ (x : Mpu). slot_at x.slots (g i).rnr) (stores m i w a)
            ∙ slot_stored n m (g i) (rw (named i) w) (rw (named i, l) w)
            ∙ ap (λ (x : ℕ). pair_of (g x)) (sym e)

  -- ---- a lawful partition
  module _ (t : Table) (p : ℕ) (lawful : Lawful n t p) where
    abbrev of_slot : ℕ → Write
    of_slot s = slot_write s (slot_entry n t p s)

    named : (s : ℕ) → (of_slot s).rnr ≡ s
    named s = slot_register s (slot_entry n t p s)

    sound : (s : ℕ) → s < n → triple_no n (of_slot s) ≡ 0
    sound s h = slot_sound n few s (slot_entry n t p s) h (lawful.sound s h)

    -- no middle write turns on
    pub middle_quiet : Quiet (put n) Off (middle n t p)
    middle_quiet = quiet_at (put n) Off (middle n t p) off still
      where
        still : (k : ℕ) → k < length (middle n t p) → (m : Mpu) → Off m → Off (put n m (get_or (middle n t p) k off))
        still k h m o =
            let w : k < n = omega (arith, length-listed of_slot 0 n, h) in
            let same : get_or (middle n t p) k off ≡ of_slot k = get_or-listed of_slot 0 n k off w ∙ ap of_slot (zero-add k) in
            let kept = control_kept of_slot named sound m k w o.held in
            rw same (record { held = ap allowed kept ∙ o.held; clear = ap enables kept ∙ o.clear })

    pub loaded : (m : Mpu) → length m.slots ≡ n → allowed m.control ≡ true → Loaded n t p (after (put n) m (off ∷ (middle n t p ++ (on ∷ []))))
    loaded m l a =
        rw (after_append (put n) first (middle n t p) (on ∷ []), turned last on last_held (on_sound n few) refl)
        (record { control = refl; slot = λ k h. filled.inside k zero-le (omega (arith, h)) })
      where
        first : Mpu
        first = put n m off

        first_is : first ≡ record { slots = m.slots; control = 0 }
        first_is = turned m off a (off_sound n few) refl

        last : Mpu
        last = after (put n) first (middle n t p)

        filled : Filled of_slot named sound first last 0 n
        filled = fills of_slot named sound first 0 n (omega arith) (ap (λ (x : Mpu). length x.slots) first_is ∙ l) (off_off m a).held

        last_held : allowed last.control ≡ true
        last_held = ap allowed filled.control ∙ (off_off m a).held
