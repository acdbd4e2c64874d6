-- What a bounded constructor tells: which number was made, or that it is beyond the bound. The two answers are told apart, so the one that came
-- says how the bound's test came out; one law for partitions and slots. Back again, a search's slot is told by its number. Assumes nothing.
use mathlib.Core.Path.{◌≡◌, refl, sym, ◌∙◌, ap}
use mathlib.Core.Bool.{Bool, true, false}
use mathlib.Core.Logic.{⊎_elim}
use Prim.Native.Nat.{ℕ, ◌≤◌, ◌<◌}
use Rattle.std.specs.Prelude.{Option, Some, None, is_some}
use borrow.Author.Tests.{ltb-true, ltb-false, lt-ltb, le-ltb}
use lib.Dec.{ltb}
use Rattle.laws.specs.Pick.{pick}
use Rattle.laws.specs.Search.{lowest, some}
use Rattle.laws.proofs.BoolLaws.{pick_cases}
use Rattle.table.specs.declared.numbers.Part.{Part}
use Rattle.table.specs.declared.numbers.Slot.{Slot}
use Rattle.table.specs.Numbers.{parts, slots, parted, slotted}

-- ---- any answer that is made below a bound, and another one beyond it
module _ {X : Type 0} (n bound : ℕ) (made beyond : X) where
  below : {r : X} → (beyond ≡ r → ⊥) → pick (ltb n bound) made beyond ≡ r → (n < bound) × (made ≡ r)
  below apart e = ⊎_elim (λ h. (ltb-true _ _ h.0, h.1)) (λ h. absurd (apart h.1)) (pick_cases (ltb n bound) e)

  above : (made ≡ beyond → ⊥) → pick (ltb n bound) made beyond ≡ beyond → bound ≤ n
  above apart e = ⊎_elim (λ h. absurd (apart h.1)) (λ h. ltb-false _ _ h.0) (pick_cases (ltb n bound) e)

-- ---- partitions
pub parted_is : (n : ℕ) (p : Part) → parted n ≡ Some p → (n < parts) × (p.0 ≡ n)
parted_is n p e =
    let b = below {X = Option Part} n parts (Some (record { 0 = n })) None (λ z. cc) e in
    let k = b.1 in
    let q : ◌≡◌ {A = Part} p (record { 0 = n }) = cc in
    (b.0, ap (λ (x : Part). x.0) q)

pub parted_beyond : (n : ℕ) → parted n ≡ None → parts ≤ n
parted_beyond n = above {X = Option Part} n parts (Some (record { 0 = n })) None (λ z. cc)

pub parted_below : (n : ℕ) (p : Part) → n < parts → p.0 ≡ n → parted n ≡ Some p
parted_below n p h e = rw (lt-ltb n parts h) (ap Some (λ k. record { 0 = sym e k }))

-- ---- slots
pub slotted_is : (n : ℕ) (s : Slot) → slotted n ≡ Some s → (n < slots) × (s.0 ≡ n)
slotted_is n s e =
    let b = below {X = Option Slot} n slots (Some (record { 0 = n })) None (λ z. cc) e in
    let k = b.1 in
    let q : ◌≡◌ {A = Slot} s (record { 0 = n }) = cc in
    (b.0, ap (λ (x : Slot). x.0) q)

pub slotted_beyond : (n : ℕ) → slotted n ≡ None → slots ≤ n
slotted_beyond n = above {X = Option Slot} n slots (Some (record { 0 = n })) None (λ z. cc)

pub slotted_below : (n : ℕ) (s : Slot) → n < slots → s.0 ≡ n → slotted n ≡ Some s
slotted_below n s h e = rw (lt-ltb n slots h) (ap Some (λ k. record { 0 = sym e k }))

pub slotted_above : (n : ℕ) → slots ≤ n → slotted n ≡ None
slotted_above n h = rw (le-ltb n slots h)

-- a slot is found exactly if some slot passes
pub found_some : (f : ℕ → Bool) (i : ℕ) {r : Option Slot} → r ≡ slotted (lowest f i slots) → is_some r ≡ some f i slots
found_some f i e = ap is_some e ∙ by (some f i slots)
  where
    by : (b : Bool) → is_some (pick {X = Option Slot} b (Some (record { 0 = lowest f i slots })) None) ≡ b
    by true = refl
    by false = refl
