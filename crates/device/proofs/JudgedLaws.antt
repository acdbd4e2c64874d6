-- The answers that the slots give. The search for a bad slot answers first; then the highest matching slot decides by its row, and where none
-- matches the background does. Assumes nothing.
use mathlib.Core.Path.{◌≡◌, refl, sym, ◌∙◌, ap}
use mathlib.Core.Bool.{Bool, true, false, not, ◌&&◌}
use mathlib.Core.Logic.Iff
use mathlib.Core.Logic.{◌↔◌, ◌⊎◌, inl, inr}
use Prim.Native.Nat.{ℕ, zero, suc, ◌-◌, ◌/◌, ◌%◌, ◌<◌, zero-le}
use native.Mathlib.Omega.{arith}
use borrow.Author.Tests.{ne_eqb}
use lib.Dec.{ltb, eqb}
use Rattle.std.specs.Prelude.{List, length, reverse, Result, Ok, Some, None}
use Rattle.std.specs.List.{list_any, find}
use Rattle.std.specs.Option.{option_map_or}
use Rattle.laws.specs.Pick.{pick}
use Rattle.laws.specs.Search.{some}
use Rattle.laws.proofs.SearchLaws.{some_exactly, none_exactly}
use Rattle.laws.proofs.FoundLaws.{any_some, find_highest}
use Rattle.refusal.specs.declared.Refusal.{Refusal}
use Rattle.device.specs.declared.Pair.{Pair}
use Rattle.device.specs.declared.Mpu.{Mpu}
use Rattle.device.specs.declared.Access.{Access}
use Rattle.device.specs.declared.Answer.{Answer}
use Rattle.device.specs.declared.Answer.TheVariants.{Undefined, Permitted, Denied}
use Rattle.device.specs.Registers.{slot_at, size_field, subregions, ap_field, enables, priv_def_ena, allowed}
use Rattle.device.specs.Permission.{answered, row_answer}
use Rattle.device.specs.Decision.{least_size, private_bus, bad, bad_at, matches, deciding, unmatched, judged, decision}
use Rattle.laws.proofs.TestLaws.{and_exactly, or_exactly, not_exactly, lt_exactly, eq_exactly, ne_exactly, pick_same}
use Rattle.device.proofs.DecidingLaws.{Decides, decides_exactly, undecided_exactly}

-- a slot is bad exactly if it is enabled, with SIZE below 4 or bits 15:8 not zero
pub bad_exactly : (p : Pair) → (bad p ≡ true) ↔ ((p.rasr % 2 ≡ 1) × ((p.rasr / 2 % 32 < 4) ⊎ (¬ (p.rasr / 256 % 256 ≡ 0))))
unfolding bad
bad_exactly p = Iff.trans (and_exactly _ _) (λ h. ((eq_exactly _ _).0 h.0, size ((or_exactly _ _).0 h.1)), λ h. ((eq_exactly _ _).1 h.0, (or_exactly _ _).1 (test h.1)))
  where
    size : (ltb (size_field p) least_size ≡ true) ⊎ (not (eqb (subregions p) 0) ≡ true) → (p.rasr / 2 % 32 < 4) ⊎ (¬ (p.rasr / 256 % 256 ≡ 0))
    size (inl e) = inl ((lt_exactly _ _).0 e)
    size (inr e) = inr ((ne_exactly _ _).0 ((not_exactly _).0 e))

    test : (p.rasr / 2 % 32 < 4) ⊎ (¬ (p.rasr / 256 % 256 ≡ 0)) → (ltb (size_field p) least_size ≡ true) ⊎ (not (eqb (subregions p) 0) ≡ true)
    test (inl h) = inl ((lt_exactly _ _).1 h)
    test (inr h) = inr ((not_exactly _).1 ((ne_exactly _ _).1 h))

-- ---- the background permits privileged code where PRIVDEFENA is set, and denies all else
module _ (c : ℕ) (p : Bool) where
  facts : ((p && priv_def_ena c) ≡ true) ↔ ((p ≡ true) × (c / 4 % 2 ≡ 1))
  facts = Iff.trans (and_exactly _ _) (Iff.and Iff.rfl (eq_exactly _ _))

  pub background_exactly : (unmatched c p ≡ Permitted) ↔ ((p ≡ true) × (c / 4 % 2 ≡ 1))
  background_exactly = (λ e. facts.0 (by (p && priv_def_ena c) e), λ h. rw (facts.1 h))
    where
      by : (b : Bool) → answered b ≡ Permitted → b ≡ true
      by true e = refl
      by false e = cc

  pub background_else : ¬ ((p ≡ true) × (c / 4 % 2 ≡ 1)) → unmatched c p ≡ Denied
  background_else h = by (p && priv_def_ena c) refl
    where
      by : (b : Bool) → (p && priv_def_ena c) ≡ b → answered b ≡ Denied
      by true e = absurd (h (facts.0 e))
      by false e = refl

-- the library's test of a list of n slots
pub bad_found : (n : ℕ) (ss : List Pair) → length ss ≡ n → list_any bad ss ≡ some (bad_at ss) 0 n
bad_found n ss e = rw (any_some bad ss (record { rbar = 0; rasr = 0 }), e)

module _ (n : ℕ) (m : Mpu) (a : Access) where
  abbrev row : ℕ → Answer
  row k = row_answer ((slot_at m.slots k).rasr / 16777216 % 8) a.privileged a.kind

  judged_row : {k : ℕ} → Decides m.slots a.address n k → judged n m a ≡ row k
  unfolding judged
  judged_row {k} d =
      let less : suc k - 1 ≡ k = omega arith in
      rw ((decides_exactly _ _ _ k).0 d, ne_eqb (suc k) 0 (λ e. omega arith), less)

  judged_unmatched : deciding n m.slots a.address ≡ 0 → judged n m a ≡ unmatched m.control a.privileged
  unfolding judged
  judged_unmatched e = rw e

  -- the same by what the search from the back finds
  pub judged_found : length m.slots ≡ n → judged n m a ≡ option_map_or (λ p. row_answer (ap_field p) a.privileged a.kind) (find (matches a.address) (reverse m.slots)) (unmatched m.control a.privileged)
  unfolding judged
  judged_found e = rw (find_highest (matches a.address) m.slots (record { rbar = 0; rasr = 0 }), e) (by (eqb (deciding n m.slots a.address) 0))
    where
      by : (b : Bool) → pick b (unmatched m.control a.privileged) (row (deciding n m.slots a.address - 1)) ≡ option_map_or (λ p. row_answer (ap_field p) a.privileged a.kind) (pick b None (Some (slot_at m.slots (deciding n m.slots a.address - 1)))) (unmatched m.control a.privileged)
      by true = refl
      by false = refl

  -- ---- past the first two rules: a control that is allowed, with ENABLE set, and a byte outside the private bus
  module _ (held : allowed m.control ≡ true) (out : private_bus a.address ≡ false) (on : enables m.control ≡ true) where
    searched : decision n m a ≡ Ok (pick (some (bad_at m.slots) 0 n) Undefined (judged n m a))
    unfolding decision
    searched = rw (held, out, on)

    -- rule 3: a bad slot, matching or not
    pub bad_undefined : (k : ℕ) → k < n → bad (slot_at m.slots k) ≡ true → decision n m a ≡ Ok Undefined
    bad_undefined k h e = rw (searched, (some_exactly (bad_at m.slots) zero-le).1 (k, zero-le, h, e))

    module _ (sound : (k : ℕ) → k < n → bad (slot_at m.slots k) ≡ false) where
      reached : decision n m a ≡ Ok (judged n m a)
      reached = rw (searched, (none_exactly (bad_at m.slots) zero-le).1 (λ k l h. sound k h))

      -- rule 4: the highest matching slot decides
      pub decided_by_row : {k : ℕ} → Decides m.slots a.address n k → decision n m a ≡ Ok (row k)
      decided_by_row d = reached ∙ ap Ok (judged_row d)

      -- rule 5: no match
      pub decided_unmatched : ((k : ℕ) → k < n → matches a.address (slot_at m.slots k) ≡ false) → decision n m a ≡ Ok (unmatched m.control a.privileged)
      decided_unmatched h = reached ∙ ap Ok (judged_unmatched ((undecided_exactly m.slots a.address n).0 h))

    -- undefined exactly if some enabled slot is bad, or the deciding row is
    abbrev BadSlot : Type 0
    BadSlot = (k : ℕ) × (k < n) × (bad (slot_at m.slots k) ≡ true)

    abbrev BadRow : Type 0
    BadRow = (k : ℕ) × Decides m.slots a.address n k × (row k ≡ Undefined)

    pub undefined_exactly : (decision n m a ≡ Ok Undefined) ↔ (BadSlot ⊎ BadRow)
    undefined_exactly = (λ e. by (some (bad_at m.slots) 0 n) refl (value (sym searched ∙ e)), answer)
      where
        value : {x : Answer} → ◌≡◌ {A = Result Answer Refusal} (Ok x) (Ok Undefined) → x ≡ Undefined
        value e = cc

        never : (b : Bool) → answered b ≡ Undefined → ⊥
        never true e = let z : ◌≡◌ {A = ℕ} 0 1 = cc in omega arith
        never false e = let z : ◌≡◌ {A = ℕ} 0 1 = cc in omega arith

        slot : (r : ℕ) → deciding n m.slots a.address ≡ r → judged n m a ≡ Undefined → BadRow
        slot zero e u = absurd (never (a.privileged && priv_def_ena m.control) (sym (judged_unmatched e) ∙ u))
        slot (suc k) e u = let d = (decides_exactly m.slots a.address n k).1 e in (k, d, sym (judged_row d) ∙ u)

        by : (b : Bool) → some (bad_at m.slots) 0 n ≡ b → pick b Undefined (judged n m a) ≡ Undefined → BadSlot ⊎ BadRow
        by true e u = let w = (some_exactly (bad_at m.slots) zero-le).0 e in inl (w.0, w.2, w.3)
        by false e u = inr (slot _ refl u)

        answer : BadSlot ⊎ BadRow → decision n m a ≡ Ok Undefined
        answer (inl w) = bad_undefined w.0 w.1 w.2
        answer (inr w) = rw (searched, judged_row w.1 ∙ w.2) (ap Ok (pick_same (some (bad_at m.slots) 0 n) Undefined))
