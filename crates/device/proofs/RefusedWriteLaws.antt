-- Each number of a register write is given exactly if the paper says so: the laws of refusal lists, with the conditions read as facts. A register is
-- a slot, the control or neither, and a slot's number is below the control's. Assumes nothing.
use mathlib.Core.Path.{◌≡◌, refl, sym, ◌∙◌}
use mathlib.Core.Bool.{Bool, true, false, not, ◌&&◌, true≢false}
use mathlib.Core.Logic.Iff
use mathlib.Core.Logic.{◌↔◌, ◌⊎◌, inl, inr, ⊎_elim, true-and}
use Prim.Native.Nat.{ℕ, ◌/◌, ◌%◌, ◌≤◌, ◌<◌}
use borrow.Author.Tests.{lt-ltb, le-ltb, ltb-true, eq-eqb, eqb-true, ne_eqb, eqb-false, not-false}
use lib.Dec.{lit<}
use Rattle.laws.specs.Pick.{pick}
use Rattle.laws.specs.Refuse.{Quiet}
use Rattle.laws.proofs.RefuseLaws.{given, accepted}
use Rattle.device.specs.declared.Mpu.{Mpu}
use Rattle.device.specs.declared.Write.{Write}
use Rattle.device.specs.Registers.{ctrl, allowed}
use Rattle.device.specs.RegisterWrite.{slot_named, ctrl_named, valid_bit, triple_refusals, triple_no, write_no, write_register}
use Rattle.laws.proofs.TestLaws.{and_exactly, not_exactly, lt_exactly, ge_exactly, eq_exactly, ne_exactly}

-- ---- by the triple alone
module _ (n : ℕ) (w : Write) where
  -- 10: the register is neither a slot nor the control
  pub ten_exactly : (triple_no n w ≡ 10) ↔ ((n ≤ w.rnr) × (¬ (w.rnr ≡ 4294967295)))
  unfolding triple_no triple_refusals
  ten_exactly =
      Iff.trans (given (triple_refusals n w) refl refl 0 (lit< tt))
      (Iff.trans true-and
      (Iff.trans (and_exactly (not (slot_named n w)) (not (ctrl_named w)))
      (Iff.and (Iff.trans (not_exactly _) (ge_exactly _ _)) (Iff.trans (not_exactly _) (ne_exactly _ _)))))

  -- 11: a slot, with RBAR bit 4 set
  pub eleven_exactly : (triple_no n w ≡ 11) ↔ ((w.rnr < n) × (w.rbar / 16 % 2 ≡ 1))
  unfolding triple_no triple_refusals
  eleven_exactly =
      Iff.trans (given (triple_refusals n w) refl refl 1 (lit< tt))
      (λ q. facts.0 q.1, λ h. ((rw (lt-ltb _ _ h.0), tt), facts.1 h))
    where
      facts : ((slot_named n w && valid_bit w) ≡ true) ↔ ((w.rnr < n) × (w.rbar / 16 % 2 ≡ 1))
      facts = Iff.trans (and_exactly (slot_named n w) (valid_bit w)) (Iff.and (lt_exactly _ _) (eq_exactly _ _))

  module _ (fewer : n ≤ 4294967295) where
    -- the control is no slot
    above : w.rnr ≡ ctrl → slot_named n w ≡ false
    above e = rw e (le-ltb ctrl n fewer)

    -- 12: the control, with a value that is not allowed
    pub twelve_exactly : (triple_no n w ≡ 12) ↔ ((w.rnr ≡ 4294967295) × (allowed w.rasr ≡ false))
    unfolding triple_no triple_refusals
    twelve_exactly =
        Iff.trans (given (triple_refusals n w) refl refl 2 (lit< tt))
        (λ q. facts.0 q.1, λ h. ((rw (above h.0, eq-eqb _ _ h.0), (rw (above h.0), tt)), facts.1 h))
      where
        facts : ((ctrl_named w && not (allowed w.rasr)) ≡ true) ↔ ((w.rnr ≡ ctrl) × (allowed w.rasr ≡ false))
        facts = Iff.trans (and_exactly (ctrl_named w) (not (allowed w.rasr))) (Iff.and (eq_exactly _ _) (not_exactly _))

    -- 0: a slot with bit 4 clear, or the control with a value that is allowed
    pub zero_exactly : (triple_no n w ≡ 0) ↔ (((w.rnr < n) × (¬ (w.rbar / 16 % 2 ≡ 1))) ⊎ ((w.rnr ≡ 4294967295) × (allowed w.rasr ≡ true)))
    unfolding triple_no triple_refusals
    zero_exactly = Iff.trans (accepted (triple_refusals n w) refl) (by (slot_named n w) (ctrl_named w) refl refl, quiet)
      where
        by : (s k : Bool) → slot_named n w ≡ s → ctrl_named w ≡ k → Quiet (triple_refusals n w) → ((w.rnr < n) × (¬ (w.rbar / 16 % 2 ≡ 1))) ⊎ ((w.rnr ≡ ctrl) × (allowed w.rasr ≡ true))
        by true k e f q = inl (ltb-true _ _ e, eqb-false _ _ (rw e at q.1.0))
        by false true e f q = inr (eqb-true _ _ f, not-false _ (rw f at q.1.1.0))
        by false false e f q = absurd (true≢false (rw (e, f) at q.0))

        quiet : ((w.rnr < n) × (¬ (w.rbar / 16 % 2 ≡ 1))) ⊎ ((w.rnr ≡ ctrl) × (allowed w.rasr ≡ true)) → Quiet (triple_refusals n w)
        quiet (inl h) = (rw (lt-ltb _ _ h.0), (rw (lt-ltb _ _ h.0, ne_eqb _ _ h.1), (rw (ne_eqb _ _ (λ e. true≢false (sym (lt-ltb _ _ h.0) ∙ above e))), tt)))
        quiet (inr h) = (rw (above h.0, eq-eqb _ _ h.0), (rw (above h.0), (rw (eq-eqb _ _ h.0, h.1), tt)))

-- ---- with the held control
module _ (n : ℕ) (m : Mpu) (w : Write) where
  -- a bad held control refuses every write, also the one that would mend it
  pub held_bad : allowed m.control ≡ false → write_register n m w ≡ record { no = 12; mpu = m }
  unfolding write_register write_no
  held_bad e = rw e

  pub held_allowed : allowed m.control ≡ true → write_no n m w ≡ triple_no n w
  unfolding write_no triple_no
  held_allowed e = rw e

  -- a write's number: the triple's own where the held control is allowed, 12 where it is not
  pub number_exactly : (k : ℕ) → (write_no n m w ≡ k) ↔ (((allowed m.control ≡ true) × (triple_no n w ≡ k)) ⊎ ((allowed m.control ≡ false) × (12 ≡ k)))
  unfolding write_no triple_no
  number_exactly k = by (allowed m.control)
    where
      by : (h : Bool) → (pick (not h) 12 (triple_no n w) ≡ k) ↔ (((h ≡ true) × (triple_no n w ≡ k)) ⊎ ((h ≡ false) × (12 ≡ k)))
      by true = (λ e. inl (refl, e), λ c. ⊎_elim (λ p. p.1) (λ p. absurd (true≢false p.0)) c)
      by false = (λ e. inr (refl, e), λ c. ⊎_elim (λ p. absurd (true≢false (sym p.0))) (λ p. p.1) c)

  -- a refused write hands back the MPU as received
  pub refused_kept : ¬ (write_no n m w ≡ 0) → write_register n m w ≡ record { no = write_no n m w; mpu = m }
  unfolding write_register
  refused_kept h = rw (ne_eqb _ _ h)
