-- Triples made by hand, in the paper's own numbers: when they are accepted, which number they get, what is handed back. The first bad one is the least
-- place whose triple has a number, and a triple's number says what is wrong with it. Assumes nothing.
use mathlib.Core.Path.{◌≡◌, refl, sym, ◌∙◌, ap}
use mathlib.Core.Bool.{Bool, true, false, not, true≢false}
use mathlib.Core.List.{List}
use mathlib.Core.Logic.Iff
use mathlib.Core.Logic.{◌↔◌, ◌⊎◌, inl, inr, ⊎_elim}
use Prim.Native.Nat.{ℕ, ◌+◌, ◌/◌, ◌%◌, ◌≤◌, ◌<◌, zero-le}
use native.Mathlib.Decide.{dec_lt}
use native.Mathlib.Omega.{arith}
use borrow.Author.Tests.{eq-eqb, ne_eqb, eqb-true, not-false}
use lib.ListN.{get_or}
use Rattle.laws.specs.Search.{Least}
use Rattle.laws.proofs.BoolLaws.{fails_exactly}
use Rattle.laws.proofs.SearchLaws.{lowest_least, least_one}
use Rattle.device.specs.declared.Mpu.{Mpu}
use Rattle.device.specs.declared.Write.{Write}
use Rattle.device.specs.Registers.{allowed}
use Rattle.device.specs.RegisterWrite.{triple_no}
use Rattle.device.proofs.ControlLaws.{Allowed, allowed_exactly}
use Rattle.device.proofs.RefusedWriteLaws.{ten_exactly, eleven_exactly, twelve_exactly, zero_exactly}
use Rattle.switch.specs.Applied.{Applied, is_bad, first_bad, applied}
use Rattle.switch.proofs.StartNo.{zeros}
use Rattle.switch.proofs.AppliedLaws.{applied_12, applied_bad, applied_all}

-- the triple at a place
abbrev pub at : List Write → ℕ → Write
at ws i = get_or ws i (record { rnr = 0; rbar = 0; rasr = 0 })

-- ---- sound by itself; and bad: 10, no such register; 11, RBAR bit 4; 12, the control's value
abbrev pub Sound : ℕ → Write → Type 0
Sound n w = ((w.rnr < n) × (w.rbar / 16 % 2 ≡ 0)) ⊎ ((w.rnr ≡ 4294967295) × Allowed w.rasr)

abbrev pub Bad10 : ℕ → Write → Type 0
Bad10 n w = (n ≤ w.rnr) × (¬ (w.rnr ≡ 4294967295))

abbrev pub Bad11 : ℕ → Write → Type 0
Bad11 n w = (w.rnr < n) × (w.rbar / 16 % 2 ≡ 1)

abbrev pub Bad12 : Write → Type 0
Bad12 w = (w.rnr ≡ 4294967295) × (¬ Allowed w.rasr)

not_allowed : (c : ℕ) → (allowed c ≡ false) ↔ (¬ Allowed c)
not_allowed c = fails_exactly (allowed_exactly c)

module _ (n : ℕ) (few : n ≤ 4294967295) where
  pub sound_exactly : (w : Write) → (triple_no n w ≡ 0) ↔ Sound n w
  sound_exactly w = Iff.trans (zero_exactly n w few) (
    λ z. ⊎_elim (λ h. inl (h.0, omega (arith, h.1))) (λ h. inr (h.0, (allowed_exactly w.rasr).0 h.1)) z,
    λ z. ⊎_elim (λ h. inl (h.0, λ e. omega (arith, e, h.1))) (λ h. inr (h.0, (allowed_exactly w.rasr).1 h.1)) z,
  )

  module _ (m : Mpu) (ws : List Write) where
    -- the lowest place of a triple that P holds of, every triple before it being sound
    pub record First (P : Write → Type 0) : Type 0 where
      pub place : ℕ
      pub within : place < n + 2
      pub here : P (at ws place)
      pub before : (j : ℕ) → j < place → Sound n (at ws j)

    least : Least (is_bad n ws) 0 (n + 2) (first_bad n ws)
    least = lowest_least (is_bad n ws) zero-le

    found : (k : ℕ) → ¬ (k ≡ 0) → (f : First (λ w. triple_no n w ≡ k)) → first_bad n ws ≡ f.place
    found k z f =
        least_one (is_bad n ws) least (record { from = zero-le; within = omega (arith, f.within); passes = λ h. ap not (ne_eqb _ _ (λ e. z (sym f.here ∙ e))); none = λ j l u. ap not (eq-eqb _ _ ((sound_exactly _).1 (f.before j u))) })

    module _ (held : allowed m.control ≡ true) where
      by_triple : (k : ℕ) → ¬ (k ≡ 0) → ((applied n m ws).no ≡ k) ↔ First (λ w. triple_no n w ≡ k)
      by_triple k z = (by (dec_lt (first_bad n ws) (n + 2)), given)
        where
          by : Dec (first_bad n ws < n + 2) → (applied n m ws).no ≡ k → First (λ w. triple_no n w ≡ k)
          by (yes h) e =
              record { place = first_bad n ws; within = h; here = sym (ap (λ (r : Applied). r.no) (applied_bad n m ws held h)) ∙ e; before = λ j u. (sound_exactly _).0 (eqb-true _ _ (not-false _ (least.none j zero-le u))) }
          by (no h) e = absurd (z (sym e ∙ ap (λ (r : Applied). r.no) (applied_all n m ws held (omega arith))))

          given : First (λ w. triple_no n w ≡ k) → (applied n m ws).no ≡ k
          given f =
              let same = found k z f in
              ap (λ (r : Applied). r.no) (applied_bad n m ws held (rw same f.within)) ∙ ap (λ (i : ℕ). triple_no n (at ws i)) same ∙ f.here

    -- ---- the held control, and then the first bad triple
    by_held : (k : ℕ) → ¬ (k ≡ 0) → ((applied n m ws).no ≡ k) ↔ (((¬ Allowed m.control) × (12 ≡ k)) ⊎ (Allowed m.control × First (λ w. triple_no n w ≡ k)))
    by_held k z = by (allowed m.control) refl
      where
        by : (b : Bool) → allowed m.control ≡ b → ((applied n m ws).no ≡ k) ↔ (((¬ Allowed m.control) × (12 ≡ k)) ⊎ (Allowed m.control × First (λ w. triple_no n w ≡ k)))
        by true h =
            let may = (allowed_exactly m.control).0 h in
            (λ e. inr (may, (by_triple h k z).0 e), λ s. ⊎_elim (λ q. absurd (q.0 may)) (λ q. (by_triple h k z).1 q.1) s)
        by false h =
            let barred = (not_allowed m.control).0 h in
            let twelve = ap (λ (r : Applied). r.no) (applied_12 n m ws h) in
            (λ e. inl (barred, sym twelve ∙ e), λ s. ⊎_elim (λ q. twelve ∙ q.1) (λ q. absurd (barred q.0)) s)

    first_as : {P Q : Write → Type 0} → ((w : Write) → P w → Q w) → First P → First Q
    first_as g f = record { place = f.place; within = f.within; here = g _ f.here; before = f.before }

    -- 10 and 11: the held control allowed, and the first bad triple bad in this way
    pub ten_given : ((applied n m ws).no ≡ 10) ↔ (Allowed m.control × First (Bad10 n))
    ten_given = Iff.trans (by_held 10 (λ e. omega (arith, e))) (
      λ s. ⊎_elim (λ q. absurd (omega (arith, q.1))) (λ q. (q.0, first_as (λ w. (ten_exactly n w).0) q.1)) s,
      λ q. inr (q.0, first_as (λ w. (ten_exactly n w).1) q.1),
    )

    pub eleven_given : ((applied n m ws).no ≡ 11) ↔ (Allowed m.control × First (Bad11 n))
    eleven_given = Iff.trans (by_held 11 (λ e. omega (arith, e))) (
      λ s. ⊎_elim (λ q. absurd (omega (arith, q.1))) (λ q. (q.0, first_as (λ w. (eleven_exactly n w).0) q.1)) s,
      λ q. inr (q.0, first_as (λ w. (eleven_exactly n w).1) q.1),
    )

    -- 12: the held control is not allowed, or the first bad triple is a control's
    pub twelve_given : ((applied n m ws).no ≡ 12) ↔ ((¬ Allowed m.control) ⊎ (Allowed m.control × First Bad12))
    twelve_given = Iff.trans (by_held 12 (λ e. omega (arith, e))) (
      λ s. ⊎_elim (λ q. inl q.0) (λ q. inr (q.0, first_as bad q.1)) s,
      λ s. ⊎_elim (λ h. inl (h, refl)) (λ q. inr (q.0, first_as back q.1)) s,
    )
      where
        bad : (w : Write) → triple_no n w ≡ 12 → Bad12 w
        bad w e = let q = (twelve_exactly n w few).0 e in (q.0, (not_allowed w.rasr).0 q.1)

        back : (w : Write) → Bad12 w → triple_no n w ≡ 12
        back w q = (twelve_exactly n w few).1 (q.0, (not_allowed w.rasr).1 q.1)

    -- accepted exactly if the held control is allowed and every triple is sound by itself
    pub accepted_exactly : ((applied n m ws).no ≡ 0) ↔ (Allowed m.control × ((i : ℕ) → i < n + 2 → Sound n (at ws i)))
    accepted_exactly = (λ e. by (allowed m.control) refl (dec_lt (first_bad n ws) (n + 2)) e, taken)
      where
        by : (b : Bool) → allowed m.control ≡ b → Dec (first_bad n ws < n + 2) → (applied n m ws).no ≡ 0 → Allowed m.control × ((i : ℕ) → i < n + 2 → Sound n (at ws i))
        by false h d e = absurd (omega (arith, e, ap (λ (r : Applied). r.no) (applied_12 n m ws h)))
        by true h (yes l) e = absurd (true≢false (sym (least.passes l) ∙ ap not (eq-eqb _ _ (sym (ap (λ (r : Applied). r.no) (applied_bad n m ws h l)) ∙ e))))
        by true h (no l) e = ((allowed_exactly m.control).0 h, λ i u. (sound_exactly _).0 (eqb-true _ _ (not-false _ (least.none i zero-le (omega (arith, u))))))

        taken : Allowed m.control × ((i : ℕ) → i < n + 2 → Sound n (at ws i)) → (applied n m ws).no ≡ 0
        taken q = ap (λ (r : Applied). r.no) (applied_all n m ws ((allowed_exactly m.control).1 q.0) (omega (arith, none)))
          where
            none : first_bad n ws < n + 2 → ⊥
            none l = true≢false (sym (least.passes l) ∙ ap not (eq-eqb _ _ ((sound_exactly _).1 (q.1 _ l))))

    -- ---- what is handed back: refused, the MPU as received and a log of zeros; accepted, the log is the triples
    pub refused_same : ¬ ((applied n m ws).no ≡ 0) → applied n m ws ≡ record { no = (applied n m ws).no; mpu = m; log = zeros n }
    unfolding applied
    refused_same h = rw (ne_eqb _ _ h)

    pub accepted_log : (applied n m ws).no ≡ 0 → (applied n m ws).log ≡ ws
    unfolding applied
    accepted_log e = rw e
