-- When a start gets each number: the refusal list read by its law, its conditions in the paper's numbers. Assumes nothing.
use mathlib.Core.Path.{◌≡◌, refl}
use mathlib.Core.List.{List, [], ◌∷◌}
use mathlib.Core.Bool.{true, false, not}
use mathlib.Core.Logic.Iff
use mathlib.Core.Logic.{◌↔◌}
use Prim.Native.Nat.{ℕ, ◌≤◌, ◌<◌}
use lib.Dec.{lit<}
use Rattle.laws.specs.Refuse.{Refusal, ◌⇒◌}
use Rattle.laws.proofs.BoolLaws.{fails_exactly}
use Rattle.laws.proofs.RefuseLaws.{given, accepted}
use Rattle.laws.proofs.TestLaws.{not_exactly, unless_exactly, lt_exactly, ge_exactly}
use Rattle.device.specs.declared.Mpu.{Mpu}
use Rattle.device.specs.Registers.{allowed}
use Rattle.device.proofs.ControlLaws.{Allowed, allowed_exactly}
use Rattle.table.specs.declared.Table.{Table}
use Rattle.table.specs.Lawful.{lawful}
use Rattle.table.specs.Covers.{beyond}
use Rattle.switch.specs.Switch.{start_no}

module _ (n : ℕ) (m : Mpu) (t : Table) (p : ℕ) where
  abbrev refusals : List Refusal
  refusals = (beyond p ⇒ 1) ∷ (not (lawful n t) ⇒ 9) ∷ (not (allowed m.control) ⇒ 12) ∷ []

  above : (beyond p ≡ true) ↔ (4 ≤ p)
  above = Iff.trans (not_exactly _) (ge_exactly p 4)

  below : (beyond p ≡ false) ↔ (p < 4)
  below = Iff.trans (unless_exactly _) (lt_exactly p 4)

  unlawful : (not (lawful n t) ≡ true) ↔ (lawful n t ≡ false)
  unlawful = not_exactly _

  is_lawful : (not (lawful n t) ≡ false) ↔ (lawful n t ≡ true)
  is_lawful = unless_exactly _

  barred : (not (allowed m.control) ≡ true) ↔ (¬ Allowed m.control)
  barred = Iff.trans (not_exactly _) (fails_exactly (allowed_exactly m.control))

  may : (not (allowed m.control) ≡ false) ↔ Allowed m.control
  may = Iff.trans (unless_exactly _) (allowed_exactly m.control)

  pub start_1 : (start_no n m t p ≡ 1) ↔ (4 ≤ p)
  unfolding start_no
  start_1 =
      let why = given refusals refl refl 0 (lit< tt) in
      (λ e. above.0 (why.0 e).1, λ b. why.1 (tt, above.1 b))

  pub start_9 : (start_no n m t p ≡ 9) ↔ ((p < 4) × (lawful n t ≡ false))
  unfolding start_no
  start_9 =
      let why = given refusals refl refl 1 (lit< tt) in
      (λ e. let w = why.0 e in (below.0 w.0.0, unlawful.0 w.1), λ w. why.1 ((below.1 w.0, tt), unlawful.1 w.1))

  pub start_held : (start_no n m t p ≡ 12) ↔ ((p < 4) × (lawful n t ≡ true) × (¬ Allowed m.control))
  unfolding start_no
  start_held =
      let why = given refusals refl refl 2 (lit< tt) in (
        λ e. let w = why.0 e in (below.0 w.0.0, is_lawful.0 w.0.1.0, barred.0 w.1),
        λ w. why.1 ((below.1 w.0, (is_lawful.1 w.1, tt)), barred.1 w.2),
      )

  pub start_none : (start_no n m t p ≡ 0) ↔ ((p < 4) × (lawful n t ≡ true) × Allowed m.control)
  unfolding start_no
  start_none =
      let quiet = accepted refusals refl in (
        λ e. let q = quiet.0 e in (below.0 q.0, is_lawful.0 q.1.0, may.0 q.1.1.0),
        λ w. quiet.1 (below.1 w.0, (is_lawful.1 w.1, (may.1 w.2, tt))),
      )
