-- What one step does, by what its register write would answer; and its number. By the definition's two tests. Assumes nothing.
use mathlib.Core.Path.{◌≡◌, refl, sym, ◌∙◌, ap}
use mathlib.Core.Bool.{Bool, true, false}
use Prim.Native.Nat.{ℕ, ◌+◌, ◌≤◌, ◌<◌}
use borrow.Author.Tests.{le-leb, lt-leb, ne_eqb, eqb-true}
use lib.Dec.{leb, eqb}
use Rattle.laws.specs.Pick.{pick}
use Rattle.device.specs.RegisterWrite.{write_register}
use Rattle.switch.specs.declared.Switch.{Switch}
use Rattle.switch.specs.Switch.{Wrote, Finished, Refused, Stepped, due, advanced, stepped, step_no, step_due}

module _ (n : ℕ) (s : Switch) where
  pub step_finished : n + 2 ≤ s.position → stepped n s ≡ record { did = Finished; switch = s }
  unfolding stepped
  step_finished h = rw (le-leb (n + 2) s.position h)

  pub step_refused : s.position < n + 2 → ¬ ((write_register n s.mpu (due s)).no ≡ 0) → stepped n s ≡ record { did = Refused (write_register n s.mpu (due s)).no; switch = s }
  unfolding stepped
  step_refused h e = rw (lt-leb (n + 2) s.position h, ne_eqb (write_register n s.mpu (due s)).no 0 e)

  pub step_wrote : s.position < n + 2 → (write_register n s.mpu (due s)).no ≡ 0 → stepped n s ≡ record { did = Wrote; switch = advanced s (write_register n s.mpu (due s)).mpu }
  unfolding stepped
  step_wrote h e = rw (lt-leb (n + 2) s.position h, e)

  pub step_number : step_no (stepped n s).did ≡ step_due n s
  unfolding stepped step_due
  step_number = by (leb (n + 2) s.position) (eqb (write_register n s.mpu (due s)).no 0) refl
    where
      by : (l e : Bool) → eqb (write_register n s.mpu (due s)).no 0 ≡ e → step_no (pick {X = Stepped} l (record { did = Finished; switch = s }) (pick e (record { did = Wrote; switch = advanced s (write_register n s.mpu (due s)).mpu }) (record { did = Refused (write_register n s.mpu (due s)).no; switch = s }))).did ≡ pick l 0 (write_register n s.mpu (due s)).no
      by true e q = refl
      by false true q = sym (eqb-true _ _ q)
      by false false q = refl

  pub in_number : {r : Stepped} → r ≡ stepped n s → (r ≡ stepped n s) × (step_no r.did ≡ step_due n s)
  in_number e = (e, ap (λ (r : Stepped). step_no r.did) e ∙ step_number)
