-- The number of a start, test by test, and its answer, in numbers. The first two refusals are the sequence's own. Assumes nothing.
use mathlib.Core.Path.{◌≡◌, refl, ◌∙◌, ap}
use mathlib.Core.Bool.{true, false, not}
use mathlib.Core.List.{List, [], ◌∷◌}
use Prim.Native.Nat.{ℕ, ◌+◌}
use borrow.Author.Tests.{ne_eqb}
use lib.Dec.{eqb}
use lib.ListN.{replicate}
use Rattle.laws.specs.Pick.{pick}
use Rattle.laws.specs.Refuse.{◌⇒◌, refuse}
use Rattle.laws.proofs.RefuseLaws.{refuse-append}
use Rattle.std.specs.Prelude.{Result, Err}
use Rattle.refusal.specs.declared.Refusal.{Refusal}
use Rattle.refusal.proofs.NumberLaws.{number_some}
use Rattle.device.specs.declared.Mpu.{Mpu}
use Rattle.device.specs.declared.Write.{Write}
use Rattle.device.specs.Registers.{allowed}
use Rattle.table.specs.declared.Table.{Table}
use Rattle.table.specs.Lawful.{lawful}
use Rattle.table.specs.Covers.{beyond}
use Rattle.sequence.specs.Sequence.{Sequence, writes, sequence_no, sequence, sequence_of}
use Rattle.switch.specs.Switch.{start_no, sent, started, steps, whole}

-- n + 2 triples of zeros
abbrev pub zeros : ℕ → List Write
zeros n = replicate (n + 2) (record { rnr = 0; rbar = 0; rasr = 0 })

module _ (n : ℕ) (m : Mpu) (t : Table) (p : ℕ) where
  -- the list is the sequence's, and then 12
  after_sequence : start_no n m t p ≡ pick (eqb (sequence n t p).no 0) (refuse ((not (allowed m.control) ⇒ 12) ∷ [])) (sequence n t p).no
  unfolding start_no sequence sequence_no
  after_sequence = refuse-append ((beyond p ⇒ 1) ∷ (not (lawful n t) ⇒ 9) ∷ []) ((not (allowed m.control) ⇒ 12) ∷ []) refl

  pub start_refused : {k : ℕ} → start_no n m t p ≡ k → ¬ (k ≡ 0) → started n m t p ≡ record { no = k; switch = record { mpu = m; writes = zeros n; position = 0; log = zeros n } }
  unfolding started
  start_refused {k} e h = rw (e, ne_eqb k 0 h)

  pub start_sequence : ¬ ((sequence n t p).no ≡ 0) → start_no n m t p ≡ (sequence n t p).no
  start_sequence h = rw (after_sequence, ne_eqb (sequence n t p).no 0 h)

  pub start_12 : (sequence n t p).no ≡ 0 → allowed m.control ≡ false → start_no n m t p ≡ 12
  start_12 e c = rw (after_sequence, e, c)

  pub start_0 : (sequence n t p).no ≡ 0 → allowed m.control ≡ true → start_no n m t p ≡ 0
  start_0 e c = rw (after_sequence, e, c)

  -- ---- what a switch is to write: the sequence where it is refused, 12, or the sequence
  sent_refused : ¬ ((sequence n t p).no ≡ 0) → sequence n t p ≡ sent n m t p
  unfolding sequence
  sent_refused h = rw (start_sequence h, ne_eqb (sequence_no n t p) 0 h)

  pub sent_err : (r : Result (List Write) Refusal) (e : Refusal) → r ≡ Err e → sequence_of (Err e) ≡ sequence n t p → sequence_of r ≡ sent n m t p
  sent_err r e q s =
      let no = ap (λ (x : Sequence). x.no) s in
      ap sequence_of q ∙ s ∙ sent_refused (λ z. number_some e (no ∙ z))

  pub sent_12 : (sequence n t p).no ≡ 0 → allowed m.control ≡ false → record { no = 12; writes = zeros n } ≡ sent n m t p
  sent_12 e c = rw (start_12 e c)

  pub sent_0 : (sequence n t p).no ≡ 0 → allowed m.control ≡ true → sequence n t p ≡ sent n m t p
  unfolding sequence
  sent_0 e c = rw (start_0 e c, e)

  pub start_accepted : start_no n m t p ≡ 0 → started n m t p ≡ record { no = 0; switch = record { mpu = m; writes = writes n t p; position = 0; log = zeros n } }
  unfolding started
  start_accepted e = rw e

  -- ---- the whole
  pub whole_refused : ¬ ((started n m t p).no ≡ 0) → whole n m t p ≡ started n m t p
  unfolding whole started
  whole_refused h = rw (ne_eqb (start_no n m t p) 0 h)

  pub whole_accepted : (started n m t p).no ≡ 0 → whole n m t p ≡ record { no = 0; switch = steps n (n + 2) (started n m t p).switch }
  unfolding whole started
  whole_accepted h = rw h
