-- The rows by number are the rows in turn: the first form that a line has gives the command that it means. By induction on the rows. Assumes nothing.
use mathlib.Core.Path.{◌≡◌, refl, sym, ap}
use Rattle.std.proofs.Common.{Option, Some, None}
use Rattle.form.specs.declared.Formed.{Formed}
use Rattle.form.specs.declared.Chosen.{Chosen}
use mathlib.Core.List.{List, [], ◌∷◌}
use Prim.Native.Nat.{ℕ, zero, suc, ◌+◌, ◌≤◌, zero-le}
use native.Mathlib.Omega.{arith}
use borrow.Author.Tests.{eq-eqb, ne_eqb}
use lib.ListN.{length}
use Rattle.form.specs.Form.{form_of}
use Rattle.form.specs.Choice.{or_else, first_of}
use Rattle.commands.specs.declared.Command.TheVariants.{Bad}
use Rattle.commands.specs.Command.{Row, Numbers, numbers_of, made_of, meant}
use Rattle.commands.specs.Made.{forms, made}

pub made_beyond : (k : ℕ) (rs : List Row) (at : ℕ) (v : Numbers) → k + length rs ≤ at → made k rs at v ≡ Bad
made_beyond k [] at v h = refl
made_beyond k (r ∷ rs) at v h =
    let far : ¬ (at ≡ k) = λ e. absurd (omega arith) in
    rw (ne_eqb at k far) (made_beyond (k + 1) rs at v (omega arith))

-- at is none of the first k numbers
abbrev pub Past : ℕ → ℕ → Type 0
Past zero at = Unit
Past (suc k) at = Past k at × ((at ≡ k) → ⊥)

pub past_from : (k at : ℕ) → Past k at → k ≤ at
past_from zero at p = zero-le
past_from (suc k) at p = let far : k ≤ at = past_from k at p.0 in let other : ¬ (at ≡ k) = p.1 in omega arith

module _ (line : List ℕ) where
  -- a form that is found comes no earlier than the first that is tried
  found_from : (k : ℕ) (fs : List (List ℕ)) (c : Chosen) → first_of line k fs ≡ Some c → k ≤ c.at
  unfolding first_of
  found_from k [] c e = absurd cc
  found_from k (form ∷ fs) c e = by (form_of line form) e (found_from (k + 1) fs c)
    where
      by : (r : Option Formed) → or_else r k (first_of line (k + 1) fs) ≡ Some c → (first_of line (k + 1) fs ≡ Some c → k + 1 ≤ c.at) → k ≤ c.at
      by None d rest = omega (arith, rest d)
      by (Some f) d rest = let same : record { at = k; values = f.values } ≡ c = cc in omega (arith, ap (λ (x : Chosen). x.at) same)

  pub meant_none : (k : ℕ) (rs : List Row) → first_of line k (forms rs) ≡ None → meant rs line ≡ Bad
  unfolding meant first_of
  meant_none k [] e = refl
  meant_none k (r ∷ rs) e = by (form_of line r.form) e (meant_none (k + 1) rs)
    where
      by : (x : Option Formed) → or_else x k (first_of line (k + 1) (forms rs)) ≡ None → (first_of line (k + 1) (forms rs) ≡ None → meant rs line ≡ Bad) → made_of x r.make (meant rs line) ≡ Bad
      by None d rest = rest d
      by (Some f) d rest = cc

  pub meant_found : (k : ℕ) (rs : List Row) (c : Chosen) → first_of line k (forms rs) ≡ Some c → made k rs c.at (numbers_of c.values) ≡ meant rs line
  unfolding meant first_of
  meant_found k [] c e = absurd cc
  meant_found k (r ∷ rs) c e = by (form_of line r.form) e (meant_found (k + 1) rs c) (found_from (k + 1) (forms rs) c)
    where
      by : (x : Option Formed) → or_else x k (first_of line (k + 1) (forms rs)) ≡ Some c →
          (first_of line (k + 1) (forms rs) ≡ Some c → made (k + 1) rs c.at (numbers_of c.values) ≡ meant rs line) →
          (first_of line (k + 1) (forms rs) ≡ Some c → k + 1 ≤ c.at) → made k (r ∷ rs) c.at (numbers_of c.values) ≡ made_of x r.make (meant rs line)
      by None d rest later =
          let far : ¬ (c.at ≡ k) = λ q. absurd (omega (arith, later d)) in
          rw (ne_eqb c.at k far) (rest d)
      by (Some f) d rest later =
          let same : record { at = k; values = f.values } ≡ c = cc in
          let here : c.at ≡ k = sym (ap (λ (x : Chosen). x.at) same) in
          rw (eq-eqb c.at k here, ← same)
