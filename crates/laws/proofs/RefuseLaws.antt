-- What a refusal's number tells, where no number of the list is 0 and no two are alike: 0 is given exactly if no condition holds, and the
-- number at place i exactly if its condition holds and none before it does. By going down the list. Assumes nothing.
use mathlib.Core.Path.{◌≡◌, refl, sym}
use mathlib.Core.Bool.{Bool, true, false, not, true≢false}
use mathlib.Core.Logic.{◌↔◌}
use mathlib.Core.List.{List, [], ◌∷◌, ◌++◌}
use Prim.Native.Nat.{ℕ, zero, suc, ◌<◌}
use native.Mathlib.Nat.{le_of_suc-le-suc, not-suc-le-zero}
use borrow.Author.Tests.{eqb-false, ne_eqb, not-true}
use lib.ListN.{length, get_or, take}
use lib.Dec.{eqb}
use Rattle.laws.specs.Pick.{pick}
use Rattle.laws.specs.Refuse.{Refusal, ◌⇒◌, refuse, Quiet, fresh, apart}
use Rattle.laws.proofs.BoolLaws.{and_left, and_right}

abbrev at : List Refusal → ℕ → Refusal
at cs i = get_or cs i (false ⇒ 0)

-- ---- a number that is fresh
module _ (k : ℕ) (c : Refusal) (cs : List Refusal) (t : fresh k (c ∷ cs) ≡ true) where
  other : c.number ≡ k → ⊥
  other = eqb-false c.number k (not-true (eqb c.number k) (and_left (not (eqb c.number k)) (fresh k cs) t))

  later : fresh k cs ≡ true
  later = and_right (not (eqb c.number k)) (fresh k cs) t

not_at : (k : ℕ) (cs : List Refusal) → fresh k cs ≡ true → (i : ℕ) → i < length cs → (at cs i).number ≡ k → ⊥
not_at k [] t i h = absurd (not-suc-le-zero h)
not_at k (c ∷ cs) t zero h = other k c cs t
not_at k (c ∷ cs) t (suc i) h = not_at k cs (later k c cs t) i (le_of_suc-le-suc h)

not_given : (k : ℕ) (cs : List Refusal) → fresh k cs ≡ true → refuse cs ≡ k → k ≡ 0
not_given k [] t e = sym e
not_given k (c ∷ cs) t e = by c.when (not_given k cs (later k c cs t)) e
  where
    by : (w : Bool) → (refuse cs ≡ k → k ≡ 0) → pick w c.number (refuse cs) ≡ k → k ≡ 0
    by true rest e = absurd (other k c cs t e)
    by false rest e = rest e

-- ---- the two laws
pub accepted : (cs : List Refusal) → fresh 0 cs ≡ true → (refuse cs ≡ 0) ↔ Quiet cs
accepted [] t = (λ e. tt, λ q. refl)
accepted (c ∷ cs) t = by c.when (accepted cs (later 0 c cs t))
  where
    by : (w : Bool) → (refuse cs ≡ 0) ↔ Quiet cs → (pick w c.number (refuse cs) ≡ 0) ↔ ((w ≡ false) × Quiet cs)
    by true rest = (λ e. absurd (other 0 c cs t e), λ q. absurd (true≢false q.0))
    by false rest = (λ e. (refl, rest.0 e), λ q. rest.1 q.1)

pub given : (cs : List Refusal) → fresh 0 cs ≡ true → apart cs ≡ true → (i : ℕ) → i < length cs → (refuse cs ≡ (at cs i).number) ↔ (Quiet (take i cs) × ((at cs i).when ≡ true))
given [] t u i h = absurd (not-suc-le-zero h)
given (c ∷ cs) t u zero h = by c.when (not_given c.number cs (and_left (fresh c.number cs) (apart cs) u))
  where
    by : (w : Bool) → (refuse cs ≡ c.number → c.number ≡ 0) → (pick w c.number (refuse cs) ≡ c.number) ↔ (Unit {0} × (w ≡ true))
    by true rest = (λ e. (tt, refl), λ q. refl)
    by false rest = (λ e. absurd (other 0 c cs t (rest e)), λ q. absurd (true≢false (sym q.1)))
given (c ∷ cs) t u (suc i) h =
    by c.when (not_at c.number cs (and_left (fresh c.number cs) (apart cs) u) i (le_of_suc-le-suc h))
    (given cs (later 0 c cs t) (and_right (fresh c.number cs) (apart cs) u) i (le_of_suc-le-suc h))
  where
    by : (w : Bool) → ((at cs i).number ≡ c.number → ⊥) → (refuse cs ≡ (at cs i).number) ↔ (Quiet (take i cs) × ((at cs i).when ≡ true)) → (pick w c.number (refuse cs) ≡ (at cs i).number) ↔ (((w ≡ false) × Quiet (take i cs)) × ((at cs i).when ≡ true))
    by true elsewhere rest = (λ e. absurd (elsewhere (sym e)), λ q. absurd (true≢false q.0.0))
    by false elsewhere rest = (λ e. ((refl, (rest.0 e).0), (rest.0 e).1), λ q. rest.1 (q.0.1, q.1))

-- one list after another: the first, unless it is quiet
pub refuse-append : (cs ds : List Refusal) → fresh 0 cs ≡ true → refuse (cs ++ ds) ≡ pick (eqb (refuse cs) 0) (refuse ds) (refuse cs)
refuse-append [] ds t = refl
refuse-append (c ∷ cs) ds t = by c.when (refuse-append cs ds (later 0 c cs t))
  where
    by : (w : Bool) → refuse (cs ++ ds) ≡ pick (eqb (refuse cs) 0) (refuse ds) (refuse cs) → pick w c.number (refuse (cs ++ ds)) ≡ pick (eqb (pick w c.number (refuse cs)) 0) (refuse ds) (pick w c.number (refuse cs))
    by true rest = rw (ne_eqb c.number 0 (other 0 c cs t))
    by false rest = rest
