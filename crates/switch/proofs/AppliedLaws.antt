-- What writing one triple after another makes of an MPU: the first, and then the rest, by the list's first element. And the answer to triples made by
-- hand: by the held control, and by whether a first bad one is found. Assumes nothing.
use mathlib.Core.Path.{◌≡◌, sym, ◌∙◌, ap}
use mathlib.Core.List.{List}
use mathlib.Core.Bool.{true, false, not}
use Prim.Native.Nat.{ℕ, ◌+◌, ◌≤◌, ◌<◌, zero-le}
use native.Mathlib.Numerals.{add-one}
use native.Mathlib.Omega.{arith}
use borrow.Author.Tests.{lt-ltb, le-ltb, not-true, eq-eqb, ne_eqb}
use lib.Dec.{eqb}
use lib.ListN.{length, drop, get_or, drop_of_length-le}
use lib.Seq.{drop-cons}
use Rattle.std.specs.Prelude.{Option, Some, None, MatchOption}
use Rattle.refusal.specs.declared.Refusal.{Refusal}
use Rattle.refusal.specs.Refusal.{number}
use Rattle.refusal.proofs.NumberLaws.{number_some}
use Rattle.device.specs.declared.Mpu.{Mpu}
use Rattle.device.specs.declared.Write.{Write}
use Rattle.laws.proofs.SearchLaws.{lowest_least, least_one, none_exactly}
use Rattle.device.specs.Registers.{allowed}
use Rattle.device.specs.RegisterWrite.{refused_no, write_register}
use Rattle.sequence.specs.Sequence.{triple}
use Rattle.switch.specs.Applied.{number_at, is_bad, first_bad, bad_no, write_all, applied_no, applied}
use Rattle.switch.proofs.StartNo.{zeros}

module _ (n : ℕ) (m : Mpu) (ws : List Write) (i : ℕ) where
  pub write_next : i < length ws → write_all n m (drop i ws) ≡ write_all n (write_register n m (get_or ws i (triple 0 0 0))).mpu (drop (i + 1) ws)
  unfolding write_all
  write_next h = rw (add-one i, drop-cons ws i (triple 0 0 0) h)

  pub write_end : length ws ≤ i → write_all n m (drop i ws) ≡ m
  unfolding write_all
  write_end h = rw (drop_of_length-le ws h)

-- ---- the first bad triple's number: what a search from the front says that it found
module _ (n : ℕ) (ws : List Write) where
  pub bad_found : (r : Option Refusal) → MatchOption r ((k : ℕ) → k < n + 2 → number_at n ws k ≡ 0) (λ e. (i : ℕ) × (i < n + 2) × (number_at n ws i ≡ number e) × ((k : ℕ) → k < i → number_at n ws k ≡ 0)) → refused_no r ≡ bad_no n ws
  bad_found None h = rw ((none_exactly (is_bad n ws) {i = 0} {m = n + 2} zero-le).1 (λ k l u. ap not (eq-eqb _ _ (h k u))))
  bad_found (Some e) h =
      let at : first_bad n ws ≡ h.0 =
      least_one (is_bad n ws) (lowest_least (is_bad n ws) {i = 0} {m = n + 2} zero-le) (record { from = zero-le; within = omega (arith, h.1); passes = λ l. ap not (ne_eqb _ _ (λ q. number_some e (sym h.2 ∙ q))); none = λ k l u. ap not (eq-eqb _ _ (h.3 k u)) }) in
      rw (at, lt-ltb h.0 (n + 2) h.1) (sym h.2)

-- ---- the answer to triples made by hand, by what holds
module _ (n : ℕ) (m : Mpu) (ws : List Write) where
  pub applied_12 : allowed m.control ≡ false → applied n m ws ≡ record { no = 12; mpu = m; log = zeros n }
  unfolding applied applied_no
  applied_12 c = rw c

  module _ (c : allowed m.control ≡ true) where
    pub applied_bad : first_bad n ws < n + 2 → applied n m ws ≡ record { no = number_at n ws (first_bad n ws); mpu = m; log = zeros n }
    unfolding applied applied_no
    applied_bad h =
        let low = lowest_least (is_bad n ws) {i = 0} {m = n + 2} zero-le in
        rw (c, lt-ltb (first_bad n ws) (n + 2) h, not-true (eqb (number_at n ws (first_bad n ws)) 0) (low.passes h))

    pub applied_all : n + 2 ≤ first_bad n ws → applied n m ws ≡ record { no = 0; mpu = write_all n m ws; log = ws }
    unfolding applied applied_no
    applied_all h = rw (c, le-ltb (first_bad n ws) (n + 2) h)
