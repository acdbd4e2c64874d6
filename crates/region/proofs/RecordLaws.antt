-- A list of records gives, at each place, the range of the record that lies there; and flat words taken three by three give the ranges that `record_at` reads in the
-- words, so that they are judged alike. Assumes nothing.
use mathlib.Core.Path.{◌≡◌, sym, ◌∙◌, ap}
use mathlib.Core.List.{List, map}
use Prim.Native.Nat.{ℕ, zero, suc, ◌+◌, ◌*◌, ◌/◌, ◌<◌}
use native.Mathlib.Nat.{not-suc-le-zero}
use native.Mathlib.Omega.{arith}
use lib.Dec.{lit<}
use lib.ListN.{length, get_or, drop}
use lib.Seq.{get_or-take}
use Rattle.std.proofs.lemmas.List.{get_or-map, get_or-drop}
use Rattle.std.specs.Simd.{first_chunks}
use Rattle.region.specs.declared.Range.{Range}
use Rattle.region.specs.List.{range_in, range_at, record_at, judged}
use Rattle.region.proofs.UnreadLaws.{same_below}

pub range_there : {X : Type 0} (f : X → Range) (xs : List X) (i : ℕ) (r : X) → i < length xs → r ≡ get_or xs i r → f r ≡ range_at (map f xs) i
range_there f xs i r h e = ap f e ∙ sym (get_or-map f xs i r (record { base = 0; size = 0 }) h)

-- record i of the first k is words 3 i and 3 i + 1
whole_at : (k i : ℕ) (ws : List ℕ) → i < k → range_at (map range_in (first_chunks 3 k ws)) i ≡ record_at ws i
whole_at zero i ws h = absurd (not-suc-le-zero h)
whole_at (suc k) zero ws h = λ m. record { base = get_or-take 3 ws 0 0 (lit< tt) m; size = get_or-take 3 ws 1 0 (lit< tt) m }
whole_at (suc k) (suc i) ws h =
    let e : 3 + 3 * i ≡ 3 * suc i = omega arith in
    let f : 3 + (3 * i + 1) ≡ 3 * suc i + 1 = omega arith in
    whole_at k i (drop 3 ws) (omega (arith, h)) ∙ (λ m. record { base = (get_or-drop 3 ws (3 * i) 0 ∙ ap (λ (a : ℕ). get_or ws a 0) e) m; size = (get_or-drop 3 ws (3 * i + 1) 0 ∙ ap (λ (a : ℕ). get_or ws a 0) f) m })

pub whole_list : (ws : List ℕ) (rs : List (List ℕ)) (n : ℕ) → rs ≡ first_chunks 3 (length ws / 3) ws → length rs ≡ length ws / 3
    → judged (range_at (map range_in rs)) (length rs) n ≡ judged (record_at ws) (length ws / 3) n
whole_list ws rs n e l =
    (λ k. judged (range_at (map range_in (e k))) (l k) n) ∙ same_below (range_at (map range_in (first_chunks 3 (length ws / 3) ws))) (record_at ws) (length ws / 3) n (λ i h. whole_at (length ws / 3) i ws h)
