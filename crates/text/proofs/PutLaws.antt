-- What is put where it fits, and that one text after the other is the two as one. A buffer with s in it is three lists, one after the other,
-- whose lengths are known. Assumes nothing.
use mathlib.Core.Path.{◌≡◌, sym, ◌∙◌, ap}
use mathlib.Core.List.{List, ◌++◌, append_assoc}
use Prim.Native.Nat.{ℕ, ◌+◌, ◌-◌, ◌≤◌, ◌<◌}
use native.Mathlib.Nat.{add_assoc}
use native.Mathlib.Omega.{arith}
use borrow.Author.Tests.{le-leb, lt-leb}
use lib.ListN.{length, get_or, take, drop, length-append, length-drop, get_or-append}
use lib.Seq.{length-take-le, take_all, take_at, drop-append-add, drop-drop, get_or-append-add, get_or-take, get_or-drop}
use Rattle.std.proofs.Common.{Some, None}
use Rattle.text.specs.Put.{over, put, after}

-- a part to the end of the whole
pub to_the_end : (l : List ℕ) (i : ℕ) {n : ℕ} → length l ≡ n → take (n - i) (drop i l) ≡ drop i l
to_the_end l i {n} e = take_all (n - i) (drop i l) (simp length-drop (omega arith))

module _ (out : List ℕ) (at : ℕ) (s : List ℕ) where
  pub put_fits : at + length s ≤ length out → (Some (at + length s) ≡ put out at s) × (over out at s ≡ after out at s)
  unfolding put after
  put_fits h = (rw (le-leb _ _ h), rw (le-leb _ _ h))

  pub put_full : length out < at + length s → (None ≡ put out at s) × (out ≡ after out at s)
  unfolding put after
  put_full h = (rw (lt-leb _ _ h), rw (lt-leb _ _ h))

  module _ (h : at + length s ≤ length out) where
    head : length (take at out ++ s) ≡ at + length s
    head = length-append (take at out) s ∙ ap (λ (k : ℕ). k + length s) (length-take-le at out (omega arith))

    pub length_over : length (over out at s) ≡ length out
    length_over = simp (length-append, length-drop, length-take-le at out (omega arith)) (omega arith)

    pub take_over : take (at + length s) (over out at s) ≡ take at out ++ s
    take_over = take_at (take at out ++ s) _ (at + length s) head

    drop_over : (k : ℕ) → drop (at + length s + k) (over out at s) ≡ drop (at + length s + k) out
    drop_over k =
        ap (λ (n : ℕ). drop (n + k) (over out at s)) (sym head) ∙ drop-append-add (take at out ++ s) (drop (at + length s) out) k
        ∙ drop-drop k (at + length s) out

    -- t straight after s is s and t at once
    pub over_over : (t : List ℕ) → over (over out at s) (at + length s) t ≡ over out at (s ++ t)
    over_over t = rw (take_over, drop_over (length t), length-append, append_assoc (take at out) s t, add_assoc)

    -- byte by byte: s from the place on, every byte before it and behind it as it was
    pub byte_before : (j d : ℕ) → j < at → get_or (after out at s) j d ≡ get_or out j d
    byte_before j d l =
        rw (← (put_fits h).1)
        (get_or-append (take at out ++ s) (drop (at + length s) out) d j (rw head (omega arith))
        ∙ get_or-append (take at out) s d j (rw (length-take-le at out (omega arith)) l)
        ∙ get_or-take at out j d l)

    pub byte_put : (j d : ℕ) → j < length s → get_or (after out at s) (at + j) d ≡ get_or s j d
    byte_put j d l =
        rw (← (put_fits h).1)
        (get_or-append (take at out ++ s) (drop (at + length s) out) d (at + j) (rw head (omega arith))
        ∙ ap (λ (k : ℕ). get_or (take at out ++ s) (k + j) d) (sym (length-take-le at out (omega arith)))
        ∙ get_or-append-add (take at out) s j d)

    pub byte_behind : (j d : ℕ) → get_or (after out at s) (at + length s + j) d ≡ get_or out (at + length s + j) d
    byte_behind j d =
        rw (← (put_fits h).1)
        (ap (λ (k : ℕ). get_or (over out at s) (k + j) d) (sym head)
        ∙ get_or-append-add (take at out ++ s) (drop (at + length s) out) j d
        ∙ get_or-drop (at + length s) out j d)

-- what stands before the end of t, s and t being put one after the other
pub take_both : (out : List ℕ) (at : ℕ) (s t : List ℕ) → at + length s + length t ≤ length out → take (at + length s + length t) (over (over out at s) (at + length s) t) ≡ take at out ++ (s ++ t)
take_both out at s t h =
    take_over (over out at s) (at + length s) t (rw (length_over out at s (omega arith)) h) ∙ rw (take_over out at s (omega arith), append_assoc)

-- where both fit, t put straight after s is s and t put at once
pub put_two : (out : List ℕ) (at : ℕ) (s t : List ℕ) → at + length s + length t ≤ length out →
    (put (after out at s) (at + length s) t ≡ put out at (s ++ t)) × (after (after out at s) (at + length s) t ≡ after out at (s ++ t))
put_two out at s t h =
    let one = put_fits out at s (omega arith) in
    let two = put_fits (over out at s) (at + length s) t (rw (length_over out at s (omega arith)) h) in
    let both = put_fits out at (s ++ t) (rw (length-append, ← add_assoc) h) in
    (rw (← one.1, ← two.0, ← both.0, length-append, add_assoc), rw (← one.1, ← two.1, ← both.1) (over_over out at s (omega arith) t))
