-- Text that stands at a place: one text after the other is the two as one, since what lies after the first is what is left of the bytes. And what is
-- put into a buffer stands there. Assumes nothing.
use mathlib.Core.Path.{◌≡◌, refl, sym, ◌∙◌, ap}
use mathlib.Core.List.{List, ◌∷◌, ◌++◌, append_assoc}
use Prim.Native.Nat.{ℕ, ◌+◌, ◌≤◌, ◌<◌}
use native.Mathlib.Nat.{add-zero, add_assoc}
use native.Mathlib.Omega.{arith}
use lib.ListN.{length, get_or, take, drop, length-append, length-drop}
use lib.Seq.{length-take-le, drop-append_seam, drop_at, drop-drop, get_or-drop}
use Rattle.text.specs.Put.{over}
use Rattle.std.proofs.Common.{Some}
use Rattle.text.specs.Read.{Read, Stands}

-- after s, whatever it is followed by
after : (bytes : List ℕ) (at : ℕ) (s rest : List ℕ) → drop at bytes ≡ s ++ rest → drop (at + length s) bytes ≡ rest
after bytes at s rest e = sym (drop-drop (length s) at bytes) ∙ ap (λ (l : List ℕ). drop (length s) l) e ∙ drop-append_seam s rest

pub stands : (bytes : List ℕ) (at : ℕ) (s rest : List ℕ) → drop at bytes ≡ s ++ rest → Stands bytes at s (at + length s)
stands bytes at s rest e = record { text = e ∙ ap (λ (l : List ℕ). s ++ l) (sym (after bytes at s rest e)); next = refl }

module _ (bytes : List ℕ) (at : ℕ) (s t : List ℕ) (p : ℕ) where
  pub stands_join : {q : ℕ} → Stands bytes at s q → Stands bytes q t p → Stands bytes at (s ++ t) p
  stands_join v w =
      record {
        text = v.text ∙ ap (λ (l : List ℕ). s ++ l) w.text ∙ sym (append_assoc s t (drop p bytes));
        next = w.next ∙ ap (λ (k : ℕ). k + length t) v.next ∙ rw (length-append, add_assoc);
      }

  pub stands_apart : Stands bytes at (s ++ t) p → Stands bytes at s (at + length s) × Stands bytes (at + length s) t p
  stands_apart w =
      let e : drop at bytes ≡ s ++ (t ++ drop p bytes) = w.text ∙ append_assoc s t (drop p bytes) in
      (stands bytes at s _ e, record { text = after bytes at s _ e; next = w.next ∙ rw (length-append, add_assoc) })

-- ---- two answers of one thing read
pub read_one : {X : Type 0} {u v : X} {p q : ℕ} → ◌≡◌ {A = Read X} (Some (u, p)) (Some (v, q)) → (u ≡ v) × (p ≡ q)
read_one {X} {u} {v} {p} {q} e = let s : ◌≡◌ {A = X × ℕ} (u, p) (v, q) = cc in (ap (λ (r : X × ℕ). r.0) s, ap (λ (r : X × ℕ). r.1) s)

-- ---- what standing tells
pub get_or-first : (at : ℕ) (bytes : List ℕ) → get_or (drop at bytes) 0 0 ≡ get_or bytes at 0
get_or-first at bytes = get_or-drop at bytes 0 0 ∙ rw add-zero

pub stands_first : (bytes : List ℕ) (at b : ℕ) (s : List ℕ) (p : ℕ) → Stands bytes at (b ∷ s) p → get_or bytes at 0 ≡ b
stands_first bytes at b s p w = sym (get_or-first at bytes) ∙ ap (λ (l : List ℕ). get_or l 0 0) w.text

pub stands_within : (bytes : List ℕ) (at : ℕ) (s : List ℕ) (p : ℕ) → 0 < length s → Stands bytes at s p → p ≤ length bytes
stands_within bytes at s p h w = omega (arith, w.next, simp (length-append, length-drop) at (ap length w.text))

-- ---- where text stands
module _ (pre s rest : List ℕ) where
  from : drop (length pre) (pre ++ s ++ rest) ≡ s ++ rest
  from = rw append_assoc (drop-append_seam pre (s ++ rest))

  pub stands_between : Stands (pre ++ s ++ rest) (length pre) s (length pre + length s)
  stands_between = stands (pre ++ s ++ rest) (length pre) s rest from

  pub first_after : get_or (pre ++ s ++ rest) (length pre + length s) 0 ≡ get_or rest 0 0
  first_after =
      sym (get_or-first (length pre + length s) (pre ++ s ++ rest)) ∙ ap (λ (l : List ℕ). get_or l 0 0) (after (pre ++ s ++ rest) (length pre) s rest from)

module _ (out : List ℕ) (at : ℕ) (s : List ℕ) (h : at + length s ≤ length out) where
  from_put : drop at (over out at s) ≡ s ++ drop (at + length s) out
  from_put = rw append_assoc (drop_at (take at out) (s ++ drop (at + length s) out) at (length-take-le at out (omega arith)))

  pub stands_put : Stands (over out at s) at s (at + length s)
  stands_put = stands (over out at s) at s (drop (at + length s) out) from_put

  -- what is put leaves what is after it
  pub first_over : get_or (over out at s) (at + length s) 0 ≡ get_or out (at + length s) 0
  first_over =
      sym (get_or-first (at + length s) (over out at s)) ∙ ap (λ (l : List ℕ). get_or l 0 0) (after (over out at s) at s (drop (at + length s) out) from_put)
      ∙ get_or-first (at + length s) out
