-- A line that fits is held as it came; one that does not is told by its length; and pieces may be cut anywhere. By induction on the bytes. Assumes nothing.
use mathlib.Core.Path.{◌≡◌, refl, sym, ◌∙◌, ap}
use mathlib.Core.Bool.{Bool, true, false}
use mathlib.Core.List.{List, [], ◌∷◌, ◌++◌, append_assoc, append-nil}
use Prim.Native.Nat.{ℕ, suc, ◌+◌, ◌≤◌, ◌<◌}
use native.Mathlib.Numerals.{add-one}
use native.Mathlib.Omega.{arith}
use borrow.Author.Tests.{lt-ltb, ltb-true, ltb-false}
use lib.Dec.{ltb}
use lib.ListN.{length, take, length-set}
use lib.Seq.{take-suc-set}
use Rattle.laws.specs.Pick.{pick}
use Rattle.form.specs.Gather.{Gathering, gathered, gather_one, gather_all}

-- bytes in two pieces are gathered as the two in turn
pub gather_pieces : (ps bs : List ℕ) (g : Gathering) → gather_all (ps ++ bs) g ≡ gather_all bs (gather_all ps g)
unfolding gather_all
gather_pieces [] bs g = refl
gather_pieces (p ∷ ps) bs g = gather_pieces ps bs (gather_one g p)

gathered_within : (room held : ℕ) → held < room → gathered room held ≡ held + 1
unfolding gathered
gathered_within room held h = rw (lt-ltb held room h)

-- what is held stays within one more than the room, and lets a line that is too long stay so
gathered_bounds : (room held n : ℕ) → room < held + suc n → (gathered room held ≤ room + 1) × (room < gathered room held + n)
unfolding gathered
gathered_bounds room held n l = by (ltb held room) refl
  where
    by : (t : Bool) → ltb held room ≡ t → (pick t (held + 1) (room + 1) ≤ room + 1) × (room < pick t (held + 1) (room + 1) + n)
    by true e = let h : held < room = ltb-true held room e in (omega arith, omega arith)
    by false e = let h : room ≤ held = ltb-false held room e in (omega arith, omega arith)

-- a line that fits
pub gather_fits : (bs : List ℕ) (g : Gathering) → g.held + length bs ≤ length g.line →
    ((gather_all bs g).held ≡ g.held + length bs) × (take (g.held + length bs) (gather_all bs g).line ≡ take g.held g.line ++ bs)
unfolding gather_all
gather_fits [] g h = let e : g.held + 0 ≡ g.held = omega arith in (sym e, ap (λ (n : ℕ). take n g.line) e ∙ sym (append-nil (take g.held g.line)))
gather_fits (b ∷ bs) g h =
    let within : g.held < length g.line = omega arith in
    let next = gathered_within (length g.line) g.held within in
    let one : (gather_one g b).held + length bs ≡ g.held + suc (length bs) = rw next (omega arith) in
    let rest = gather_fits bs (gather_one g b) (rw (one, length-set g.line g.held b) h) in (
      rest.0 ∙ one,
      ap (λ (n : ℕ). take n (gather_all bs (gather_one g b)).line) (sym one) ∙ rest.1
          ∙ rw (next, add-one g.held, take-suc-set g.line g.held b within, append_assoc (take g.held g.line) (b ∷ []) bs),
    )

-- a line that does not
pub gather_long : (bs : List ℕ) (g : Gathering) → g.held ≤ length g.line + 1 → length g.line < g.held + length bs → (gather_all bs g).held ≡ length g.line + 1
unfolding gather_all
gather_long [] g h l = omega arith
gather_long (b ∷ bs) g h l =
    let same = length-set g.line g.held b in
    let w = gathered_bounds (length g.line) g.held (length bs) l in
    gather_long bs (gather_one g b) (rw same w.0) (rw same w.1) ∙ rw same
