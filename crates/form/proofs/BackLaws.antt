-- A form filled with numbers that fit it is read back as these numbers: each number ends where the next byte of the form begins, since that is no digit. By induction on
-- the form. Assumes nothing.
use mathlib.Core.Path.{◌≡◌, refl, sym, ◌∙◌, ap, subst}
use mathlib.Core.Bool.{Bool, true, false, not, ◌&&◌, true≢false}
use mathlib.Core.List.{List, [], ◌∷◌, append-nil}
use Prim.Native.Nat.{ℕ, ◌+◌, ◌≤◌, ◌<◌}
use native.Mathlib.Nat.{add-zero, zero-add}
use native.Mathlib.Omega.{arith}
use borrow.Author.Tests.{leb-true, lt-ltb, eq-eqb, not-true}
use lib.Dec.{leb}
use lib.ListN.{length, get_or, get_or-eq_default}
use Rattle.laws.specs.Pick.{pick}
use Rattle.laws.proofs.BoolLaws.{and_left, and_right}
use Rattle.std.proofs.Common.{Some}
use Rattle.std.specs.Option.{is_some}
use Rattle.text.specs.Digits.{largest, digits, is_digit}
use Rattle.text.specs.Read.{number_at, Stands}
use Rattle.text.proofs.StandsLaws.{stands, stands_apart, stands_first, stands_within}
use Rattle.text.proofs.NumberLaws.{number_exactly}
use Rattle.form.specs.declared.Formed.{Formed}
use Rattle.form.specs.Form.{zeros, begun, takes_number, no_mark, value_at, kept, moved_on, read_on, formed, form_of, values_of}
use Rattle.form.specs.Filled.{filled, apart, fits, kept_all}
use Rattle.form.proofs.FilledLaws.{filled_number, filled_itself, kept_next, kept_all_lem}

never : {X : Type 0} → false ≡ true → X
never e = absurd (true≢false (sym e))

-- what is read of a form whose numbers are ws, after f, with p for the place after it
pub record Back (bytes form ws : List ℕ) (f : Formed) (p : ℕ) : Type 0 where
  pub then : Formed
  pub read : formed bytes f form ≡ Some then
  pub next : then.next ≡ p
  pub values : then.values ≡ kept_all f.count f.values ws

-- a number before the form ends where the form begins
ends : (bytes form ws : List ℕ) (q p : ℕ) → apart form ≡ true → Stands bytes q (filled form ws) p → is_digit (get_or bytes p 0) ≡ false → is_digit (get_or bytes q 0) ≡ false
unfolding filled
ends bytes [] ws q p a here e = ap (λ (k : ℕ). is_digit (get_or bytes k 0)) (sym (here.next ∙ add-zero q)) ∙ e
ends bytes (c ∷ form) ws q p a here e =
    let none = not-true (takes_number c) (and_right (not (is_digit c)) (not (takes_number c)) a) in
    let there = subst (λ (l : List ℕ). Stands bytes q l p) (filled_itself c form ws none) here in
    ap is_digit (stands_first bytes q c (filled form ws) p there) ∙ not-true (is_digit c) (and_left (not (is_digit c)) (not (takes_number c)) a)

back_met : (bytes form ws vs : List ℕ) (f g : Formed) (c p : ℕ) → read_on bytes f c ≡ Some g → ((kept_all g.count g.values vs) ≡ kept_all f.count f.values ws) → Back bytes form vs g p → Back bytes (c ∷ form) ws f p
unfolding formed
back_met bytes form ws vs f g c p e keeps rest =
    record { then = rest.then; read = rw e rest.read; next = rest.next; values = rest.values ∙ keeps }

module _ (bytes form : List ℕ) (f : Formed) (c p : ℕ) where
  -- the byte itself
  itself : (ws : List ℕ) → takes_number c ≡ false → Stands bytes f.next (filled (c ∷ form) ws) p → (Stands bytes (f.next + 1) (filled form ws) p → Back bytes form ws (moved_on f) p) → Back bytes (c ∷ form) ws f p
  unfolding read_on
  itself ws t here rest =
      let there = subst (λ (l : List ℕ). Stands bytes f.next l p) (filled_itself c form ws t) here in
      let within : f.next < length bytes = omega (arith, there.next, stands_within bytes f.next (c ∷ filled form ws) p (omega arith) there) in
      let found : read_on bytes f c ≡ Some (moved_on f) = rw (t, lt-ltb f.next (length bytes) within, eq-eqb (get_or bytes f.next 0) c (stands_first bytes f.next c (filled form ws) p there)) in
      back_met bytes form ws ws f (moved_on f) c p found refl (rest (stands_apart bytes f.next (c ∷ []) (filled form ws) p there).1)

  -- a number, which ends where the rest of the form begins
  number : (w : ℕ) (ws : List ℕ) → takes_number c ≡ true → w ≤ largest → no_mark c w ≡ false → apart form ≡ true → Stands bytes f.next (filled (c ∷ form) (w ∷ ws)) p → is_digit (get_or bytes p 0) ≡ false →
      ((q : ℕ) → Stands bytes (kept f w q).next (filled form ws) p → Back bytes form ws (kept f w q) p) → Back bytes (c ∷ form) (w ∷ ws) f p
  unfolding read_on value_at
  number w ws t small mark a here e rest =
      let q = f.next + length (digits w) in
      let two = stands_apart bytes f.next (digits w) (filled form ws) p (subst (λ (l : List ℕ). Stands bytes f.next l p) (filled_number c form w ws t) here) in
      let value : number_at bytes f.next ≡ Some (w, q) = (number_exactly bytes f.next w q).1 (record { small = small; here = two.0; ends = ends bytes form ws q p a two.1 e }) in
      let found : read_on bytes f c ≡ Some (kept f w q) = rw (t, value, mark) in
      back_met bytes form (w ∷ ws) ws f (kept f w q) c p found (kept_all_lem f w q ws) (rest q (subst (λ (k : ℕ). Stands bytes k (filled form ws) p) (sym (kept_next f w q)) two.1))

pub form_back : (bytes form ws : List ℕ) (f : Formed) (p : ℕ) → fits form ws ≡ true → Stands bytes f.next (filled form ws) p → is_digit (get_or bytes p 0) ≡ false → Back bytes form ws f p
unfolding formed filled fits kept_all
form_back bytes [] [] f p t here e = record { then = f; read = refl; next = sym (here.next ∙ add-zero f.next); values = refl }
form_back bytes [] (w ∷ ws) f p t here e = never t
form_back bytes (c ∷ form) [] f p t here e =
    itself bytes form f c p [] (not-true (takes_number c) (and_left (not (takes_number c)) (fits form []) t)) here
    (λ there. form_back bytes form [] (moved_on f) p (and_right (not (takes_number c)) (fits form []) t) there e)
form_back bytes (c ∷ form) (w ∷ ws) f p t here e =
    by (takes_number c) refl t (λ g. form_back bytes form ws g p) (λ g. form_back bytes form (w ∷ ws) g p)
  where
    by : (b : Bool) → takes_number c ≡ b → pick b ((leb w largest && not (no_mark c w)) && (apart form && fits form ws)) (fits form (w ∷ ws)) ≡ true →
        ((g : Formed) → fits form ws ≡ true → Stands bytes g.next (filled form ws) p → is_digit (get_or bytes p 0) ≡ false → Back bytes form ws g p) →
        ((g : Formed) → fits form (w ∷ ws) ≡ true → Stands bytes g.next (filled form (w ∷ ws)) p → is_digit (get_or bytes p 0) ≡ false → Back bytes form (w ∷ ws) g p) → Back bytes (c ∷ form) (w ∷ ws) f p
    by true q h rest _ =
        let one = and_left (leb w largest && not (no_mark c w)) (apart form && fits form ws) h in
        let two = and_right (leb w largest && not (no_mark c w)) (apart form && fits form ws) h in
        number bytes form f c p w ws q (leb-true w largest (and_left (leb w largest) (not (no_mark c w)) one)) (not-true (no_mark c w) (and_right (leb w largest) (not (no_mark c w)) one)) (and_left (apart form) (fits form ws) two) here e
        (λ k there. rest (kept f w k) (and_right (apart form) (fits form ws) two) there e)
    by false q h _ rest = itself bytes form f c p (w ∷ ws) q here (λ there. rest (moved_on f) h there e)

-- ---- a whole line: the form filled with numbers that fit it
pub line_back : (form ws : List ℕ) → fits form ws ≡ true → (is_some (form_of (filled form ws) form) ≡ true) × (values_of (form_of (filled form ws) form) ≡ kept_all 0 zeros ws)
line_back form ws t =
    let line = filled form ws in
    let ended : is_digit (get_or line (0 + length line) 0) ≡ false = let all : length line ≤ 0 + length line = omega arith in rw (get_or-eq_default line 0 all) in
    let back = form_back line form ws (begun 0) (0 + length line) t (stands line 0 line [] (sym (append-nil line))) ended in
    let last : back.then.next ≡ length line = back.next ∙ zero-add (length line) in
    (rw (back.read, eq-eqb back.then.next (length line) last), rw (back.read, eq-eqb back.then.next (length line) last) back.values)
