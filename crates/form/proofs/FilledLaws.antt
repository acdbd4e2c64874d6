-- What is read by a form is the form with numbers in its places, and those numbers are kept: byte by byte of the form, each being met by a number or by itself.
-- Assumes nothing.
use mathlib.Core.Path.{◌≡◌, refl, sym, ◌∙◌, ap, subst}
use mathlib.Core.Bool.{Bool, true, false, true≢false}
use mathlib.Core.List.{List, [], ◌∷◌, ◌++◌, append-nil}
use Prim.Native.Nat.{ℕ, ◌+◌}
use native.Mathlib.Nat.{add-zero, le_refl}
use native.Mathlib.Numerals.{add-one}
use borrow.Author.Tests.{ltb-true, eqb-true}
use lib.Dec.{ltb, eqb}
use lib.ListN.{length, get_or, drop, set, drop_of_length-le}
use lib.Seq.{drop-cons}
use Rattle.laws.specs.Pick.{pick}
use Rattle.laws.proofs.BoolLaws.{and_left, and_right}
use Rattle.std.proofs.Common.{Option, Some, None}
use Rattle.std.proofs.lemmas.Option.{option_and_then_some}
use Rattle.std.specs.Option.{is_some}
use Rattle.text.specs.Digits.{digits}
use Rattle.text.specs.Read.{◌>>=◌, number_at, Stands}
use Rattle.text.proofs.StandsLaws.{stands_join}
use Rattle.text.proofs.NumberLaws.{number_exactly}
use Rattle.form.specs.declared.Formed.{Formed}
use Rattle.form.specs.Form.{most, begun, takes_number, no_mark, value_at, stands_at, kept, moved_on, read_on, formed, form_at, form_of}
use Rattle.form.specs.Filled.{filled, kept_all, Means, LineMeans}

never : {X : Type 0} → false ≡ true → X
never e = absurd (true≢false (sym e))

-- a form's byte that is met: by a number, or by itself
data Met (bytes : List ℕ) (f : Formed) (c : ℕ) (g : Formed) : Type 0 where
  number : (w : ℕ) → takes_number c ≡ true → Stands bytes f.next (digits w) g.next →
      ((ws : List ℕ) → kept_all g.count g.values ws ≡ kept_all f.count f.values (w ∷ ws)) → Met bytes f c g
  itself : takes_number c ≡ false → Stands bytes f.next (c ∷ []) g.next →
      ((ws : List ℕ) → kept_all g.count g.values ws ≡ kept_all f.count f.values ws) → Met bytes f c g

value_number : (bytes : List ℕ) (c at : ℕ) (n : ℕ × ℕ) → value_at c bytes at ≡ Some n → number_at bytes at ≡ Some n
unfolding value_at
value_number bytes c at n e =
    option_and_then_some _ (number_at bytes at) n e (λ m f g. f ∙ sized m (no_mark c m.0) g)
  where
    sized : (m : ℕ × ℕ) (t : Bool) → pick t None (Some m) ≡ Some n → Some m ≡ Some n
    sized m true g = cc
    sized m false g = g

byte_stands : (bytes : List ℕ) (at c : ℕ) → stands_at bytes at c ≡ true → Stands bytes at (c ∷ []) (at + 1)
byte_stands bytes at c e =
    let within = ltb-true at (length bytes) (and_left (ltb at (length bytes)) (eqb (get_or bytes at 0) c) e) in
    let same = eqb-true (get_or bytes at 0) c (and_right (ltb at (length bytes)) (eqb (get_or bytes at 0) c) e) in
    record { text = drop-cons bytes at 0 within ∙ rw (same, add-one at); next = refl }

-- where there is no room, no number more is kept
kept_full : (k : ℕ) (vs ws : List ℕ) → ltb k most ≡ false → kept_all k vs ws ≡ vs
unfolding kept_all
kept_full k vs [] e = refl
kept_full k vs (w ∷ ws) e = rw e

module _ (f : Formed) (v p : ℕ) where
  abbrev more : Bool → Formed
  more m =
      pick m (record { next = p; count = f.count + 1; values = set f.values f.count v }) (record { next = p; count = f.count; values = f.values })

  pub kept_next : (kept f v p).next ≡ p
  unfolding kept
  kept_next = by (ltb f.count most)
    where
      by : (m : Bool) → (more m).next ≡ p
      by true = refl
      by false = refl

  pub kept_all_lem : (ws : List ℕ) → kept_all (kept f v p).count (kept f v p).values ws ≡ kept_all f.count f.values (v ∷ ws)
  unfolding kept kept_all
  kept_all_lem ws = by (ltb f.count most) refl
    where
      by : (m : Bool) → ltb f.count most ≡ m → kept_all (more m).count (more m).values ws ≡ pick m (kept_all (f.count + 1) (set f.values f.count v) ws) f.values
      by true e = refl
      by false e = kept_full f.count f.values ws e

met : (bytes : List ℕ) (f : Formed) (c : ℕ) (g : Formed) → read_on bytes f c ≡ Some g → Met bytes f c g
unfolding read_on
met bytes f c g = by (takes_number c) (stands_at bytes f.next c) refl refl
  where
    kept_here : (n : ℕ × ℕ) → takes_number c ≡ true → value_at c bytes f.next ≡ Some n → Met bytes f c (kept f n.0 n.1)
    kept_here n t e =
        let here = (number_exactly bytes f.next n.0 n.1).0 (value_number bytes c f.next n e) in
        number n.0 t (subst (λ (q : ℕ). Stands bytes f.next (digits n.0) q) (sym (kept_next f n.0 n.1)) here.here) (kept_all_lem f n.0 n.1)

    by : (t s : Bool) → takes_number c ≡ t → stands_at bytes f.next c ≡ s →
        pick t (value_at c bytes f.next >>= (λ n. Some (kept f n.0 n.1))) (pick s (Some (moved_on f)) None) ≡ Some g → Met bytes f c g
    by true s t _ e =
        option_and_then_some _ (value_at c bytes f.next) g e (λ n v w. let same : kept f n.0 n.1 ≡ g = cc in subst (λ (h : Formed). Met bytes f c h) same (kept_here n t v))
    by false true t s e = let same : moved_on f ≡ g = cc in subst (λ (h : Formed). Met bytes f c h) same (itself t (byte_stands bytes f.next c s) (λ ws. refl))
    by false false t s e = cc

-- ---- the places of a form, one byte of it met
pub filled_number : (c : ℕ) (form : List ℕ) (w : ℕ) (ws : List ℕ) → takes_number c ≡ true → filled (c ∷ form) (w ∷ ws) ≡ digits w ++ filled form ws
unfolding filled
filled_number c form w ws t = rw t

pub filled_itself : (c : ℕ) (form ws : List ℕ) → takes_number c ≡ false → filled (c ∷ form) ws ≡ c ∷ filled form ws
unfolding filled
filled_itself c form [] t = refl
filled_itself c form (w ∷ ws) t = rw t

module _ (bytes form : List ℕ) (f g h : Formed) (c : ℕ) (rest : Means bytes form g h) where
  means_next : Met bytes f c g → Means bytes (c ∷ form) f h
  means_next (number w t here keeps) =
      record {
        numbers = w ∷ rest.numbers;
        text = rw (filled_number c form w rest.numbers t) (stands_join bytes f.next (digits w) (filled form rest.numbers) h.next here rest.text);
        values = rest.values ∙ keeps rest.numbers;
      }
  means_next (itself t here keeps) =
      record {
        numbers = rest.numbers;
        text = rw (filled_itself c form rest.numbers t) (stands_join bytes f.next (c ∷ []) (filled form rest.numbers) h.next here rest.text);
        values = rest.values ∙ keeps rest.numbers;
      }

pub form_means : (bytes form : List ℕ) (f g : Formed) → formed bytes f form ≡ Some g → Means bytes form f g
unfolding formed filled kept_all
form_means bytes [] f g e =
    let same : f ≡ g = cc in
    subst (λ (h : Formed). Means bytes [] f h) same (record { numbers = []; text = record { text = refl; next = sym (add-zero f.next) }; values = refl })
form_means bytes (c ∷ form) f h e =
    option_and_then_some _ (read_on bytes f c) h e (λ g o rest. means_next bytes form f g h c (form_means bytes form g h rest) (met bytes f c g o))

-- ---- a whole line: it is the form with these numbers, and nothing more
pub line_means : (line form : List ℕ) → is_some (form_of line form) ≡ true → LineMeans line form
line_means line form = by (form_at line 0 form) refl
  where
    done : (f : Formed) → form_at line 0 form ≡ Some f → (b : Bool) → eqb f.next (length line) ≡ b → is_some (pick b (Some f) None) ≡ true → LineMeans line form
    done f o true q e =
        let m = form_means line form (begun 0) f o in
        let last : f.next ≡ length line = eqb-true f.next (length line) q in
        let ended : drop f.next line ≡ [] = rw last (drop_of_length-le line (le_refl (length line))) in
        record {
          numbers = m.numbers;
          text = m.text.text ∙ ap (λ (l : List ℕ). filled form m.numbers ++ l) ended ∙ append-nil (filled form m.numbers);
          values = rw (o, q) m.values;
        }
    done f o false q e = never e

    by : (r : Option Formed) → form_at line 0 form ≡ r → is_some (r >>= (λ f. pick (eqb f.next (length line)) (Some f) None)) ≡ true → LineMeans line form
    by None o e = never e
    by (Some f) o e = done f o (eqb f.next (length line)) refl e
