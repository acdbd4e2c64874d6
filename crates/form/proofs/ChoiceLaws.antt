-- The forms of a text, one after the other: each ends at the next newline, and after the last newline there is none. By going along the bytes. Assumes nothing.
use mathlib.Core.Path.{◌≡◌, sym, ◌∙◌}
use mathlib.Core.List.{List, [], ◌∷◌, ◌++◌, append-nil}
use Prim.Native.Nat.{ℕ, zero, suc, ◌+◌, ◌-◌, ◌≤◌, ◌<◌}
use native.Mathlib.Numerals.{add-one}
use native.Mathlib.Omega.{arith}
use borrow.Author.Tests.{eq-eqb, ne_eqb}
use lib.ListN.{length, get_or, take, drop, drop_of_length-le}
use lib.Seq.{drop-cons, append_snoc}
use Rattle.std.proofs.Common.{Some, None}
use Rattle.text.specs.Read.{newline, newline_from}
use Rattle.text.proofs.NewlineLaws.{newline_exactly, newline_none}
use Rattle.form.specs.declared.Formed.{Formed}
use Rattle.form.specs.Form.{form_of}
use Rattle.form.specs.Choice.{lines_from, first_of}

-- the forms from a place on
abbrev pub forms_left : List ℕ → ℕ → List (List ℕ)
forms_left text from = lines_from [] (drop from text)

module _ (text : List ℕ) where
  line_along : (k i e : ℕ) (part : List ℕ) → i + k ≡ e → e < length text → get_or text e 0 ≡ newline → ((j : ℕ) → i ≤ j → j < e → get_or text j 0 ≡ newline → ⊥) →
      lines_from part (drop i text) ≡ (part ++ take k (drop i text)) ∷ forms_left text (suc e)
  unfolding lines_from
  line_along zero i e part s h n o =
      let same : i ≡ e = omega arith in
      rw (same, drop-cons text e 0 h, eq-eqb _ _ n, append-nil)
  line_along (suc k) i e part s h n o =
      let next = line_along k (suc i) e (part ++ (get_or text i 0 ∷ [])) (omega arith) h n (λ j a b. o j (omega arith) b) in
      rw (drop-cons text i 0 (omega arith), ne_eqb _ _ (o i (omega arith) (omega arith))) (next ∙ rw append_snoc)

  line_none : (k i : ℕ) (part : List ℕ) → i + k ≡ length text → ((j : ℕ) → i ≤ j → j < length text → get_or text j 0 ≡ newline → ⊥) → lines_from part (drop i text) ≡ []
  unfolding lines_from
  line_none zero i part s o = let h : length text ≤ i = omega arith in rw (drop_of_length-le text h)
  line_none (suc k) i part s o =
      rw (drop-cons text i 0 (omega arith), ne_eqb _ _ (o i (omega arith) (omega arith))) (line_none k (suc i) (part ++ (get_or text i 0 ∷ [])) (omega arith) (λ j a b. o j (omega arith) b))

pub newline_within : (text : List ℕ) (from : ℕ) {e : ℕ} → Some e ≡ newline_from text from → (from ≤ e) × (e < length text)
newline_within text from {e} n = let w = (newline_exactly text from e).0 (sym n) in (w.from, w.within)

module _ (line text : List ℕ) (k from : ℕ) where
  forms_next : {e : ℕ} → Some e ≡ newline_from text from → forms_left text from ≡ take (e - from) (drop from text) ∷ forms_left text (e + 1)
  forms_next {e} n =
      let w = (newline_exactly text from e).0 (sym n) in
      rw add-one (line_along text (e - from) from e [] (omega (arith, w.from)) w.within w.here w.none)

  pub form_found : {e : ℕ} {f : Formed} → Some e ≡ newline_from text from → Some f ≡ form_of line (take (e - from) (drop from text)) → first_of line k (forms_left text from) ≡ Some (record { at = k; values = f.values })
  unfolding first_of
  form_found n m = rw (forms_next n, ← m)

  pub form_next : {e : ℕ} → Some e ≡ newline_from text from → None ≡ form_of line (take (e - from) (drop from text)) → first_of line k (forms_left text from) ≡ first_of line (k + 1) (forms_left text (e + 1))
  unfolding first_of
  form_next n m = rw (forms_next n, ← m)

  pub form_end : from ≤ length text → None ≡ newline_from text from → first_of line k (forms_left text from) ≡ None
  unfolding first_of
  form_end h n = rw (line_none text (length text - from) from [] (omega arith) (newline_none text from (sym n)))
