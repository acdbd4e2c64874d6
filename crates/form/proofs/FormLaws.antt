-- How one byte of a form takes its reading on: by the first byte that is left of it. Assumes nothing.
use mathlib.Core.Path.{◌≡◌, ap}
use Rattle.std.proofs.Common.{Some, None}
use mathlib.Core.List.{List}
use Prim.Native.Nat.{ℕ, ◌+◌, ◌<◌, ◌≤◌}
use native.Mathlib.Numerals.{add-one}
use lib.ListN.{length, get_or, drop, drop_of_length-le}
use lib.Seq.{drop-cons}
use Rattle.form.specs.declared.Formed.{Formed}
use Rattle.form.specs.Form.{read_on, formed}

module _ (bytes form : List ℕ) (f : Formed) {i : ℕ} where
  pub formed_next : (g : Formed) → i < length form → read_on bytes f (get_or form i 0) ≡ Some g → formed bytes f (drop i form) ≡ formed bytes g (drop (i + 1) form)
  unfolding formed
  formed_next g h e = rw (add-one i, drop-cons form i 0 h, e)

  pub formed_stops : i < length form → read_on bytes f (get_or form i 0) ≡ None → formed bytes f (drop i form) ≡ None
  unfolding formed
  formed_stops h e = rw (drop-cons form i 0 h, e)

  pub formed_end : length form ≤ i → formed bytes f (drop i form) ≡ Some f
  unfolding formed
  formed_end h = ap (λ (cs : List ℕ). formed bytes f cs) (drop_of_length-le form h)
