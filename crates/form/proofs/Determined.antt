-- One answer: of each public routine, two results that its own contract allows at the same arguments are one, and so are the two lines at exit. Assumes nothing.
use mathlib.Core.Path.{◌≡◌, sym, ◌∙◌}
use Prim.Native.Nat.{ℕ}
use Rattle.std.proofs.Common.{Option, List}
use contract.Lifetimes.{Lfts}
use denote.Triple.Clauses.{AtExit}
use Rattle.form.specs.declared.Formed.{Formed}
use Rattle.form.specs.declared.Chosen.{Chosen}
use Rattle.form.specs.contracts.gather.{ended as gather-ended}
use Rattle.form.proofs.gather.Reads as gather
use Rattle.form.proofs.count_repeats.Reads as count_repeats
use Rattle.form.proofs.read_any.Reads as read_any
use Rattle.form.proofs.read_form.Reads as read_form
use Rattle.form.proofs.values_of.Reads as values_of
use Rattle.form.proofs.read_onward.Reads as read_onward
use Rattle.form.proofs.read_whole.Reads as read_whole

gather_once : (κs : Lfts 1) (a : _) (r s : ℕ) (e f : AtExit gather-ended κs) → gather.Post κs a r e → gather.Post κs a s f → (r ≡ s) × (e.0.now ≡ f.0.now)
gather_once κs a r s e f p q = (p.0 ∙ sym q.0, p.1 ∙ sym q.1)

read_form_once : (κs : Lfts 2) (a : _) (r s : Option Formed) (e f : _) → read_form.Post κs a r e → read_form.Post κs a s f → r ≡ s
read_form_once κs a r s e f p q = p ∙ sym q

read_whole_once : (κs : Lfts 2) (a : _) (r s : Option Formed) (e f : _) → read_whole.Post κs a r e → read_whole.Post κs a s f → r ≡ s
read_whole_once κs a r s e f p q = p ∙ sym q

read_any_once : (κs : Lfts 2) (a : _) (r s : Option Chosen) (e f : _) → read_any.Post κs a r e → read_any.Post κs a s f → r ≡ s
read_any_once κs a r s e f p q = p ∙ sym q

read_onward_once : (κs : Lfts 2) (a : _) (r s : Option Formed) (e f : _) → read_onward.Post κs a r e → read_onward.Post κs a s f → r ≡ s
read_onward_once κs a r s e f p q = p ∙ sym q

count_repeats_once : (κs : Lfts 3) (a : _) (r s : ℕ) (e f : _) → count_repeats.Post κs a r e → count_repeats.Post κs a s f → r ≡ s
count_repeats_once κs a r s e f p q = p ∙ sym q

values_of_once : (κs : Lfts 0) (a : _) (r s : List ℕ) (e f : _) → values_of.Post κs a r e → values_of.Post κs a s f → r ≡ s
values_of_once κs a r s e f p q = p ∙ sym q
