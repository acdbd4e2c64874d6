-- One answer: what a routine's own contract lets stand in a lent slice at exit is one, being what the contract's equation says. Assumes nothing.
use mathlib.Core.Path.{◌≡◌, sym, ◌∙◌}
use Prim.Native.Nat.{ℕ}
use contract.Lifetimes.{Lfts}
use denote.Triple.Clauses.{AtExit}
use Rattle.exports.specs.contracts.decide_many.{ended as decide-many-ended}
use Rattle.exports.specs.contracts.fill_many.{ended as fill-many-ended}
use Rattle.exports.specs.contracts.switch_many.{ended as switch-many-ended}
use Rattle.exports.specs.contracts.list_many.{ended as list-many-ended}
use Rattle.exports.proofs.decide_many.Reads as decide_many
use Rattle.exports.proofs.fill_many.Reads as fill_many
use Rattle.exports.proofs.switch_many.Reads as switch_many
use Rattle.exports.proofs.list_many.Reads as list_many

decide_many_once : (κs : Lfts 3) (a : _) (r s : ℕ) (e f : AtExit decide-many-ended κs) → decide_many.Post κs a r e → decide_many.Post κs a s f → (r ≡ s) × (e.1.1.0.now ≡ f.1.1.0.now)
decide_many_once κs a r s e f p q = (p.0 ∙ sym q.0, p.1 ∙ sym q.1)

fill_many_once : (κs : Lfts 2) (a : _) (e f : AtExit fill-many-ended κs) → fill_many.Post κs a tt e → fill_many.Post κs a tt f → e.1.0.now ≡ f.1.0.now
fill_many_once κs a e f p q = p ∙ sym q

switch_many_once : (κs : Lfts 5) (a : _) (e f : AtExit switch-many-ended κs) → switch_many.Post κs a tt e → switch_many.Post κs a tt f → (e.1.1.1.0.now ≡ f.1.1.1.0.now) × (e.1.1.1.1.0.now ≡ f.1.1.1.1.0.now)
switch_many_once κs a e f p q = (p.0 ∙ sym q.0, p.1 ∙ sym q.1)

list_many_once : (κs : Lfts 2) (a : _) (e f : AtExit list-many-ended κs) → list_many.Post κs a tt e → list_many.Post κs a tt f → e.1.1.0.now ≡ f.1.1.0.now
list_many_once κs a e f p q = p ∙ sym q
