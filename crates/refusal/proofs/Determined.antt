-- One answer: two results of the routine that its own contract allows at the same argument are one, each being what the contract's equation says.
-- Assumes nothing.
use mathlib.Core.Path.{◌≡◌, sym, ◌∙◌}
use Rattle.refusal.proofs.settled.Reads as settled

settled_once : (g h k : _) (a : _) (r s : _) (e f : _) → settled.Post g h k a r e → settled.Post g h k a s f → r ≡ s
settled_once g h k a r s e f p q = p ∙ sym q
