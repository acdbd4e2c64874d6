-- One answer: two results of put_log that its own contract allows at the same arguments are one, and so are the two buffers at exit, each being
-- what the contract's equation says. Assumes nothing.
use mathlib.Core.Path.{◌≡◌, sym, ◌∙◌}
use contract.Lifetimes.{Lfts}
use denote.Triple.Clauses.{AtExit}
use Rattle.std.proofs.Common.{Option, ℕ}
use Rattle.journal.specs.contracts.put_log.{ended}
use Rattle.journal.proofs.put_log.Reads as put-log

put_log_once : (κs : Lfts 1) (a : _) (r s : Option ℕ) (e f : AtExit ended κs) → put-log.Post κs a r e → put-log.Post κs a s f → (r ≡ s) × (e.0.now ≡ f.0.now)
put_log_once κs a r s e f p q = (p.0 ∙ sym q.0, p.1.0 ∙ sym q.1.0)
