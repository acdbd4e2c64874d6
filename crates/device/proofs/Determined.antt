-- Two answers that a routine's own contract allows for the same arguments are one: each equals the definition's, of eight slots. Assumes nothing.
use mathlib.Core.Path.{◌≡◌, sym, ◌∙◌, ap}
use mathlib.Core.Bool.{Bool}
use Prim.Native.Nat.{ℕ}
use Rattle.std.specs.Prelude.{Option, Result}
use Rattle.refusal.specs.declared.Refusal.{Refusal}
use Rattle.refusal.specs.declared.Refused.{Refused}
use Rattle.refusal.proofs.AnswerLaws.{held_one}
use Rattle.device.proofs.NumberLaws.{reason_one}
use Rattle.device.specs.declared.Mpu.{Mpu}
use Rattle.device.specs.declared.Write.{Write}
use Rattle.device.specs.declared.Access.{Access}
use Rattle.device.specs.declared.Answer.{Answer}
use Rattle.device.specs.RegisterWrite.{triple_no, Written, refused_no, write_register, written_of}
use Rattle.device.specs.Decision.{decision}
use Rattle.device.proofs.is_allowed.Reads as is_allowed
use Rattle.device.proofs.refused_write.Reads as refused_write
use Rattle.device.proofs.write_register.Reads as write-register
use Rattle.device.proofs.decide.Reads as decide

is_allowed_once : (c : ℕ) (r s : Bool) → is_allowed.Post tt (c, tt) r (c, tt) → is_allowed.Post tt (c, tt) s (c, tt) → r ≡ s
is_allowed_once c r s p q = p ∙ sym q

refused_write_once : (w : Write) (r s : Option Refusal) → refused_write.Post tt (w, tt) r (w, tt) → refused_write.Post tt (w, tt) s (w, tt) → r ≡ s
refused_write_once w r s p q = reason_one r s (p ∙ sym q)

write_register_once : (m : Mpu) (w : Write) (r s : Result Mpu (Refused Mpu)) → write-register.Post tt (m, (w, tt)) r (m, (w, tt)) → write-register.Post tt (m, (w, tt)) s (m, (w, tt)) → r ≡ s
write_register_once m w r s p q = held_one r s (ap (λ (x : Written). x.no) (p ∙ sym q)) (ap (λ (x : Written). x.mpu) (p ∙ sym q))

decide_once : (m : Mpu) (a : Access) (r s : Result Answer Refusal) → decide.Post tt (m, (a, tt)) r (m, (a, tt)) → decide.Post tt (m, (a, tt)) s (m, (a, tt)) → r ≡ s
decide_once m a r s p q = p.0 ∙ sym q.0

-- ---- the answer that a contract allows is the definition's of eight slots: a contract of seven would pass over the last
refused_write_eight : (w : Write) (r : Option Refusal) → refused_write.Post tt (w, tt) r (w, tt) → refused_no r ≡ triple_no 8 w
refused_write_eight w r p = p

write_register_eight : (m : Mpu) (w : Write) (r : Result Mpu (Refused Mpu)) → write-register.Post tt (m, (w, tt)) r (m, (w, tt)) → written_of r ≡ write_register 8 m w
write_register_eight m w r p = p

decide_eight : (m : Mpu) (a : Access) (r : Result Answer Refusal) → decide.Post tt (m, (a, tt)) r (m, (a, tt)) → r ≡ decision 8 m a
decide_eight m a r p = p.0
