-- What an answer says, case by case: its number and its writes, and beside a refusal ten triples of zeros. By the translation alone. Assumes nothing.
use mathlib.Core.Path.{◌≡◌, refl}
use Rattle.std.specs.Prelude.{List, replicate, Ok, Err}
use Rattle.refusal.specs.declared.Refusal.{Refusal}
use Rattle.refusal.specs.Refusal.{number}
use Rattle.device.specs.declared.Write.{Write}
use Rattle.sequence.specs.Sequence.{sequence_of}

pub sequence_says : (ws : List Write) → sequence_of (Ok ws) ≡ record { no = 0; writes = ws }
sequence_says ws = refl

pub refused_sequence_says : (e : Refusal) →
    sequence_of (Err e) ≡ record { no = number e; writes = replicate 10 (record { rnr = 0; rbar = 0; rasr = 0 }) }
refused_sequence_says e = refl
