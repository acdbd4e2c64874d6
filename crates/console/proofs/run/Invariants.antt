-- The bytes that are left of the piece, after what is read of it, come to what the whole piece comes to; the line's room is kept.
use Rattle.std.proofs.Common.{◌≡◌, drop}
use Rattle.commands.specs.Reading.{taken_all}
use Rattle.console.proofs.run.Given as goal

abbrev pub invariant-loop-byte : goal.invariant-loop-byte
invariant-loop-byte g l =
    taken_all l.piece (record { reading = l.initial.r; line = l.initial.line }) ≡ taken_all (drop l.byte-index l.piece) (record { reading = l.r; line = l.line })
