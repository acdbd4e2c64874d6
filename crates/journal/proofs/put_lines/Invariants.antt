-- The first i lines stand in the buffer, p is the place after them, and none took more than a line's room.
use mathlib.Core.Path.{◌≡◌}
use Prim.Native.Nat.{◌+◌, ◌*◌, ◌≤◌}
use lib.ListN.{length, take}
use Rattle.text.specs.Put.{over}
use Rattle.journal.specs.Journal.{longest_line, log_of}
use Rattle.journal.proofs.put_lines.Given as goal

abbrev pub invariant-loop-i : goal.invariant-loop-i
invariant-loop-i l =
    record {
      place : l.p ≡ l.at + length (log_of (take l.i l.fn.log));
      room : l.p ≤ l.at + longest_line * l.i;
      lines : l.out ≡ over l.initial.out l.at (log_of (take l.i l.fn.log));
    }
