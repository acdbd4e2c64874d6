-- The triples that are left, written one after the other, come to what all of them come to.
use Rattle.std.proofs.Common.{◌≡◌, drop}
use Rattle.table.specs.Numbers.{slots}
use Rattle.switch.specs.Applied.{write_all}
use Rattle.switch.proofs.write_all.Given as goal

abbrev pub invariant-loop-w : goal.invariant-loop-w
invariant-loop-w l = write_all slots l.now (drop l.w-index l.ws) ≡ write_all slots l.fn.m l.ws
