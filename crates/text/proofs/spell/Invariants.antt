-- The digits of what is left, and then those already spelt, are those of the number. Something is left but for the number 0, and as long as it is, there is a place for each of its digits.
use mathlib.Core.Path.{◌≡◌}
use mathlib.Core.List.{◌++◌}
use Prim.Native.Nat.{◌^◌, ◌<◌}
use lib.ListN.{length, drop}
use Rattle.text.specs.Digits.{digits}
use Rattle.text.proofs.spell.Given as goal

abbrev pub invariant-loop-i : goal.invariant-loop-i
invariant-loop-i l =
    record {
      long : length l.text ≡ 10;
      below : l.rest < 10 ^ l.i;
      left : l.i < 10 → 0 < l.rest;
      spelt : digits l.n ≡ digits l.rest ++ drop l.i l.text;
    }
