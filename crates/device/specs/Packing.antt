-- The permission rows as the code holds them: a row is two octal digits.
--   digit r      == a right as one octal digit: read 1, write 2, undefined 4
--   packed r     == a row as two digits: the unprivileged right, then the privileged
--   holds k d    == the digit has the bit of the kind k set
--   unpacked d k == the answer to an access of kind k under the right whose digit is d
use Rattle.std.specs.Prelude.{Bool, ℕ, ◌+◌, ◌*◌, ◌/◌, eqb}
use Rattle.laws.specs.Pick.{pick}
use Rattle.device.specs.declared.Kind.{Kind}
use Rattle.device.specs.declared.Kind.TheVariants.{Read, Write}
use Rattle.device.specs.declared.Answer.{Answer}
use Rattle.device.specs.declared.Answer.TheVariants.{Undefined}
use Rattle.device.specs.Registers.{bit}
use Rattle.device.specs.Permission.{Right, none, read, read_write, undefined, Row, answered}

abbrev pub digit : Right → ℕ
digit none = 0
digit read = 1
digit read_write = 3
digit undefined = 4

abbrev pub packed : Row → ℕ
packed r = 8 * digit r.unprivileged + digit r.privileged

abbrev pub holds : Kind → ℕ → Bool
holds Read d = bit d
holds Write d = bit (d / 2)

abbrev pub unpacked : ℕ → Kind → Answer
unpacked d k = pick (eqb d (digit undefined)) Undefined (answered (holds k d))
