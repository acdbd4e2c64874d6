-- A packed row gives back its two rights, and a right's digit answers as the right does: by the four rights. Assumes nothing.
use mathlib.Core.Path.{◌≡◌, refl}
use Prim.Native.Nat.{ℕ, ◌/◌, ◌%◌, ◌<◌}
use native.Mathlib.Omega.{arith}
use lib.Dec.{lit<}
use Rattle.device.specs.declared.Kind.{Kind}
use Rattle.device.specs.declared.Kind.TheVariants.{Read, Write}
use Rattle.device.specs.declared.Answer.{Answer}
use Rattle.device.specs.declared.Answer.TheVariants.{Undefined, Permitted, Denied}
use Rattle.device.specs.Permission.{Right, none, read, read_write, undefined, Row, grants}
use Rattle.device.specs.Packing.{digit, packed, unpacked}

pub digit_answers : (r : Right) (k : Kind) → unpacked (digit r) k ≡ grants r k
digit_answers none Read = refl
digit_answers none Write = refl
digit_answers read Read = refl
digit_answers read Write = refl
digit_answers read_write Read = refl
digit_answers read_write Write = refl
digit_answers undefined Read = refl
digit_answers undefined Write = refl

octal : (r : Right) → digit r < 8
octal none = lit< tt
octal read = lit< tt
octal read_write = lit< tt
octal undefined = lit< tt

pub packed_privileged : (r : Row) → packed r % 8 ≡ digit r.privileged
packed_privileged r = omega (arith, octal r.privileged)

pub packed_unprivileged : (r : Row) → packed r / 8 ≡ digit r.unprivileged
packed_unprivileged r = omega (arith, octal r.privileged)

-- a row's answer is one of three: what holds of each holds of it
pub grants_as : (g : Answer → ℕ) {y : ℕ} → g Undefined ≡ y → g Permitted ≡ y → g Denied ≡ y → (r : Right) (k : Kind) → g (grants r k) ≡ y
grants_as g u p d none k = d
grants_as g u p d read Read = p
grants_as g u p d read Write = d
grants_as g u p d read_write k = p
grants_as g u p d undefined k = u
