-- What an answer says, case by case: the number, and the yes or no, or the table, that stand in it, and nothing else. By the translations alone. Assumes nothing.
use mathlib.Core.Path.{◌≡◌, refl}
use Rattle.std.specs.Prelude.{Bool, false, Ok, Err}
use Rattle.refusal.specs.declared.Refusal.{Refusal}
use Rattle.refusal.specs.declared.Refused.{Refused}
use Rattle.refusal.specs.Refusal.{number}
use Rattle.table.specs.declared.Table.{Table}
use Rattle.table.specs.Covers.{covered_of}
use Rattle.table.specs.Builder.{added_of, answered}

pub covered_says : (b : Bool) → covered_of (Ok b) ≡ record { no = 0; yes = b }
covered_says b = refl

pub refused_covered_says : (e : Refusal) → covered_of (Err e) ≡ record { no = number e; yes = false }
refused_covered_says e = refl

pub added_says : (t : Table) → added_of (Ok t) ≡ record { no = 0; table = t }
added_says t = refl

pub refused_added_says : (e : Refused Table) → added_of (Err e) ≡ record { no = number e.why; table = e.held }
refused_added_says e = refl

-- ---- where no table is handed back, a refusal stands beside the one received
pub answered_says : (received t : Table) → answered received (Ok t) ≡ record { no = 0; table = t }
answered_says received t = refl

pub refused_answered_says : (received : Table) (e : Refusal) → answered received (Err e) ≡ record { no = number e; table = received }
refused_answered_says received e = refl
