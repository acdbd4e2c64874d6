-- What an answer says, case by case: its number, and the value, which is 0 beside a refusal. By the translation alone. Assumes nothing.
use mathlib.Core.Path.{◌≡◌, refl}
use Rattle.std.specs.Prelude.{ℕ, Ok, Err}
use Rattle.refusal.specs.declared.Refusal.{Refusal}
use Rattle.refusal.specs.Refusal.{number}
use Rattle.fields.specs.Fields.{field_of}

pub field_says : (value : ℕ) → field_of (Ok value) ≡ record { no = 0; value = value }
field_says value = refl

pub refused_field_says : (e : Refusal) → field_of (Err e) ≡ record { no = number e; value = 0 }
refused_field_says e = refl
