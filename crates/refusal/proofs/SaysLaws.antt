-- What an answer's number and value are, case by case. By the definitions alone. Assumes nothing.
use mathlib.Core.Path.{◌≡◌, refl}
use Rattle.std.specs.Prelude.{Ok, Err}
use Rattle.refusal.specs.declared.Refusal.{Refusal}
use Rattle.refusal.specs.declared.Refused.{Refused}
use Rattle.refusal.specs.Refusal.{number, no_of, why_no}

pub refused_no_of : (X : Type 0) (e : Refusal) → no_of {X = X} (Err e) ≡ number e
refused_no_of X e = refl

pub accepted_why_no : {X : Type 0} (x : X) → why_no (Ok x) ≡ 0
accepted_why_no x = refl

pub refused_why_no : {X : Type 0} (e : Refused X) → why_no (Err e) ≡ number e.why
refused_why_no e = refl
