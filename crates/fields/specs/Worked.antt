-- The requests of the paper on RASR, worked by hand: what is encoded, and the value due.
use Rattle.std.specs.Prelude.{true, false, List, [], ◌∷◌, ℕ}
use Rattle.fields.specs.declared.Attributes.{Attributes}

pub record Case : Type 0 where
  pub encoded : Attributes
  pub due : ℕ

abbrev pub cases : List Case
cases =
    record { encoded = record { size = 1024; writable = true }; due = 50331667 }
    ∷ record { encoded = record { size = 65536; writable = false }; due = 100663327 }
    ∷ []
