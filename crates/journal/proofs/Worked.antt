-- The first three writes of document 01's log, and the last of it, as its text: computed. Assumes nothing.
use mathlib.Core.Path.{◌≡◌, refl}
use mathlib.Core.Bool.{true}
use mathlib.Core.List.{[], ◌∷◌}
use Prim.Native.Nat.{ℕ}
use Rattle.device.specs.declared.Write.{Write}
use Rattle.text.specs.Ascii.{ascii}
use Rattle.text.specs.Digits.{spelt, digits}
use Rattle.text.specs.Read.{begins}
use Rattle.text.specs.Line.{line_text, lines, log_text}
use Rattle.text.specs.Worked.{same}
use Rattle.journal.specs.Journal.{write_text, log_of}

abbrev write : ℕ → ℕ → ℕ → Write
write r b a = record { rnr = r; rbar = b; rasr = a }

log_worked : same (log_of (write 4294967295 0 0 ∷ write 0 536870912 50331667 ∷ write 1 134217728 100663327 ∷ [])) (ascii "n=0 rnr=4294967295 rbar=0 rasr=0\nn=1 rnr=0 rbar=536870912 rasr=50331667\nn=2 rnr=1 rbar=134217728 rasr=100663327\n") ≡ true
unfolding log_of log_text lines line_text digits spelt begins
log_worked = refl

last_worked : same (write_text 9 (write 4294967295 0 1)) (ascii "n=9 rnr=4294967295 rbar=0 rasr=1\n") ≡ true
unfolding line_text digits spelt begins
last_worked = refl
