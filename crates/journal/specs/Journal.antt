-- A switch's log as text in a lent buffer.
--   triple_of w          == a register write, as a triple of the log
--   write_text i w       == the line of the write w, counted i
--   log_of log           == the text of a log: its lines, counted from 0
--   longest_log          == 600 bytes: ten lines, each of at most 60
--   put_log out at log   == the place after the log where 600 bytes are left
--   after_log out at log == the buffer then: with the log in it where 600 bytes are left, else as it was
use Rattle.std.specs.Prelude.{Bool, List, map, ℕ, ◌+◌, leb, length, Option, Some, None}
use Rattle.laws.specs.Pick.{pick}
use Rattle.device.specs.declared.Write.{Write}
use Rattle.text.specs.Line.{Triple, numbered, line_text, log_text}
use Rattle.text.specs.Put.{over}

abbrev pub longest_line : ℕ
longest_line = 60

-- ten such lines
abbrev pub longest_log : ℕ
longest_log = 600

abbrev pub triple_of : Write → Triple
triple_of w = record { rnr = w.rnr; rbar = w.rbar; rasr = w.rasr }

abbrev pub write_text : ℕ → Write → List ℕ
write_text i w = line_text (numbered i (triple_of w))

unfoldable pub log_of : List Write → List ℕ
log_of log = log_text (map triple_of log)

abbrev pub roomy : List ℕ → ℕ → Bool
roomy out at = leb (at + longest_log) (length out)

unfoldable pub put_log : List ℕ → ℕ → List Write → Option ℕ
put_log out at log = pick (roomy out at) (Some (at + length (log_of log))) None

unfoldable pub after_log : List ℕ → ℕ → List Write → List ℕ
after_log out at log = pick (roomy out at) (over out at (log_of log)) out
