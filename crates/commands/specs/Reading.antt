-- The console between two bytes of its input, and what bytes do to it.
--   Held               == what is read so far, and the bytes that its line is gathered in
--   ended h            == after the newline of the line that is held: its command obeyed, the lines counted, nothing held
--   gathering h b      == after any other byte: it is held too
--   taken h b          == after one byte
--   taken_all bs h     == after the bytes bs, one after the other
--   start              == before the first byte
--   console_after bs   == the console after the input bs
--   input_of lines     == the lines, each with its newline, one after the other
--   obeyed_all c lines == the console after these lines, from c: each obeyed in turn, but that one over 4,095 bytes changes nothing
use Rattle.std.specs.Prelude.{List, [], ◌∷◌, ◌++◌, ℕ, ◌+◌, ltb, eqb, length, set, take, replicate}
use Rattle.laws.specs.Pick.{pick}
use Rattle.text.specs.Read.{newline}
use Rattle.form.specs.Gather.{gathered}
use Rattle.commands.specs.declared.change.Console.{Console}
use Rattle.commands.specs.declared.reading.Reading.{Reading}
use Rattle.commands.specs.Command.{command_of, line_command}
use Rattle.commands.specs.Given.{triples_of}
use Rattle.commands.specs.Obeyed.{obeyed, nothing_held}

pub record Held : Type 0 where
  pub reading : Reading
  pub line : List ℕ

-- lines are counted in 64 bits
abbrev pub counted : ℕ → ℕ
counted n = pick (ltb n 18446744073709551615) (n + 1) n

unfoldable pub ended : Reading → List ℕ → Reading
ended r line =
    record { console = obeyed r.console (line_command line r.held) (triples_of (take r.held line)); held = 0; lines = counted r.lines }

abbrev pub gathering : Reading → List ℕ → Reading
gathering r line = record { console = r.console; held = gathered (length line) r.held; lines = r.lines }

abbrev pub taken : Held → ℕ → Held
taken h b =
    record {
      reading = pick (eqb b newline) (ended h.reading h.line) (gathering h.reading h.line);
      line = pick (eqb b newline) h.line (set h.line h.reading.held b);
    }

unfoldable pub taken_all : List ℕ → Held → Held
taken_all [] h = h
taken_all (b ∷ bs) h = taken_all bs (taken h b)

abbrev pub nothing_read : Reading
nothing_read = record { console = nothing_held; held = 0; lines = 0 }

abbrev pub start : Held
start = record { reading = nothing_read; line = replicate 4095 0 }

abbrev pub console_after : List ℕ → Console
console_after bs = (taken_all bs start).reading.console

-- ---- the same by lines
abbrev pub input_of : List (List ℕ) → List ℕ
input_of [] = []
input_of (l ∷ ls) = (l ++ (newline ∷ [])) ++ input_of ls

abbrev pub line_after : Console → List ℕ → Console
line_after c l = pick (ltb 4095 (length l)) c (obeyed c (command_of l) (triples_of l))

abbrev pub obeyed_all : Console → List (List ℕ) → Console
obeyed_all c [] = c
obeyed_all c (l ∷ ls) = obeyed_all (line_after c l) ls
