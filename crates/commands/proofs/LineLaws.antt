-- What a line must not do: one that is bad, empty or a comment leaves the table and the switch as they were, whatever bytes it has. By the kind of its command. Assumes nothing.
use mathlib.Core.Path.{◌≡◌, refl, ◌∙◌}
use mathlib.Core.List.{List, [], ◌∷◌, ◌++◌}
use Prim.Native.Nat.{ℕ}
use borrow.Author.Tests.{ne_eqb}
use native.Mathlib.Omega.{arith}
use lib.Dec.{ltb}
use lib.ListN.{length}
use Rattle.laws.proofs.TestLaws.{pick_same}
use Rattle.device.specs.declared.Write.{Write}
use Rattle.text.specs.Read.{newline}
use Rattle.commands.specs.declared.Command.TheVariants.{Bad, Silent}
use Rattle.commands.specs.declared.change.Console.{Console}
use Rattle.commands.specs.Command.{command_of}
use Rattle.commands.specs.Obeyed.{obeyed}
use Rattle.commands.specs.Reading.{Held, taken_all}
use Rattle.commands.proofs.ReadingLaws.{OneLine, Ready, line_after_lem}

pub empty_silent : command_of [] ≡ Silent
unfolding command_of
empty_silent = refl

-- 35 is `#`
pub comment_silent : (bs : List ℕ) → command_of (35 ∷ bs) ≡ Silent
unfolding command_of
comment_silent bs = let some : ¬ (length (35 ∷ bs) ≡ 0) = λ e. absurd (omega arith) in rw (ne_eqb (length (35 ∷ bs)) 0 some)

pub silent_keeps : (c : Console) (line : List ℕ) (ws : List Write) → command_of line ≡ Silent → obeyed c (command_of line) ws ≡ c
silent_keeps c line ws e = rw e

pub bad_keeps : (c : Console) (line : List ℕ) (ws : List Write) → command_of line ≡ Bad → obeyed c (command_of line) ws ≡ c
bad_keeps c line ws e = rw e

-- the same of a line with its newline, as it is read
pub bad_line : (bs : List ℕ) (h : Held) → OneLine bs → Ready h → command_of bs ≡ Bad → (taken_all (bs ++ (newline ∷ [])) h).reading.console ≡ h.reading.console
bad_line bs h o r e = line_after_lem bs h o r ∙ rw e (pick_same (ltb 4095 (length bs)) h.reading.console)
