-- Lines worked by hand.
--   after c line == the console after a line, from c
--   kind line    == 0 for a bad line, 1 for a silent one, 2 for one that tells, 3, 4 and 5 for one that changes the table, the MPU, the switch
--   the cases    == a line and its kind: each verb, each bound on both of its sides, and each way to be bad
use Rattle.std.specs.Prelude.{List, [], ◌∷◌, ℕ}
use Prim.Native.String.{String}
use Rattle.text.specs.Ascii.{ascii}
use Rattle.commands.specs.declared.Command.{Command}
use Rattle.commands.specs.declared.Command.TheVariants.{Bad, Silent, Tell, Table, Mpu, Switch}
use Rattle.commands.specs.declared.change.Console.{Console}
use Rattle.commands.specs.Command.{command_of}
use Rattle.commands.specs.Given.{triples_of}
use Rattle.commands.specs.Obeyed.{obeyed}

abbrev kind_of : Command → ℕ
kind_of Bad = 0
kind_of Silent = 1
kind_of (Tell q) = 2
kind_of (Table k) = 3
kind_of (Mpu k) = 4
kind_of (Switch k) = 5

pub record Case : Type 0 where
  pub got : ℕ
  pub due : ℕ

abbrev line : ℕ → String → Case
line k s = record { got = kind_of (command_of (ascii s)); due = k }

abbrev pub cases : List Case
cases =
    line 1 "" ∷ line 1 "#" ∷ line 1 "# add part=1" ∷ line 0 " " ∷ line 0 " #" ∷ line 0 "what"
    ∷ line 2 "pow2 n=1" ∷ line 0 "pow2 n=4294967296" ∷ line 0 "pow2 n=01" ∷ line 0 "pow2 n=1 " ∷ line 0 "pow2" ∷ line 0 "pow2  n=1"
    ∷ line 2 "region base=0 size=32" ∷ line 0 "region size=32 base=0"
    ∷ line 2 "overlap base=0 size=32 base=0 size=32" ∷ line 0 "overlap base=0 size=32 base=0"
    ∷ line 2 "list count=1" ∷ line 2 "list count=2 base=0 size=32 attr=7" ∷ line 0 "list count=1 base=0 size=32" ∷ line 0 "list"
    ∷ line 2 "size size=32" ∷ line 2 "rasr size=32 write=1" ∷ line 0 "rasr size=32 write=2"
    ∷ line 3 "empty" ∷ line 0 "empty " ∷ line 3 "add part=9 base=0 size=32 write=0" ∷ line 0 "add part=1 base=0 size=32 write=2" ∷ line 0 "add part=1 base=0 size=32"
    ∷ line 2 "covers part=1 addr=0" ∷ line 2 "entry at=31" ∷ line 0 "entry at=32"
    ∷ line 3 "hand at=31 enabled=1 base=0 size=7 write=1" ∷ line 0 "hand at=32 enabled=1 base=0 size=7 write=1" ∷ line 0 "hand at=0 enabled=2 base=0 size=7 write=1"
    ∷ line 2 "writes part=1" ∷ line 2 "ask kind=read addr=0 priv=0" ∷ line 2 "ask kind=write addr=0 priv=1" ∷ line 0 "ask kind=fetch addr=0 priv=1"
    ∷ line 4 "reg rnr=0 rbar=0 rasr=0" ∷ line 2 "mpu" ∷ line 4 "hand-slot slot=7 rbar=0 rasr=0" ∷ line 0 "hand-slot slot=8 rbar=0 rasr=0" ∷ line 4 "hand-ctrl ctrl=7"
    ∷ line 5 "start part=1" ∷ line 5 "step" ∷ line 5 "whole part=1" ∷ line 0 "step part=1" ∷ line 2 "switch"
    ∷ line 5 "hand-triple n=9 rnr=0 rbar=0 rasr=0" ∷ line 0 "hand-triple n=10 rnr=0 rbar=0 rasr=0" ∷ line 5 "hand-at at=4294967295"
    ∷ line 0 "apply" ∷ line 0 "apply rnr=0 rbar=0 rasr=0"
    ∷ []

abbrev pub after : Console → String → Console
after c l = obeyed c (command_of (ascii l)) (triples_of (ascii l))

-- a line of ten triples, no two alike
abbrev pub ten_triples : String
ten_triples =
    "apply rnr=0 rbar=10 rasr=20 rnr=1 rbar=11 rasr=21 rnr=2 rbar=12 rasr=22 rnr=3 rbar=13 rasr=23 rnr=4 rbar=14 rasr=24 rnr=5 rbar=15 rasr=25 rnr=6 rbar=16 rasr=26 rnr=7 rbar=17 rasr=27 rnr=8 rbar=18 rasr=28 rnr=9 rbar=19 rasr=29"
