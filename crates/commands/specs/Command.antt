-- What a line asks for.
--   region_rows, ..        == the rows of one subject, as the code asks them
--   rows                   == the table of commands: the form of each, and the command that it is with its numbers
--   meant rows line        == the command of the first row whose form the line has; Bad where it has none
--   among rows line        == the same, and none where it has none
--   below i n c            == the command c, where its index i is below n; Bad where it is not
--   is_silent line         == the line is empty, or a comment
--   is_list, is_apply      == the two commands whose line goes on: with 0 to 64 records, with ten triples
--   command_of line        == the command of a line; Bad where it is none
--   line_command line held == the command of the line that is held: its first bytes, so many; Bad where it is too long
use Rattle.std.specs.Prelude.{Bool, ◌||◌, List, [], ◌∷◌, ◌++◌, ℕ, leb, ltb, eqb, length, get_or, take, Option, Some, None}
use Prim.Native.String.{String}
use Rattle.laws.specs.Pick.{pick}
use Rattle.region.specs.declared.Range.{Range}
use Rattle.device.specs.declared.Access.{Access}
use Rattle.device.specs.declared.Kind.{Kind}
use Rattle.device.specs.declared.Kind.TheVariants as kind
use Rattle.sequence.specs.Sequence.{triple}
use Rattle.text.specs.Ascii.{ascii}
use Rattle.form.specs.declared.Formed.{Formed}
use Rattle.form.specs.Form.{form_at, form_of, values_of}
use Rattle.form.specs.Choice.{repeats}
use Rattle.commands.specs.declared.Command.{Command}
use Rattle.commands.specs.declared.Command.TheVariants.{Bad, Silent, Tell, Table, Mpu, Switch}
use Rattle.commands.specs.declared.Tell.TheVariants.{Pow2, Region, Overlap, Records, Size, Rasr, Covers, EntryAt, Writes, Ask, Pairs, Record}
use Rattle.commands.specs.declared.ToTable.TheVariants.{Empty, Add, Hand}
use Rattle.commands.specs.declared.ToMpu.TheVariants.{Reg, HandSlot, HandCtrl, Apply}
use Rattle.commands.specs.declared.ToSwitch.TheVariants.{Start, Step, Whole, HandTriple, HandAt}

-- the numbers of a line, by letters
pub record Numbers : Type 0 where
  pub a : ℕ
  pub b : ℕ
  pub c : ℕ
  pub d : ℕ
  pub e : ℕ

pub record Row : Type 0 where
  pub form : List ℕ
  pub make : Numbers → Command

abbrev row : String → (Numbers → Command) → Row
row form make = record { form = ascii form; make = make }

abbrev pub numbers_of : List ℕ → Numbers
numbers_of v = record { a = get_or v 0 0; b = get_or v 1 0; c = get_or v 2 0; d = get_or v 3 0; e = get_or v 4 0 }

abbrev pub is_set : ℕ → Bool
is_set x = eqb x 1

abbrev range : ℕ → ℕ → Range
range b s = record { base = b; size = s }

abbrev access : ℕ → Kind → ℕ → Access
access a k p = record { address = a; kind = k; privileged = is_set p }

-- an index that is below its bound; the line is bad where it is not
abbrev pub below : ℕ → ℕ → Command → Command
below i n c = pick (ltb i n) c Bad

-- regions and register fields
abbrev pub region_rows : List Row
region_rows =
    row "pow2 n=#" (λ v. Tell (Pow2 v.a))
    ∷ row "region base=# size=#" (λ v. Tell (Region (range v.a v.b)))
    ∷ row "overlap base=# size=# base=# size=#" (λ v. Tell (Overlap (range v.a v.b) (range v.c v.d)))
    ∷ row "size size=#" (λ v. Tell (Size v.a))
    ∷ row "rasr size=# write=!" (λ v. Tell (Rasr (record { size = v.a; writable = is_set v.b })))
    ∷ []

-- the table
abbrev pub table_rows : List Row
table_rows =
    row "empty" (λ v. Table Empty)
    ∷ row "add part=# base=# size=# write=!" (λ v. Table (Add v.a (record { base = v.b; size = v.c; writable = is_set v.d })))
    ∷ row "covers part=# addr=#" (λ v. Tell (Covers v.a v.b))
    ∷ row "entry at=#" (λ v. below v.a 32 (Tell (EntryAt v.a)))
    ∷ row "hand at=# enabled=! base=# size=# write=!"
    (λ v. below v.a 32 (Table (Hand v.a (record { base = v.c; size = v.d; enabled = is_set v.b; writable = is_set v.e }))))
    ∷ []

-- the writes of a partition, and the MPU
abbrev pub register_rows : List Row
register_rows =
    row "writes part=#" (λ v. Tell (Writes v.a))
    ∷ row "ask kind=read addr=# priv=!" (λ v. Tell (Ask (access v.a kind.Read v.b)))
    ∷ row "ask kind=write addr=# priv=!" (λ v. Tell (Ask (access v.a kind.Write v.b)))
    ∷ row "reg rnr=# rbar=# rasr=#" (λ v. Mpu (Reg (triple v.a v.b v.c)))
    ∷ row "mpu" (λ v. Tell Pairs)
    ∷ row "hand-slot slot=# rbar=# rasr=#" (λ v. below v.a 8 (Mpu (HandSlot v.a (record { rbar = v.b; rasr = v.c }))))
    ∷ row "hand-ctrl ctrl=#" (λ v. Mpu (HandCtrl v.a))
    ∷ []

-- the switch record
abbrev pub switch_rows : List Row
switch_rows =
    row "start part=#" (λ v. Switch (Start v.a))
    ∷ row "step" (λ v. Switch Step)
    ∷ row "whole part=#" (λ v. Switch (Whole v.a))
    ∷ row "switch" (λ v. Tell Record)
    ∷ row "hand-triple n=# rnr=# rbar=# rasr=#" (λ v. below v.a 10 (Switch (HandTriple v.a (triple v.b v.c v.d))))
    ∷ row "hand-at at=#" (λ v. Switch (HandAt v.a))
    ∷ []

abbrev pub rows : List Row
rows = region_rows ++ table_rows ++ register_rows ++ switch_rows

-- the command of the numbers that were read; the other where nothing was
abbrev pub made_of : Option Formed → (Numbers → Command) → Command → Command
made_of None make other = other
made_of (Some f) make other = make (numbers_of f.values)

unfoldable pub meant : List Row → List ℕ → Command
meant [] line = Bad
meant (r ∷ rs) line = made_of (form_of line r.form) r.make (meant rs line)

-- the numbers of a form that is there, as the code has them
abbrev pub Five : Type 0
Five = ℕ × ℕ × ℕ × ℕ × ℕ

abbrev pub numbers_in : Option Formed → Option Five
numbers_in None = None
numbers_in (Some f) = Some (get_or f.values 0 0, get_or f.values 1 0, get_or f.values 2 0, get_or f.values 3 0, get_or f.values 4 0)

-- the command of the numbers; the other where there are none
abbrev pub row_of : Option Five → (Numbers → Command) → Option Command → Option Command
row_of None make other = other
row_of (Some v) make other = Some (make (record { a = v.0; b = v.1; c = v.2; d = v.3; e = v.4 }))

abbrev pub among : List Row → List ℕ → Option Command
among [] line = None
among (r ∷ rs) line = row_of (numbers_in (form_of line r.form)) r.make (among rs line)

-- ---- the two lines that go on
abbrev pub list_head : List ℕ
list_head = ascii "list count=#"

abbrev pub record_form : List ℕ
record_form = ascii " base=# size=# attr=#"

abbrev pub apply_head : List ℕ
apply_head = ascii "apply"

abbrev pub triple_form : List ℕ
triple_form = ascii " rnr=# rbar=# rasr=#"

abbrev pub is_list : List ℕ → Bool
is_list line = leb (repeats line list_head record_form 65) 64

abbrev pub is_apply : List ℕ → Bool
is_apply line = eqb (repeats line apply_head triple_form 11) 10

abbrev pub list_count : List ℕ → ℕ
list_count line = get_or (values_of (form_at line 0 list_head)) 0 0

-- ---- a line
-- `#`
abbrev pub is_silent : List ℕ → Bool
is_silent line = eqb (length line) 0 || eqb (get_or line 0 0) 35

unfoldable pub command_of : List ℕ → Command
command_of line =
    pick (is_silent line) Silent
    (pick (is_list line) (Tell (Records (list_count line)))
    (pick (is_apply line) (Mpu Apply)
    (meant rows line)))

unfoldable pub line_command : List ℕ → ℕ → Command
line_command line held = pick (ltb (length line) held) Bad (command_of (take held line))
