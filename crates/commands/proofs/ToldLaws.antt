-- What a line asks to be told, its numbers each in its place; what `list` gives; what is held before the first byte; how lines are counted. The lines are
-- computed, a list has up to 64 records by the law of the search, and lines are counted one after the other. Assumes nothing.
use mathlib.Core.Path.{◌≡◌, refl, sym, ◌∙◌, ap, subst}
use mathlib.Core.Bool.{true, false, true≢false}
use mathlib.Core.Logic.{◌↔◌}
use mathlib.Core.List.{List, [], ◌∷◌, ◌++◌}
use Prim.Native.Nat.{ℕ, ◌+◌, ◌≤◌, ◌<◌, zero-le}
use Prim.Native.String.{String}
use native.Mathlib.Omega.{arith}
use borrow.Author.Tests.{lt-ltb, eqb-true, ne_eqb}
use lib.ListN.{length, get_or, take, replicate}
use Rattle.laws.specs.Search.{Least, first, lowest}
use Rattle.laws.proofs.SearchLaws.{lowest_least}
use Rattle.laws.proofs.TestLaws.{le_exactly}
use Rattle.device.specs.declared.Kind.TheVariants as kind
use Rattle.sequence.specs.Sequence.{triple}
use Rattle.std.proofs.Common.{None}
use Rattle.text.specs.Ascii.{ascii}
use Rattle.text.specs.Digits.{run}
use Rattle.text.specs.Read.{number_at, newline}
use Rattle.form.specs.Form.{value_at, kept, read_on, formed}
use Rattle.form.specs.Choice.{first_of, onward, times, follows, repeats}
use Rattle.commands.specs.declared.Command.{Command}
use Rattle.commands.specs.declared.Command.TheVariants.{Bad, Tell}
use Rattle.commands.specs.declared.Tell.TheVariants.{Pow2, Region, Overlap, Records, Size, Rasr, Covers, EntryAt, Writes, Ask, Pairs, Record}
use Rattle.commands.specs.Command.{list_head, record_form, apply_head, triple_form, is_list, is_apply, rows, meant, command_of}
use Rattle.commands.specs.Given.{records_of, record_count}
use Rattle.commands.specs.Obeyed.{nothing_held}
use Rattle.commands.specs.Reading.{Held, ended, taken_all, start, input_of}
use Rattle.commands.proofs.MadeLaws.{meant_none}
use Rattle.commands.proofs.ReadingLaws.{OneLine, Lines, Ready, start_ready, line_ready, after, taken_pieces}

abbrev asks : String → Command
asks l = command_of (ascii l)

told :
    (asks "pow2 n=7" ≡ Tell (Pow2 7))
    × (asks "region base=7 size=8" ≡ Tell (Region (record { base = 7; size = 8 })))
    × (asks "overlap base=1 size=2 base=3 size=4" ≡ Tell (Overlap (record { base = 1; size = 2 }) (record { base = 3; size = 4 })))
    × (asks "list count=7 base=1 size=2 attr=3" ≡ Tell (Records 7))
    × (asks "size size=7" ≡ Tell (Size 7))
    × (asks "rasr size=7 write=1" ≡ Tell (Rasr (record { size = 7; writable = true })))
    × (asks "rasr size=1 write=0" ≡ Tell (Rasr (record { size = 1; writable = false })))
    × (asks "covers part=1 addr=7" ≡ Tell (Covers 1 7))
    × (asks "entry at=7" ≡ Tell (EntryAt 7))
    × (asks "writes part=3" ≡ Tell (Writes 3))
    × (asks "ask kind=read addr=7 priv=1" ≡ Tell (Ask (record { address = 7; kind = kind.Read; privileged = true })))
    × (asks "ask kind=write addr=1 priv=0" ≡ Tell (Ask (record { address = 1; kind = kind.Write; privileged = false })))
    × (asks "mpu" ≡ Tell Pairs)
    × (asks "switch" ≡ Tell Record)
unfolding first lowest run number_at value_at kept read_on formed onward times repeats meant command_of
told = (refl, refl, refl, refl, refl, refl, refl, refl, refl, refl, refl, refl, refl, refl)

-- ---- a list
abbrev two : List ℕ
two = ascii "list count=7 base=1 size=2 attr=3 base=4 size=5 attr=6"

records-given :
    (record_count two ≡ 2)
    × (take 3 (records_of two) ≡ record { base = 1; size = 2; attr = 3 } ∷ record { base = 4; size = 5; attr = 6 } ∷ record { base = 0; size = 0; attr = 0 } ∷ [])
unfolding first lowest run number_at value_at kept read_on formed onward times repeats
records-given = (refl, refl)

-- up to 64 records, and no more
module _ (line : List ℕ) where
  abbrev many : ℕ
  many = lowest (follows line list_head record_form) 0 65

  least : Least (follows line list_head record_form) 0 65 many
  least = lowest_least (follows line list_head record_form) zero-le

  pub list_exactly : (is_list line ≡ true) ↔ ((k : ℕ) × (k ≤ 64) × (follows line (ascii "list count=#") (ascii " base=# size=# attr=#") k ≡ true))
  unfolding repeats
  list_exactly = (
    λ e. let few : many ≤ 64 = (le_exactly _ _).0 e in (many, few, least.passes (omega arith)),
    λ w.
        let past : ¬ (w.0 < many) = λ h. true≢false (sym w.2 ∙ least.none w.0 zero-le h) in
        let few : w.0 ≤ 64 = w.1 in
        let all : many ≤ 64 = omega arith in
        (le_exactly _ _).1 all,
  )

  -- ten triples, and no other number of them
  pub apply_means : is_apply line ≡ true → follows line (ascii "apply") (ascii " rnr=# rbar=# rasr=#") 10 ≡ true
  unfolding repeats
  apply_means e =
      let at : lowest (follows line apply_head triple_form) 0 11 ≡ 10 = eqb-true _ _ e in
      subst (λ (k : ℕ). follows line apply_head triple_form k ≡ true) at ((lowest_least (follows line apply_head triple_form) zero-le).passes (omega (arith, at)))

-- ---- every other form, and that a line of none is bad
abbrev known : List (List ℕ)
known =
    ascii "pow2 n=#"
    ∷ ascii "region base=# size=#"
    ∷ ascii "overlap base=# size=# base=# size=#"
    ∷ ascii "size size=#"
    ∷ ascii "rasr size=# write=!"
    ∷ ascii "empty"
    ∷ ascii "add part=# base=# size=# write=!"
    ∷ ascii "covers part=# addr=#"
    ∷ ascii "entry at=#"
    ∷ ascii "hand at=# enabled=! base=# size=# write=!"
    ∷ ascii "writes part=#"
    ∷ ascii "ask kind=read addr=# priv=!"
    ∷ ascii "ask kind=write addr=# priv=!"
    ∷ ascii "reg rnr=# rbar=# rasr=#"
    ∷ ascii "mpu"
    ∷ ascii "hand-slot slot=# rbar=# rasr=#"
    ∷ ascii "hand-ctrl ctrl=#"
    ∷ ascii "start part=#"
    ∷ ascii "step"
    ∷ ascii "whole part=#"
    ∷ ascii "switch"
    ∷ ascii "hand-triple n=# rnr=# rbar=# rasr=#"
    ∷ ascii "hand-at at=#"
    ∷ []

-- a line that is not empty, no comment, no list and no apply
pub other_bad : (line : List ℕ) → ¬ (length line ≡ 0) → ¬ (get_or line 0 0 ≡ 35) → is_list line ≡ false → is_apply line ≡ false → first_of line 0 known ≡ None → command_of line ≡ Bad
unfolding command_of
other_bad line some mark l p none = rw (ne_eqb (length line) 0 some, ne_eqb (get_or line 0 0) 35 mark, l, p) (meant_none line 0 rows none)

-- ---- before the first byte: an empty table, an MPU and a switch of zeros
begins : nothing_held
    ≡ record {
      table = record { base = replicate 32 0; size = replicate 32 0; enabled = replicate 32 false; writable = replicate 32 false };
      switch =
          record {
            mpu = record { slots = replicate 8 (record { rbar = 0; rasr = 0 }); control = 0 };
            writes = replicate 10 (triple 0 0 0);
            position = 0;
            log = replicate 10 (triple 0 0 0);
          };
    }
begins = refl

-- ---- lines are counted from the first, whatever they say
abbrev counts : Held → ℕ
counts h = h.reading.lines

line_counted : (bs : List ℕ) (h : Held) → OneLine bs → Ready h → counts h < 18446744073709551615 → counts (taken_all (bs ++ (newline ∷ [])) h) ≡ counts h + 1
unfolding ended
line_counted bs h o r few = ap counts (after bs h o r) ∙ rw (lt-ltb (counts h) 18446744073709551615 few)

lines_counted : (ls : List (List ℕ)) (h : Held) → Lines ls → Ready h → counts h + length ls ≤ 18446744073709551615 → counts (taken_all (input_of ls) h) ≡ counts h + length ls
unfolding taken_all
lines_counted [] h o r few = omega arith
lines_counted (l ∷ ls) h o r few =
    let one : counts (taken_all (l ++ (newline ∷ [])) h) ≡ counts h + 1 = line_counted l h o.0 r (omega arith) in
    let rest = lines_counted ls (taken_all (l ++ (newline ∷ [])) h) o.1 (line_ready l h o.0 r) (omega (arith, one)) in
    ap counts (taken_pieces (l ++ (newline ∷ [])) (input_of ls) h) ∙ rest ∙ omega (arith, one)

pub lines_after_input : (ls : List (List ℕ)) → Lines ls → length ls ≤ 18446744073709551615 → counts (taken_all (input_of ls) start) ≡ length ls
lines_after_input ls o few = let all = lines_counted ls start o start_ready (omega (arith, few)) in omega (arith, all)
