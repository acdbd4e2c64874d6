-- A line gathered byte by byte, where there is room for so many.
--   gathered room held == how many bytes are held with one more: one more than the room where the line is too long
--   Gathering          == the bytes it is gathered in, and how many of them are held
--   gather_all bs g    == the same after the bytes bs, one after the other
use Rattle.std.specs.Prelude.{List, [], ◌∷◌, ℕ, ◌+◌, ltb, length, set}
use Rattle.laws.specs.Pick.{pick}

unfoldable pub gathered : ℕ → ℕ → ℕ
gathered room held = pick (ltb held room) (held + 1) (room + 1)

pub record Gathering : Type 0 where
  pub line : List ℕ
  pub held : ℕ

abbrev pub gather_one : Gathering → ℕ → Gathering
gather_one g b = record { line = set g.line g.held b; held = gathered (length g.line) g.held }

unfoldable pub gather_all : List ℕ → Gathering → Gathering
gather_all [] g = g
gather_all (b ∷ bs) g = gather_all bs (gather_one g b)
