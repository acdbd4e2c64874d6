-- ascii s == the bytes of a text in plain letters, one a letter, as the code writes it in b".."
use mathlib.Core.List as list
use Rattle.std.specs.Prelude.{ℕ}
use Prim.Native.Char.{code}
use Prim.Native.String.{String, [], ◌∷◌}

abbrev pub ascii : String → list.List ℕ
ascii [] = list.[]
ascii (c ∷ s) = list.◌∷◌ (code c) (ascii s)
