-- The command that a line means is the one among the rows, Bad where there is none; and rows in two lists are asked one list after the other. By induction on the rows. Assumes nothing.
use Rattle.std.proofs.Common.{◌≡◌, refl, ℕ, List, [], ◌∷◌, ◌++◌, Option, Some, None, unwrap_or, ◌∙◌, ap}
use Rattle.form.specs.declared.Formed.{Formed}
use Rattle.form.specs.Form.{form_of}
use Rattle.commands.specs.declared.Command.TheVariants.{Bad}
use Rattle.commands.specs.Command.{Row, made_of, numbers_in, row_of, region_rows, table_rows, register_rows, switch_rows, rows, among, meant}

module _ (line : List ℕ) where
  pub meant_among : (rs ss : List Row) → meant (rs ++ ss) line ≡ unwrap_or (among rs line) (meant ss line)
  unfolding meant
  meant_among [] ss = refl
  meant_among (r ∷ rs) ss = by (form_of line r.form) (meant_among rs ss)
    where
      by : (x : Option Formed) → meant (rs ++ ss) line ≡ unwrap_or (among rs line) (meant ss line) →
          made_of x r.make (meant (rs ++ ss) line) ≡ unwrap_or (row_of (numbers_in x) r.make (among rs line)) (meant ss line)
      by None e = e
      by (Some f) e = refl

  -- the lists of the code, one after the other
  pub meant_rows : meant rows line ≡ unwrap_or (among region_rows line) (unwrap_or (among table_rows line) (unwrap_or (among register_rows line) (unwrap_or (among switch_rows line) Bad)))
  unfolding meant
  meant_rows =
      meant_among region_rows (table_rows ++ register_rows ++ switch_rows)
      ∙ ap (unwrap_or (among region_rows line)) (meant_among table_rows (register_rows ++ switch_rows)
      ∙ ap (unwrap_or (among table_rows line)) (meant_among register_rows switch_rows
      ∙ ap (unwrap_or (among register_rows line)) (meant_among switch_rows [])))
