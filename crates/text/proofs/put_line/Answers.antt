-- The text of the line is built piece by piece, each after what stands before it, and then put whole. Assumes nothing.
use mathlib.Core.Path.{◌≡◌, ◌∙◌}
use native.Mathlib.Omega.{arith}
use lib.ListN.{take}
use Rattle.text.specs.Line.{end_key, line_text}
use Rattle.text.proofs.PutLaws.{take_over}
use Rattle.text.proofs.put_line.Goals as goal
use Rattle.text.proofs.put_line.Goals.{After-copy-e}

-- the pieces up to the newline are the line
whole : (c : After-copy-e) →
    take c.copy-e.result c.copy-e.new.out ≡ line_text c.args.l
unfolding line_text
whole c =
    rw (c.copy-e.ensures.0, c.copy-e.ensures.1) (take_over c.put_field-d.new.out c.put_field-d.result end_key (omega arith)
    ∙ rw (c.put_field-d.ensures.1, c.put_field-c.ensures.1, c.put_field-b.ensures.1, c.put_field-a.ensures.1))

pub returns : goal.returns
returns c = rw (whole (goal.at.returns c).After-copy-e) at c.put_bytes.ensures
