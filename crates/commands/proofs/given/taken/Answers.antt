-- A form more is read, and what was made of it put at its place. Assumes nothing.
use Rattle.std.proofs.Common.{rules, ◌≡◌, suc, ◌∙◌, ap, add-one, arith}
use lib.ListN.{length-replicate}
use Rattle.form.specs.Form.{form_at}
use Rattle.form.specs.Choice.{onward, times}
use Rattle.commands.proofs.GivenLaws.{filled_next}
use Rattle.commands.proofs.given.taken.Goals as goal

pub loop-place-init : goal.loop-place-init
unfolding times
loop-place-init g c = record { long = length-replicate _ _; read = c.read_form-f.ensures; each = λ k z l. absurd (omega arith) }

pub loop-place-preserved : goal.loop-place-preserved
unfolding times
loop-place-preserved g c =
    let line = c.args.line.now in
    let f : c.read_onward-f.result ≡ times line c.args.form.now (suc c.loop-place.place-index) (form_at line 0 c.args.head.now) =
    c.read_onward-f.ensures ∙ ap (onward line c.args.form.now) c.loop-place.invariant.read in
    record {
      long = search rules;
      read = rw (add-one c.loop-place.place-index) f;
      each = filled_next (λ k y. goal.F-post g c.args.make (times line c.args.form.now (suc k) (form_at line 0 c.args.head.now)) y) c.loop-place.place-items c.loop-place.place-index c.make.result (search rules) (rw (← f) c.make.ensures) c.loop-place.invariant.each;
    }
