-- The whole search is what is left of it: n times the form were read, and the line goes on after each time before. Assumes nothing.
use mathlib.Core.Path.{◌≡◌, refl, sym, ◌∙◌}
use native.Mathlib.Numerals.{add-one}
use native.Mathlib.Omega.{arith}
use Rattle.laws.proofs.SearchLaws.{lowest_here, lowest_next, lowest_end}
use Rattle.form.specs.Choice.{times, repeats}
use Rattle.form.proofs.count_repeats.Goals as goal

pub loop-n-init : goal.loop-n-init
unfolding times
loop-n-init c = record { read = c.read_form-f.ensures; left = refl }

pub returns-then-is_whole : goal.returns-then-is_whole
unfolding repeats
returns-then-is_whole c =
    let v = c.loop-n.invariant in
    sym (v.left ∙ lowest_here _ c.loop-n-test.true (rw (← v.read, ← c.is_whole.ensures) c.if-is_whole.true))

pub loop-n-preserved : goal.loop-n-preserved
unfolding times
loop-n-preserved c =
    let v = c.loop-n.invariant in
    record {
      read = c.read_onward-f.ensures ∙ rw (v.read, add-one c.loop-n.n);
      left = v.left ∙ lowest_next _ c.loop-n-test.true (rw (← v.read, ← c.is_whole.ensures) c.if-is_whole.false);
    }

pub returns : goal.returns
unfolding repeats
returns c =
    let all : c.loop-n.n ≡ c.args.m = omega arith in
    sym (c.loop-n.invariant.left ∙ lowest_end _ c.loop-n-test.false ∙ all)
