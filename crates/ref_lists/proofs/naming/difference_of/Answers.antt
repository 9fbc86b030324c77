use Rattle.std.proofs.Common.{◌+◌, arith, ap, ap₂, ◌∙◌}
use Rattle.spec_basics.specs.Sums.{sad}
use Rattle.ref_lists.proofs.Differing.{next_row, no_row, all_rows}
use Rattle.ref_lists.proofs.naming.difference_of.Goals as goal

pub loop-y-init : goal.loop-y-init
loop-y-init c = (no_row c.args.a.now c.args.b.now, omega arith)

pub loop-y-preserved : goal.loop-y-preserved
loop-y-preserved c = (
  ap (λ n. c.loop-y.total + n) (c.sad_rows.ensures ∙ ap₂ (λ xs ys. sad xs ys) c.row.ensures.value c.row-in-loop-y.ensures.value)
      ∙ next_row c.args.a.now c.args.b.now c.loop-y.y c.loop-y.total c.requires.width c.requires.height c.loop-y-test.true c.loop-y.invariant.0,
  omega (arith, c.loop-y.invariant.1),
)

pub returns : goal.returns
returns c = all_rows c.args.a.now c.args.b.now c.loop-y.y c.loop-y.total c.requires.height (omega (arith, c.loop-y.auto.y-end, c.loop-y-test.false)) c.loop-y.invariant.0
