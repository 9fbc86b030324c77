use Rattle.std.proofs.Common.{sym, arith, pos}
use Rattle.bin_writer.proofs.Coding.{codes_none, codes_then, codes_as}
use Rattle.residual_writer.proofs.Sizes.{above_less, ones_less, levels_less, empty, few}
use Rattle.residual_writer.proofs.levels.code_levels.Goals as goal

pub loop-i-init : goal.loop-i-init
loop-i-init c =
    let e = empty c.args.category _ c.requires.last.others in
    let within = c.requires.last.within in
    record { coded = codes_as e.string (codes_none c.requires.ready); above = sym e.above; ones = sym e.ones; within = omega arith; few = omega arith }

pub loop-i-preserved : goal.loop-i-preserved
loop-i-preserved c =
    let ls = c.args.levels.now in
    let i = c.loop-i.i in
    record {
      coded = rw (levels_less c.args.category ls i (pos 0) c.loop-i-test.true c.loop-i.invariant.within, ← c.loop-i.invariant.above, ← c.loop-i.invariant.ones, ← c.size_at-size.ensures, ← c.negative_at.ensures)
          (codes_then c.loop-i.invariant.coded c.code_level.ensures);
      above = rw (above_less ls i (pos 0) c.loop-i-test.true c.loop-i.invariant.within, ← c.size_at-size.ensures) (omega arith);
      ones = rw (ones_less ls i (pos 0) c.loop-i-test.true c.loop-i.invariant.within, ← c.size_at-size.ensures) (omega arith);
      within = omega arith;
      few = omega (arith, few c.size_at-size.result);
    }
