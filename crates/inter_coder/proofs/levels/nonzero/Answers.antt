use Rattle.std.proofs.Common.{arith}
use Rattle.inter_coder.proofs.LevelLaws.{count_more, all_counted, one_small}
use Rattle.inter_coder.proofs.levels.nonzero.Goals as goal

pub loop-k-preserved : goal.loop-k-preserved
loop-k-preserved c =
    let one = one_small _ _ c.one_at-count.ensures in
    record {
      few = omega (arith, one, c.loop-k.invariant.few);
      counted = count_more c.args.levels.now c.loop-k.k _ _ (omega arith) c.loop-k.invariant.counted c.one_at-count.ensures;
    }

pub returns : goal.returns
returns c = all_counted c.args.levels.now 256 c.loop-k.count c.loop-k.k (omega arith) (omega arith) c.loop-k.invariant.counted
