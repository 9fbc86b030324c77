use Rattle.std.proofs.Common.{arith}
use Rattle.cabac_coder.proofs.Doublings.{leading_doublings, doublings_few}
use Rattle.cabac_coder.proofs.interval.doublings.Goals as goal

pub overflow_sub-result : goal.overflow_sub-result
overflow_sub-result c = omega (arith, leading_doublings c.args.range c.requires.least c.requires.most)

pub returns : goal.returns
returns c = record {
  count = omega (arith, leading_doublings c.args.range c.requires.least c.requires.most);
  few = omega (arith, leading_doublings c.args.range c.requires.least c.requires.most, doublings_few 7 c.args.range);
}
