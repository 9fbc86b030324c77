use Rattle.std.proofs.Common.{arith}
use Rattle.bin_writer.proofs.Coding.{codes_none, codes_then, codes_as, codes_plainly}
use Rattle.residual_writer.proofs.Sizes.{sized_some, sized_none}
use Rattle.residual_writer.proofs.levels.code_level.Goals as goal

pub returns-then-size-gt0 : goal.returns-then-size-gt0
returns-then-size-gt0 c =
    codes_as (sized_some c.args.category c.args.above c.args.ones c.args.size c.args.is_negative c.if-size-gt0.true) (codes_then c.code_size.ensures (codes_plainly c.code_size.ensures.ready c.code_bypass.ensures))

pub returns-else-size-gt0 : goal.returns-else-size-gt0
returns-else-size-gt0 c = codes_as (sized_none c.args.category c.args.above c.args.ones c.args.size c.args.is_negative (omega arith)) (codes_none c.requires.ready)
