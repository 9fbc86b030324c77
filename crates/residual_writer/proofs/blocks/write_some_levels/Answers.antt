use Rattle.std.proofs.Common.{length, ◌-◌}
use Rattle.bin_writer.proofs.Coding.{codes_then, codes_as}
use Rattle.residual_writer.proofs.Sizes.{some_is}
use Rattle.residual_writer.proofs.blocks.write_some_levels.Goals as goal

pub returns-in-Some : goal.returns-in-Some
returns-in-Some c =
    let ls = c.args.levels.now in
    codes_as (some_is c.args.category (length ls - 1) ls) (codes_then c.code_significance.ensures c.code_levels.ensures)
