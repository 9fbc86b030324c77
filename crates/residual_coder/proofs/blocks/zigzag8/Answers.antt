use Rattle.residual_coder.proofs.BlockLaws.{place8}
use Rattle.residual_coder.proofs.blocks.zigzag8.Goals as goal

pub returns-clause-inside : goal.returns-clause-inside
returns-clause-inside c = place8 c.args.scan
