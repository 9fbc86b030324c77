use Rattle.residual_coder.proofs.StripeLaws.{written_from}
use Rattle.residual_coder.proofs.parts.write_block.Goals as goal

pub returns-clause-samples : goal.returns-clause-samples
returns-clause-samples c =
    written_from c.args.plane.now _ c.args.top c.args.x c.args.y c.args.n c.args.block.now c.write_rows.ensures.shape.0 c.requires.begins c.write_rows.ensures.samples
