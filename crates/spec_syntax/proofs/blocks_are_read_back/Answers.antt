use Rattle.std.proofs.Common.{arith}
use Rattle.spec_syntax.proofs.Blocks.{reads_block_of, reads_some}
use Rattle.spec_syntax.proofs.blocks_are_read_back.Goals as goal

pub returns : goal.returns
returns c = record {
  coded = λ category inc n levels l h. reads_block_of category inc n levels (omega (arith, l)) h;
  some = λ category n levels l e h. reads_some category n levels (omega (arith, l)) e h;
}
