use Rattle.spec_headers.proofs.OtherHeads.{reads_p, reads_b}
use Rattle.spec_headers.proofs.inter_heads_are_read_back.Goals as goal

pub returns-clause-p : goal.returns-clause-p
returns-clause-p c = reads_p

pub returns-clause-b : goal.returns-clause-b
returns-clause-b c = reads_b
