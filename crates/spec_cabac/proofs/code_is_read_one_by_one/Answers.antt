use Rattle.spec_cabac.proofs.Law.{reads_all}
use Rattle.spec_cabac.proofs.code_is_read_one_by_one.Goals as goal

pub returns : goal.returns
returns c = reads_all
