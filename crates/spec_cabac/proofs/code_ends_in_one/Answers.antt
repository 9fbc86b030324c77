use Rattle.spec_cabac.proofs.Law.{code_ends, length-code}
use Rattle.spec_cabac.proofs.code_ends_in_one.Goals as goal

pub returns : goal.returns
returns c = record { ends = code_ends; size = length-code }
