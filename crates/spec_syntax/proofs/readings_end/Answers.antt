use Rattle.spec_syntax.proofs.Walks.{reads_ahead, stands_alone}
use Rattle.spec_syntax.proofs.readings_end.Goals as goal

pub returns : goal.returns
returns bounds c = record { ahead = λ s bins v h. reads_ahead s bins v h; alone = λ s. stands_alone s }
