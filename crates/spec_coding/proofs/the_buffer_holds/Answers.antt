use Rattle.spec_coding.proofs.Choosing.{the_buffer_holds}
use Rattle.spec_coding.proofs.the_buffer_holds.Goals as goal

pub returns : goal.returns
returns bounds c = the_buffer_holds
