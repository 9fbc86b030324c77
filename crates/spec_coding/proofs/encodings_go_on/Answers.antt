use Rattle.spec_coding.proofs.Groups.{encoded-append}
use Rattle.spec_coding.proofs.encodings_go_on.Goals as goal

pub returns : goal.returns
returns bounds c = encoded-append
