use Rattle.spec_coding.proofs.Groups.{one_for_each}
use Rattle.spec_coding.proofs.encodings_have_each_picture.Goals as goal

pub returns : goal.returns
returns bounds c = one_for_each
