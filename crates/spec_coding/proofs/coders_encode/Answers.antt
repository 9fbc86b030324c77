use Rattle.std.proofs.Common.{◌≡◌, true}
use Rattle.spec_coding.proofs.Choosing.{coders_encode}
use Rattle.spec_coding.proofs.coders_encode.Goals as goal

pub returns : goal.returns
returns bounds c = λ r q f c sound laws xs s is. coders_encode r q f c (λ s xs. sound s xs ≡ true) laws xs s is
