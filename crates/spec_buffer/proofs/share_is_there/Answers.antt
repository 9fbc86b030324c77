use Rattle.std.proofs.Common.{refl}
use Rattle.spec_buffer.proofs.Holds.{share_is_there}
use Rattle.spec_buffer.proofs.share_is_there.Goals as goal

pub returns : goal.returns
returns c = λ t l bits next is k small few. share_is_there t l bits _ next is k small refl few
