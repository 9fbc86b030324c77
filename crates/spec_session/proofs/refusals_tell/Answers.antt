use Rattle.spec_session.proofs.Refusing.{refusals_tell, never_small}
use Rattle.spec_session.proofs.refusals_tell.Goals as goal

pub returns : goal.returns
returns c = record {
  fewer = λ f pictures r e. (refusals_tell f pictures r e).fewer;
  picture = λ f pictures r e. (refusals_tell f pictures r e).to;
  small = never_small;
}
