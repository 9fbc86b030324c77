use Rattle.inter_coder.proofs.CodedLaws.{moving_is}
use Rattle.inter_coder.proofs.coded.moving.Goals as goal

pub returns : goal.returns
returns c = moving_is _ _ _ _ c.blank-mb.ensures
