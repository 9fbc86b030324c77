use Rattle.spec_filter.proofs.Pcm.{pcm_stays}
use Rattle.spec_filter.proofs.pcm_pictures_stay.Goals as goal

pub returns : goal.returns
returns c = pcm_stays
