use Rattle.spec_record_laws.proofs.Filtered.{filtered_picture_fits}
use Rattle.spec_record_laws.proofs.filtered_samples_fit.Goals as goal

pub returns : goal.returns
returns c = filtered_picture_fits
