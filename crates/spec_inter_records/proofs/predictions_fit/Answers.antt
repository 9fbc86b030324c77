use Rattle.spec_inter_records.proofs.Predictions.{predicted_fits}
use Rattle.spec_inter_records.proofs.predictions_fit.Goals as goal

pub returns : goal.returns
returns c = predicted_fits
