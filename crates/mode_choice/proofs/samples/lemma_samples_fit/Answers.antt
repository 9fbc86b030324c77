use Rattle.mode_choice.proofs.Bytes.{plane_bytes, place_small}
use Rattle.mode_choice.proofs.samples.lemma_samples_fit.Goals as goal

pub returns-clause-samples : goal.returns-clause-samples
returns-clause-samples c = plane_bytes c.args.plane.now c.rows_from.result.now c.rows_from.ensures.list c.lemma_bytes_fit.ensures

pub returns-clause-places : goal.returns-clause-places
returns-clause-places c = place_small c.args.plane.now c.rows_from.result.now c.rows_from.ensures.list c.lemma_bytes_fit.ensures
