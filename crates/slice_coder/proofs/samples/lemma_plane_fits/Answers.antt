use Rattle.slice_coder.proofs.PlaneBytes.{plane_bytes}
use Rattle.slice_coder.proofs.samples.lemma_plane_fits.Goals as goal

pub returns : goal.returns
returns c = plane_bytes c.args.plane.now c.rows_from.result.now c.rows_from.ensures.list c.lemma_bytes_fit.ensures
