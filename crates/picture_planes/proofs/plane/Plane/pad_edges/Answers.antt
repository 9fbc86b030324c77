use Rattle.picture_planes.proofs.Filling.{edges_filled, edges_samples}
use Rattle.picture_planes.proofs.plane.Plane.pad_edges.Goals as goal

pub returns-clause-filled : goal.returns-clause-filled
returns-clause-filled c = edges_filled c.args.self.now c.pad_rows.new.self c.pad_rows.ensures

pub returns-clause-samples : goal.returns-clause-samples
returns-clause-samples c = edges_samples c.args.self.now c.pad_rows.new.self c.pad_rows.ensures
