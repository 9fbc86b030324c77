use Rattle.spec_headers.specs.Heads.{idr_head}
use Rattle.picture_coder.proofs.JobHeads.{idr_fits}
use Rattle.picture_coder.proofs.heads.idr_head_at.Goals as goal

pub returns-clause-fits : goal.returns-clause-fits
unfolding idr_head
returns-clause-fits c = idr_fits c.args.first_mb c.args.idr_id c.args.qp c.requires.first c.requires.idr_id c.requires.qp
