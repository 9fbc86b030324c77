use Rattle.std.proofs.Common.{refl, arith}
use Rattle.spec_headers.specs.Heads.{idr_head}
use Rattle.slice_coder.proofs.tests.intra_head.Goals as goal

pub returns-clause-head : goal.returns-clause-head
unfolding idr_head
returns-clause-head c = record { same = refl; first_mb_fits = omega arith; frame_num_fits = omega arith; idr_id_fits = omega arith; poc_fits = omega arith; qp_fits = omega arith }
