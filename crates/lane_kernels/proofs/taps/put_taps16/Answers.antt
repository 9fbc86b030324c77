use Rattle.lane_kernels.proofs.TapLanes.{taps_put, others_kept}
use Rattle.lane_kernels.proofs.taps.put_taps16.Goals as goal

pub returns-clause-taps : goal.returns-clause-taps
returns-clause-taps c = taps_put c.args.a.now c.args.out.now c.requires.room_a c.requires.room_out c.type_inv.a

pub returns-clause-others : goal.returns-clause-others
returns-clause-others c = others_kept c.args.a.now c.args.out.now c.requires.room_a
