use Rattle.std.proofs.Common.{◌*◌, ◌+◌, arith, sym}
use Rattle.lane_kernels.proofs.BlockRows.{weaker, zeros_most, rows_more, rows_none, row_inside}
use Rattle.lane_kernels.proofs.blocks.sad_block16.Goals as goal

pub loop-row-init : goal.loop-row-init
loop-row-init c = record {
  lanes = omega arith;
  total = sym (rows_none 16 c.args.stride_a c.args.stride_b c.args.a.now c.args.b.now);
  most = zeros_most 16;
}

pub add_apart16-all-requires-clause-low : goal.add_apart16-all-requires-clause-low
add_apart16-all-requires-clause-low c = weaker (255 * c.loop-row.row) 65280 c.loop-row.all (omega arith) c.loop-row.invariant.most

pub loop-row-preserved : goal.loop-row-preserved
loop-row-preserved c =
    let p = row_inside c.loop-row.row c.args.rows c.args.stride_a 16 _ (omega arith) c.requires.room_a in
    let q = row_inside c.loop-row.row c.args.rows c.args.stride_b 16 _ (omega arith) c.requires.room_b in
    let more = rows_more 16 c.loop-row.row c.args.stride_a c.args.stride_b c.args.a.now c.args.b.now p q in
    record {
      lanes = c.add_apart16-all.ensures.lanes;
      total = (let s = c.add_apart16-all.ensures.sum in omega arith);
      most = weaker (255 * c.loop-row.row + 255) (255 * (c.loop-row.row + 1)) _ (omega arith) (c.add_apart16-all.ensures.most (255 * c.loop-row.row) (omega arith) c.loop-row.invariant.most);
    }

pub total16-requires-clause-low : goal.total16-requires-clause-low
total16-requires-clause-low c = weaker (255 * c.loop-row.row) 65280 c.loop-row.all (omega arith) c.loop-row.invariant.most
