use Rattle.std.proofs.Common.{◌≡◌, ◌+◌, ◌-◌, ◌*◌, ℕ, refl, arith}
use Rattle.inter_coder.proofs.Puts.{put_none, put_next}
use Rattle.inter_coder.proofs.blocks.put.Goals as goal

pub loop-j-init : goal.loop-j-init
loop-j-init g c = put_none g.row.S c.args.x c.args.y c.args.wide c.args.block.now c.args.out.now

pub loop-j-preserved : goal.loop-j-preserved
loop-j-preserved g c =
    let side : ℕ = g.row.S in
    let from : ℕ = (c.args.y + c.loop-j.j) * c.args.wide + c.args.x in
    let k : from + side - from ≡ side = omega arith in
    let k' : c.loop-j.j * side + side - c.loop-j.j * side ≡ side = omega arith in
    put_next side c.args.x c.args.y c.args.wide c.loop-j.j c.args.block.now c.args.out.now c.loop-j.out from (from + side - from) (c.loop-j.j * side + side - c.loop-j.j * side) c.copy_from_slice.new.self
    c.loop-j.invariant refl c.loop-j-test.true c.requires.columns c.requires.rows c.requires.block k k' c.copy_from_slice.ensures.after
