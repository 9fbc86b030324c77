use Rattle.std.proofs.Common.{◌≡◌, ◌+◌, ◌*◌, ◌/◌, length, arith, take, sum}
use Rattle.lane_kernels.proofs.Chunks.{sum_chunk, sum_one, sum_so_far}
use Rattle.lane_kernels.proofs.rows.sum_rows.Goals as goal

-- the sum after one chunk more
next : (c : goal.After-sum16-total) → c.loop-k.total + c.sum16-total.result ≡ sum (take (16 * (c.loop-k.k + 1)) c.args.a.now)
next c =
    let more = sum_chunk c.loop-k.k (length c.args.a.now / 16) c.args.a.now c.as_chunks.result.0.now c.as_chunks.ensures.front (omega arith) in
    omega arith

pub overflow_add-total : goal.overflow_add-total
overflow_add-total c =
    let e = next c in
    let b = sum_so_far (16 * (c.loop-k.k + 1)) c.args.a.now (omega arith) c.type_inv.a in
    record { fits = omega arith }

pub loop-k-preserved : goal.loop-k-preserved
loop-k-preserved c = next c

pub overflow_add-total-in-loop-i : goal.overflow_add-total-in-loop-i
overflow_add-total-in-loop-i c =
    let b = sum_so_far (c.loop-i.i + 1) c.args.a.now (omega arith) c.type_inv.a in
    let e = sum_one c.loop-i.i c.args.a.now (omega arith) in
    record { fits = omega arith }

pub loop-i-preserved : goal.loop-i-preserved
loop-i-preserved c =
    let e = sum_one c.loop-i.i c.args.a.now (omega arith) in
    omega arith
