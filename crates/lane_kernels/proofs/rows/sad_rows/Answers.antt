use Rattle.std.proofs.Common.{◌≡◌, ◌+◌, ◌*◌, ◌/◌, length, ℕ, arith, take, ap, sym}
use Rattle.spec_basics.specs.Sums.{sad}
use Rattle.lane_kernels.proofs.Chunks.{sad_chunk, sad_so_far}
use Rattle.spec_basics.proofs.SadLaws.{sad_one}
use Rattle.lane_kernels.proofs.rows.sad_rows.Goals as goal

-- the sum after one chunk more
next : (c : goal.After-sad16-total) → c.loop-k.total + c.sad16-total.result ≡ sad (take (16 * (c.loop-k.k + 1)) c.args.a.now) (take (16 * (c.loop-k.k + 1)) c.args.b.now)
next c =
    let same : length c.args.b.now / 16 ≡ length c.args.a.now / 16 = ap (λ (n : ℕ). n / 16) (sym c.requires.same) in
    let front = rw same at c.as_chunks-2.ensures.front in
    let more = sad_chunk c.loop-k.k (length c.args.a.now / 16) c.args.a.now c.args.b.now c.as_chunks.result.0.now c.as_chunks-2.result.0.now c.requires.same c.as_chunks.ensures.front front (omega arith) in
    omega arith

pub overflow_add-total : goal.overflow_add-total
overflow_add-total c =
    let e = next c in
    let b = sad_so_far (16 * (c.loop-k.k + 1)) c.args.a.now c.args.b.now (omega arith) c.type_inv.a c.type_inv.b in
    record { fits = omega arith }

pub loop-k-preserved : goal.loop-k-preserved
loop-k-preserved c = next c

pub overflow_add-total-in-loop-i : goal.overflow_add-total-in-loop-i
overflow_add-total-in-loop-i c =
    let b = sad_so_far (c.loop-i.i + 1) c.args.a.now c.args.b.now (omega arith) c.type_inv.a c.type_inv.b in
    let e = sad_one c.loop-i.i c.args.a.now c.args.b.now c.requires.same (omega arith) in
    record { fits = omega arith }

pub loop-i-preserved : goal.loop-i-preserved
loop-i-preserved c =
    let e = sad_one c.loop-i.i c.args.a.now c.args.b.now c.requires.same (omega arith) in
    omega arith
