use Rattle.std.proofs.Common.{arith, length, ◌-◌}
use borrow.Rule.Slice.PartMut.{same_len_mid}
use Rattle.enc_edge.proofs.Spots.{part_len, read_step, has_read_more, has_read_end}
use Rattle.enc_edge.proofs.full.read_full.Goals as goal

pub returns-then-n-eq0-clause-bytes : goal.returns-then-n-eq0-clause-bytes
returns-then-n-eq0-clause-bytes g c =
    let seen = g.S.Studio.seen in
    has_read_end c.loop-done.done c.in_ok-n.n (length c.loop-done.buf - c.loop-done.done) c.loop-done.buf c.read.new.buf (seen c.args.studio.now) (seen c.loop-done.studio)
    (omega arith) (same_len_mid _ _ _ _ c.read.auto.buf) (omega arith) c.loop-done.invariant.so_far c.loop-done.invariant.bytes c.in_ok-n.ensures.bytes

pub loop-done-preserved : goal.loop-done-preserved
loop-done-preserved g c =
    let seen = g.S.Studio.seen in
    let count = c.in_ok-n.ensures.count in
    record {
      within = let len = same_len_mid c.loop-done.done (length c.loop-done.buf - c.loop-done.done) c.loop-done.buf c.read.new.buf c.read.auto.buf in let part = part_len c.loop-done.done c.loop-done.buf c.read.new.buf c.read.auto.buf in omega arith;
      so_far = read_step c.loop-done.done c.in_ok-n.n (seen c.args.studio.now) (seen c.loop-done.studio) (seen c.read.new.self) c.loop-done.invariant.so_far c.in_ok-n.ensures.change;
      bytes = has_read_more c.loop-done.done c.in_ok-n.n (length c.loop-done.buf - c.loop-done.done) c.loop-done.buf c.read.new.buf (seen c.args.studio.now) (seen c.loop-done.studio)
          (omega arith) count c.loop-done.invariant.so_far c.loop-done.invariant.bytes c.in_ok-n.ensures.bytes;
    }
