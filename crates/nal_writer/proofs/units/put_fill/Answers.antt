use Rattle.std.proofs.Common.{sym, arith, replicate}
use Rattle.std.proofs.lemmas.Result.{err_from_is_err_and}
use Rattle.nal_writer.proofs.Pieces.{going_same, going_more, last_piece, stopped, fill_going, take_fill}
use Rattle.nal_writer.proofs.units.put_fill.Goals as goal

pub returns-in_err-put_bytes : goal.returns-in_err-put_bytes
returns-in_err-put_bytes c = let p = err_from_is_err_and c.from_residual.result c.from_residual.ensures.1 in rw (p.1) (stopped c.args.out.now c.loop-left.out c.put_bytes.new.self _ _ (replicate c.args.count 255)
    (fill_going c.args.out.now c.loop-left.out 256 c.loop-left.left (replicate c.args.count 255) (omega arith) c.loop-left.invariant) c.in_err-put_bytes.ensures)

pub loop-left-preserved : goal.loop-left-preserved
loop-left-preserved c = going_more c.args.out.now c.loop-left.out c.put_bytes.new.self _ _ (replicate c.args.count 255)
    (fill_going c.args.out.now c.loop-left.out 256 c.loop-left.left (replicate c.args.count 255) (omega arith) c.loop-left.invariant) c.in_ok-put_bytes.ensures.1

pub returns : goal.returns
returns c = last_piece c.args.out.now c.loop-left.out c.put_bytes-2.new.self _ (replicate c.args.count 255) c.put_bytes-2.result
    (going_same c.args.out.now c.loop-left.out (replicate c.loop-left.left 255) _ (replicate c.args.count 255) (sym (take_fill c.loop-left.left 256 255 (omega arith))) c.loop-left.invariant) c.put_bytes-2.ensures
