use Rattle.std.proofs.Common.{◌≡◌, ◌-◌, [], ◌∷◌, length, take, drop, sym, ap, arith}
use Rattle.std.proofs.lemmas.Result.{err_from_is_err_and}
use Rattle.std.proofs.lemmas.List.{take_rest}
use Rattle.spec_bits.specs.Units.{escape}
use Rattle.nal_writer.proofs.Pieces.{going_same, going_more, run_last, last_piece, stopped, run_going}
use Rattle.nal_writer.proofs.units.put_escaped.Goals as goal

pub returns-in_err-put_bytes : goal.returns-in_err-put_bytes
returns-in_err-put_bytes c = let p = err_from_is_err_and c.from_residual.result c.from_residual.ensures.1 in rw (p.1) (stopped c.args.out.now c.loop-run.out c.put_bytes.new.self _ _ (escape 0 c.args.payload.now)
    (run_going c.args.out.now c.loop-run.out c.loop-run.rest.now c.loop-run.run (escape 0 c.args.payload.now) c.loop-run.invariant.run (omega arith) c.loop-run.invariant.going) c.in_err-put_bytes.ensures)

pub put_bytes-requires-in-loop-run : goal.put_bytes-requires-in-loop-run
put_bytes-requires-in-loop-run c = (going_more c.args.out.now c.loop-run.out c.put_bytes.new.self _ _ (escape 0 c.args.payload.now) (run_going c.args.out.now c.loop-run.out c.loop-run.rest.now c.loop-run.run (escape 0 c.args.payload.now) c.loop-run.invariant.run (omega arith) c.loop-run.invariant.going) c.in_ok-put_bytes.ensures.1).whole

pub returns-in_err-put_bytes-2 : goal.returns-in_err-put_bytes-2
returns-in_err-put_bytes-2 c = let p = err_from_is_err_and c.from_residual-in_err-put_bytes-2.result c.from_residual-in_err-put_bytes-2.ensures.1 in rw (p.1)
    (stopped c.args.out.now c.put_bytes.new.self c.put_bytes-in-loop-run.new.self (3 ∷ []) (escape 0 (drop c.loop-run.run c.loop-run.rest.now)) (escape 0 c.args.payload.now)
    (going_more c.args.out.now c.loop-run.out c.put_bytes.new.self _ _ (escape 0 c.args.payload.now) (run_going c.args.out.now c.loop-run.out c.loop-run.rest.now c.loop-run.run (escape 0 c.args.payload.now) c.loop-run.invariant.run (omega arith) c.loop-run.invariant.going) c.in_ok-put_bytes.ensures.1)
    c.in_err-put_bytes-2.ensures)

pub loop-run-preserved : goal.loop-run-preserved
loop-run-preserved c =
    let e : take (length c.loop-run.rest.now - c.loop-run.run) (drop c.loop-run.run c.loop-run.rest.now) ≡ drop c.loop-run.run c.loop-run.rest.now = take_rest c.loop-run.rest.now c.loop-run.run in
    record {
      going = going_same c.args.out.now c.put_bytes-in-loop-run.new.self _ _ (escape 0 c.args.payload.now) (ap (λ l. escape 0 l) (sym e))
          (going_more c.args.out.now c.put_bytes.new.self c.put_bytes-in-loop-run.new.self (3 ∷ []) (escape 0 (drop c.loop-run.run c.loop-run.rest.now)) (escape 0 c.args.payload.now)
          (going_more c.args.out.now c.loop-run.out c.put_bytes.new.self _ _ (escape 0 c.args.payload.now) (run_going c.args.out.now c.loop-run.out c.loop-run.rest.now c.loop-run.run (escape 0 c.args.payload.now) c.loop-run.invariant.run (omega arith) c.loop-run.invariant.going) c.in_ok-put_bytes.ensures.1)
          c.in_ok-put_bytes-2.ensures.1);
      run = c.clean_run-run-in-loop-run.ensures;
    }

pub returns : goal.returns
returns c = last_piece c.args.out.now c.loop-run.out c.put_bytes-2.new.self c.loop-run.rest.now (escape 0 c.args.payload.now) c.put_bytes-2.result
    (going_same c.args.out.now c.loop-run.out (escape 0 c.loop-run.rest.now) c.loop-run.rest.now (escape 0 c.args.payload.now) (run_last c.loop-run.rest.now c.loop-run.run c.loop-run.invariant.run (omega arith)) c.loop-run.invariant.going)
    c.put_bytes-2.ensures
