use Rattle.std.proofs.Common.{◌≡◌, ◌-◌, length, take, drop, arith}
use Rattle.std.proofs.lemmas.List.{take_rest, length-drop}
use Rattle.nal_writer.proofs.Pieces.{run_length}
use Rattle.nal_writer.proofs.units.inserted.Goals as goal

pub loop-run-preserved : goal.loop-run-preserved
loop-run-preserved c =
    let rest = c.loop-run.rest.now in
    let n = c.loop-run.run in
    let e : take (length rest - n) (drop n rest) ≡ drop n rest = take_rest rest n in
    let r = run_length rest n c.loop-run.invariant.run (omega arith) in
    let d = length-drop n rest in
    record { count = rw e (omega (arith, r, d, c.loop-run.invariant.count, c.loop-run.invariant.run.within)); few = rw e (omega (arith, d, (c.loop-run.invariant.run.parted c.loop-run-test.true).0, c.loop-run.invariant.few, c.loop-run.invariant.run.within)); run = c.clean_run-run-in-loop-run.ensures }
