use Rattle.std.proofs.Common.{arith, ◌-◌, ◌+◌, ◌*◌, ◌≡◌, ◌≤◌, refl}
use Rattle.picture_planes.specs.Samples.{samples_of}
use Rattle.picture_planes.proofs.SampleLaws.{before_end}
use Rattle.residual_coder.proofs.PartLaws.{written_none, write_next}
use Rattle.residual_coder.proofs.parts.write_rows.Goals as goal

pub loop-j-init : goal.loop-j-init
loop-j-init c = record {
  shape = (refl, refl, refl);
  done = written_none c.args.plane.now.width c.args.x c.args.y c.args.n c.args.block.now (samples_of c.args.plane.now);
}

pub slice_bounds-copy_from_slice-end-in-loop-j : goal.slice_bounds-copy_from_slice-end-in-loop-j
slice_bounds-copy_from_slice-end-in-loop-j c =
    let end : c.loop-j.j * c.args.n + c.args.n ≤ c.args.n * c.args.n = before_end c.loop-j.j c.args.n c.args.n c.loop-j-test.true in
    omega (arith, end, c.requires.size)

pub loop-j-preserved : goal.loop-j-preserved
loop-j-preserved c =
    let k : c.args.x + c.args.n - c.args.x ≡ c.args.n = omega arith in
    let k' : c.loop-j.j * c.args.n + c.args.n - c.loop-j.j * c.args.n ≡ c.args.n = omega arith in
    let end : c.loop-j.j * c.args.n + c.args.n ≤ c.args.n * c.args.n = before_end c.loop-j.j c.args.n c.args.n c.loop-j-test.true in
    record {
      shape = c.loop-j.invariant.shape;
      done = write_next c.args.plane.now c.loop-j.plane c.args.x c.args.y c.args.n c.loop-j.j (c.args.x + c.args.n - c.args.x) (c.loop-j.j * c.args.n + c.args.n - c.loop-j.j * c.args.n) c.args.block.now c.copy_from_slice.new.self c.row_mut-row.result.now
          (omega (arith, c.requires.rows, c.loop-j-test.true, c.loop-j.invariant.shape.1)) (omega (arith, c.requires.columns, c.loop-j.invariant.shape.0)) c.loop-j.invariant.shape.0 k k' (omega (arith, end, c.requires.size))
          c.row_mut-row.ensures.value c.copy_from_slice.ensures.after c.loop-j.invariant.done;
    }
