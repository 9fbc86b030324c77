use Rattle.std.proofs.Common.{arith, ◌-◌, ◌∙◌, ℕ, List, ap, length, drop}
use Rattle.picture_planes.specs.Samples.{row_of}
use Rattle.picture_planes.proofs.SampleLaws.{row_length}
use Rattle.y4m_film.proofs.Widening.{repeated_none, repeated_more, front_part}
use Rattle.y4m_film.proofs.rows.repeat_last.Goals as goal

pub loop-y-init : goal.loop-y-init
loop-y-init c = repeated_none c.args.height (row_of c.args.plane.now (c.args.height - 1)) c.args.plane.now

pub loop-y-preserved : goal.loop-y-preserved
loop-y-preserved c =
    repeated_more c.args.height c.loop-y.y (row_of c.args.plane.now (c.args.height - 1)) _ c.args.plane.now c.loop-y.plane c.set_rows.new.self c.loop-y.invariant (omega (arith, c.loop-y-test.true, c.loop-y.invariant.shape.1)) (row_length c.args.plane.now (c.args.height - 1) (omega arith))
    (front_part c.copy_from_slice.new.self (drop c.args.plane.now.width c.args.row.now) c.args.plane.now.width (ap (λ (l : List ℕ). length l) c.copy_from_slice.ensures.after ∙ c.row.ensures.len) ∙ c.copy_from_slice.ensures.after ∙ c.row.ensures.value)
    c.set_rows.ensures.shape c.set_rows.ensures.samples
