use Rattle.std.proofs.Common.{ℕ, ◌+◌, ◌*◌, ◌≤◌, ◌≡◌, ap, ap₂, sym, arith, ◌∙◌}
use Rattle.picture_planes.proofs.SampleLaws.{samples_length, before_end}
use Rattle.picture_planes.proofs.Setting.{set_none, set_more, set_all}
use Rattle.picture_planes.specs.Samples.{samples_of}
use Rattle.picture_planes.proofs.Placing.{place_none, place_more, row_of_other}
use Rattle.picture_planes.proofs.plane.Plane.place.Goals as goal

pub loop-y-init : goal.loop-y-init
loop-y-init c = (place_none c.args.first c.args.other.now c.args.self.now, set_none c.args.first (samples_of c.args.other.now) c.args.self.now)

pub loop-y-preserved : goal.loop-y-preserved
loop-y-preserved c =
    let row = c.copy_from_slice.ensures.after ∙ c.row.ensures.value in
    let end : c.loop-y.y * c.args.other.now.width + c.args.other.now.width ≤ c.args.other.now.height * c.args.other.now.width = before_end c.loop-y.y c.args.other.now.height c.args.other.now.width c.loop-y-test.true in
    let wide : c.loop-y.y * c.args.other.now.width ≡ c.loop-y.y * c.args.self.now.width = ap (λ (w : ℕ). c.loop-y.y * w) c.requires.width in (
      place_more c.args.first c.loop-y.y c.args.other.now c.args.self.now c.loop-y.self c.copy_from_slice.new.self c.loop-y.invariant.0 (omega (arith, c.loop-y-test.true, c.requires.room)) (c.copy_from_slice.ensures.len ∙ c.row_mut.ensures.len ∙ c.loop-y.invariant.0.shape.0) row,
      set_more c.args.first c.loop-y.y (samples_of c.args.other.now) c.args.self.now c.loop-y.self c.copy_from_slice.new.self c.loop-y.invariant.1
          (omega (arith, c.loop-y-test.true, c.requires.room))
          (omega (arith, samples_length c.args.other.now, end, wide, c.requires.width))
          (row ∙ row_of_other c.args.other.now c.loop-y.y c.args.self.now.width c.loop-y-test.true c.requires.width),
    )

pub returns-clause-samples : goal.returns-clause-samples
returns-clause-samples c =
    let all : c.loop-y.y ≡ c.args.other.now.height = omega (arith, c.loop-y.auto.y-end, c.loop-y-test.false) in
    set_all c.args.first c.loop-y.y (samples_of c.args.other.now) c.args.self.now c.loop-y.self c.loop-y.invariant.1
    (samples_length c.args.other.now ∙ ap₂ (λ (n w : ℕ). n * w) (sym all) c.requires.width)
