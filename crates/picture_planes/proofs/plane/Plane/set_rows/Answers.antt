use Rattle.std.proofs.Common.{arith, ℕ, ap, take, drop, ◌-◌, ◌∙◌, ◌≡◌, ◌≤◌, ◌+◌, ◌*◌}
use Rattle.picture_planes.proofs.SampleLaws.{before_end}
use Rattle.picture_planes.proofs.Setting.{set_more}
use Rattle.picture_planes.proofs.plane.Plane.set_rows.Goals as goal

pub slice_bounds-copy_from_slice-end : goal.slice_bounds-copy_from_slice-end
slice_bounds-copy_from_slice-end c =
    let end : c.loop-k.k * c.args.self.now.width + c.args.self.now.width ≤ c.args.rows * c.args.self.now.width = before_end c.loop-k.k c.args.rows c.args.self.now.width c.loop-k-test.true in
    omega (arith, end, c.requires.samples)

pub loop-k-preserved : goal.loop-k-preserved
loop-k-preserved c =
    let end : c.loop-k.k * c.args.self.now.width + c.args.self.now.width ≤ c.args.rows * c.args.self.now.width = before_end c.loop-k.k c.args.rows c.args.self.now.width c.loop-k-test.true in
    let k : c.loop-k.k * c.args.self.now.width + c.args.self.now.width - c.loop-k.k * c.args.self.now.width ≡ c.args.self.now.width = omega arith in
    set_more c.args.first c.loop-k.k c.args.samples.now c.args.self.now c.loop-k.self c.copy_from_slice.new.self c.loop-k.invariant (omega arith) (omega (arith, end, c.requires.samples))
    (c.copy_from_slice.ensures.after ∙ ap (λ (m : ℕ). take m (drop (c.loop-k.k * c.args.self.now.width) c.args.samples.now)) k)
