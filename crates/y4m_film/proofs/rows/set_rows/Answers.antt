use Rattle.std.proofs.Common.{arith, ℕ, ap, take, drop, ◌-◌, ◌≡◌, ◌+◌, ◌*◌}
use Rattle.y4m_film.proofs.Widening.{made_none, made_more}
use Rattle.y4m_film.proofs.rows.set_rows.Goals as goal

pub loop-k-init : goal.loop-k-init
loop-k-init c = made_none c.args.first c.args.width c.args.samples.now c.args.plane.now

pub loop-k-preserved : goal.loop-k-preserved
loop-k-preserved c =
    let k : c.loop-k.k * c.args.width + c.args.width - c.loop-k.k * c.args.width ≡ c.args.width = omega arith in
    made_more c.args.first c.loop-k.k c.args.width c.args.samples.now (take (c.loop-k.k * c.args.width + c.args.width - c.loop-k.k * c.args.width) (drop (c.loop-k.k * c.args.width) c.args.samples.now))
    c.args.plane.now c.loop-k.plane c.set_row.new.plane c.loop-k.invariant (omega arith) c.requires.width.1 (ap (λ (m : ℕ). take m (drop (c.loop-k.k * c.args.width) c.args.samples.now)) k) c.set_row.ensures.shape c.set_row.ensures.samples
