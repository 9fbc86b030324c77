use Rattle.std.proofs.Common.{arith, ◌≡◌, ◌+◌, ◌-◌, ◌*◌, ◌/◌, ◌%◌, ℕ, refl}
use Rattle.residual_coder.proofs.PartLaws.{list_next, rows_none}
use Rattle.residual_coder.proofs.parts.part8.Goals as goal

pub loop-j-init : goal.loop-j-init
loop-j-init c = record { long = refl; done = rows_none 16 (8 * (c.args.k % 2)) (8 * (c.args.k / 2)) 8 c.args.prediction.now }

pub loop-j-preserved : goal.loop-j-preserved
loop-j-preserved c =
    let x : ℕ = 8 * (c.args.k % 2) in
    let y : ℕ = 8 * (c.args.k / 2) in
    let from : ℕ = (y + c.loop-j.j) * 16 + x in
    let to : from + 8 - from ≡ 8 = omega arith in
    let k : c.loop-j.j * 8 + 8 - c.loop-j.j * 8 ≡ 8 = omega arith in
    let next = list_next 16 x y 8 c.loop-j.j from (from + 8 - from) (c.loop-j.j * 8 + 8 - c.loop-j.j * 8) c.args.prediction.now c.loop-j.block c.copy_from_slice.new.self
    c.loop-j-test.true c.loop-j.invariant.long refl (omega (arith, c.loop-j-test.true, c.requires)) to k c.copy_from_slice.ensures.after c.loop-j.invariant.done in
    record { long = next.0; done = next.1 }
