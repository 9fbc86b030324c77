use Rattle.std.proofs.Common.{arith, ◌≡◌, ◌≤◌, ◌+◌, ◌-◌, ◌*◌, ℕ, refl}
use native.Mathlib.Nat.{mul-le-mul_right}
use Rattle.residual_coder.proofs.PartLaws.{list_next, rows_none}
use Rattle.residual_coder.proofs.parts.block_of.Goals as goal

pub loop-j-init : goal.loop-j-init
loop-j-init c = record { long = refl; done = rows_none c.args.wide c.args.x c.args.y 4 c.args.samples.now }

pub loop-j-preserved : goal.loop-j-preserved
loop-j-preserved c =
    let from : ℕ = (c.args.y + c.loop-j.j) * c.args.wide + c.args.x in
    let to : from + 4 - from ≡ 4 = omega arith in
    let k : c.loop-j.j * 4 + 4 - c.loop-j.j * 4 ≡ 4 = omega arith in
    let last : (c.args.y + c.loop-j.j) * c.args.wide ≤ (c.args.y + 3) * c.args.wide = mul-le-mul_right c.args.wide (omega arith) in
    let next = list_next c.args.wide c.args.x c.args.y 4 c.loop-j.j from (from + 4 - from) (c.loop-j.j * 4 + 4 - c.loop-j.j * 4) c.args.samples.now c.loop-j.block c.copy_from_slice.new.self
    c.loop-j-test.true c.loop-j.invariant.long refl (omega (arith, last, c.requires.inside)) to k c.copy_from_slice.ensures.after c.loop-j.invariant.done in
    record { long = next.0; done = next.1 }
