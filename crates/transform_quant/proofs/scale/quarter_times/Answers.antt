use Rattle.std.proofs.Common.{◌≡◌, ◌≤◌, ◌^◌, ◌-◌, ℕ, ℤ, pos, ◌*ℤ◌, arith, lit≤, lit<}
use Rattle.std.proofs.Math.Nat.{pow-le-pow_right}
use Rattle.spec_basics.specs.Bounds.{Within}
use Rattle.spec_residual.proofs.Bounds.{within_more, times_within}
use Rattle.transform_quant.proofs.scale.quarter_times.Goals as goal

product : (x y : ℤ) (f s k : ℕ) → Within 131056 x → f ≤ 58 → k ≤ 8 → y ≡ x *ℤ pos f → s ≡ 2 ^ (k - 2) → Within 1945919488 (y *ℤ pos s)
product x y f s k small few short is power =
    let p : 2 ^ (k - 2) ≤ 2 ^ 6 = pow-le-pow_right {n = 2} (lit< tt) {i = k - 2} {j = 6} (omega arith) in
    let h : s ≤ 256 = omega arith in
    let w : Within 7601248 y = rw is (times_within 131056 58 f x small few) in
    times_within 7601248 256 s y w h

pub scaled-requires-clause-fits : goal.scaled-requires-clause-fits
scaled-requires-clause-fits c =
    within_more 1945919488 2147483647 _ (lit≤ tt) (product c.args.x c.scaled-product.result c.args.factor c.power_of_two.result c.args.period c.requires.in_x c.requires.in_factor c.requires.in_period c.scaled-product.ensures c.power_of_two.ensures.value)

pub returns-in_default-clause-size : goal.returns-in_default-clause-size
returns-in_default-clause-size c =
    rw c.scaled.ensures (product c.args.x c.scaled-product.result c.args.factor c.power_of_two.result c.args.period c.requires.in_x c.requires.in_factor c.requires.in_period c.scaled-product.ensures c.power_of_two.ensures.value)
