use Rattle.std.proofs.Common.{◌≡◌, ◌≤◌, ◌*◌, ◌^◌, ℕ, ℤ, pos, ◌*ℤ◌, arith, lit≤, lit<}
use Rattle.std.proofs.Math.Nat.{pow-le-pow_right}
use Rattle.std.proofs.lemmas.Nat.{mul-le}
use Rattle.spec_basics.specs.Bounds.{Within}
use Rattle.spec_residual.proofs.Bounds.{within_more, times_within}
use Rattle.transform_quant.proofs.scale.times.Goals as goal

product : (x : ℤ) (f s k : ℕ) → Within 131056 x → f ≤ 58 → k ≤ 8 → s ≡ 2 ^ k → Within 1945919488 (x *ℤ pos (f * s))
product x f s k small few short is =
    let p : 2 ^ k ≤ 2 ^ 8 = pow-le-pow_right {n = 2} (lit< tt) {i = k} {j = 8} short in
    let h : s ≤ 256 = omega arith in
    times_within 131056 14848 (f * s) x small (mul-le f s 58 256 few h)

pub scaled-requires-clause-fits : goal.scaled-requires-clause-fits
scaled-requires-clause-fits c =
    within_more 1945919488 2147483647 _ (lit≤ tt) (product c.args.x c.args.factor c.power_of_two.result c.args.period c.requires.in_x c.requires.in_factor c.requires.in_period c.power_of_two.ensures.value)

pub returns-clause-size : goal.returns-clause-size
returns-clause-size c =
    rw c.scaled.ensures (product c.args.x c.args.factor c.power_of_two.result c.args.period c.requires.in_x c.requires.in_factor c.requires.in_period c.power_of_two.ensures.value)
