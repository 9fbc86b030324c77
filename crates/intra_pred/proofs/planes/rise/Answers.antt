use Rattle.std.proofs.Common.{◌+◌, pos, ◌-ℤ◌, ◌≤ℤ◌, arith}
use Rattle.std.proofs.lemmas.Int.{ints}
use Rattle.intra_pred.proofs.Products.{product_high, product_low}
use Rattle.intra_pred.proofs.planes.rise.Goals as goal

pub returns-clause-high : goal.returns-clause-high
returns-clause-high c =
    let d = pos (c.args.x + 1) -ℤ pos c.args.h in
    let low : (pos 0 -ℤ pos 8) ≤ℤ d = omega (arith, ints) in
    let high : d ≤ℤ pos 8 = omega (arith, ints) in
    product_high c.args.slope d c.requires.low c.requires.high low high

pub returns-clause-low : goal.returns-clause-low
returns-clause-low c =
    let d = pos (c.args.x + 1) -ℤ pos c.args.h in
    let low : (pos 0 -ℤ pos 8) ≤ℤ d = omega (arith, ints) in
    let high : d ≤ℤ pos 8 = omega (arith, ints) in
    product_low c.args.slope d c.requires.low c.requires.high low high
