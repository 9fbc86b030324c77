use Rattle.std.proofs.Math.Nat.{mul-le-mul_right}
use Rattle.picture_coder.proofs.rows.macroblocks_of.Goals as goal

pub returns-clause-order : goal.returns-clause-order
returns-clause-order c = mul-le-mul_right {m = c.args.rows.0} {n = c.args.rows.1} c.args.across c.requires.order

pub returns-clause-within : goal.returns-clause-within
returns-clause-within c down h = mul-le-mul_right {m = c.args.rows.1} {n = down} c.args.across h
