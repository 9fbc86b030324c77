use Rattle.std.proofs.Common.{◌≤◌, ◌^◌, arith, lit<}
use Rattle.std.proofs.Math.Nat.{pow-le-pow_right}
use Rattle.std.proofs.lemmas.Nat.{one_shl}
use Rattle.transform_quant.proofs.quant.power_of_two.Goals as goal

pub returns-clause-value : goal.returns-clause-value
returns-clause-value c = one_shl c.args.n 32 (omega arith)

pub returns-clause-small : goal.returns-clause-small
returns-clause-small c =
    let e = one_shl c.args.n 32 (omega arith) in
    let h : 2 ^ c.args.n ≤ 2 ^ 24 = pow-le-pow_right {n = 2} (lit< tt) {i = c.args.n} {j = 24} c.requires in
    omega arith
