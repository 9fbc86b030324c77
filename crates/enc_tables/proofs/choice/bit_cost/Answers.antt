use Rattle.std.proofs.Common.{◌≤◌, ◌/◌, ◌^◌, arith, pow_mono}
use Rattle.std.proofs.lemmas.Nat.{one_shl}
use Rattle.enc_tables.proofs.choice.bit_cost.Goals as goal

pub returns-clause-small : goal.returns-clause-small
returns-clause-small c =
    let n = c.saturating_sub.result / 6 in
    let few : n ≤ 6 = omega arith in
    let most : 2 ^ n ≤ 2 ^ 6 = pow_mono few in
    rw (one_shl n 32 (omega arith)) most
