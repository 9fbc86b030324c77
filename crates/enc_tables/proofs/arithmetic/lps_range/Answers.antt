use Rattle.std.proofs.Common.{arith}
use Rattle.enc_tables.specs.Arithmetic.{lps_range}
use Rattle.enc_tables.proofs.RangeTables.{Fits, lps_range_fits, looked_up}
use Rattle.enc_tables.proofs.arithmetic.lps_range.Goals as goal

pub returns : goal.returns
returns c =
    let v = looked_up c.args.state c.args.range (omega arith) in
    let f : Fits (lps_range c.args.state c.args.range) = lps_range_fits c.args.state c.args.range in
    record { value = v; least = omega arith; most = omega arith }
