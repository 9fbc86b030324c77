use Rattle.std.proofs.Common.{arith}
use Rattle.enc_tables.proofs.RangeTables.{after_lps_fits, after_lps-is}
use Rattle.enc_tables.proofs.arithmetic.state_after_lps.Goals as goal

pub returns : goal.returns
returns c = record { value = after_lps-is c.args.state; known = omega (arith, after_lps-is c.args.state, after_lps_fits c.args.state) }
