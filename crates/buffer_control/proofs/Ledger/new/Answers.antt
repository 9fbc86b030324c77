use Rattle.spec_buffer.proofs.Holds.{at_start}
use Rattle.buffer_control.specs.Kept.{rate_by}
use Rattle.buffer_control.proofs.Ledger.new.Goals as goal

pub invariant_of-result-clause-keeps : goal.invariant_of-result-clause-keeps
invariant_of-result-clause-keeps c = at_start (rate_by c.args.rate c.args.cpb c.args.delay c.args.num c.args.den) c.args.qp c.requires.settings
