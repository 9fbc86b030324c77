use Rattle.std.proofs.Common.{arith}
use Rattle.buffer_control.proofs.Room.{unit_small, unit_fits}
use Rattle.buffer_control.specs.Seen.{rate_of, spent_of}
use Rattle.buffer_control.proofs.Ledger.filler_bytes.Goals as goal

pub overflow_cast-result : goal.overflow_cast-result
overflow_cast-result c =
    let l = c.args.self.now in
    let few = unit_small (rate_of l) (spent_of l) c.args.bits c.filler.result l.settings l.keeps c.requires c.filler.ensures.value in
    record { fits = omega (arith, few, l.size) }

pub returns-clause-fits : goal.returns-clause-fits
returns-clause-fits c = let l = c.args.self.now in unit_fits (rate_of l) (spent_of l) c.args.bits c.filler.result l.settings l.keeps c.requires c.filler.ensures.value
