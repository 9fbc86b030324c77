use Rattle.std.proofs.Common.{arith}
use Rattle.buffer_control.proofs.Room.{unit_small, goes_on, small_base}
use Rattle.buffer_control.specs.Seen.{rate_of, spent_of}
use Rattle.buffer_control.proofs.Ledger.spend.Goals as goal

pub overflow_add-self : goal.overflow_add-self
overflow_add-self c = let l = c.args.self.now in let few = unit_small (rate_of l) (spent_of l) c.args.bits c.args.filler l.settings l.keeps c.requires.bits c.requires.filler in record { fits = omega (arith, few, l.size) }

pub overflow_add-self-2 : goal.overflow_add-self-2
overflow_add-self-2 c = let l = c.args.self.now in let few = unit_small (rate_of l) (spent_of l) c.args.bits c.args.filler l.settings l.keeps c.requires.bits c.requires.filler in record { fits = omega (arith, few, l.size, l.small, c.requires.few) }

pub invariant_of-self : goal.invariant_of-self
invariant_of-self c =
    let l = c.args.self.now in
    let few = unit_small (rate_of l) (spent_of l) c.args.bits c.args.filler l.settings l.keeps c.requires.bits c.requires.filler in
    record {
      settings = l.settings;
      comes = l.comes;
      keeps = goes_on (rate_of l) (spent_of l) c.args.bits c.args.filler c.base_after-self.result l.settings l.keeps c.requires.bits c.requires.filler c.base_after-self.ensures.value;
      few = omega (arith, c.requires.few);
      size = l.size;
      small = omega (arith, few, l.size, l.small);
      base = small_base (rate_of l) l.qp c.args.bits _ c.base_after-self.ensures.value l.base;
    }
