use Rattle.std.proofs.Common.{◌≡◌, ◌+◌, ◌-◌, ◌∙◌, sym, arith, pos}
use Rattle.residual_writer.proofs.Flags.{none_end, none_less}
use Rattle.residual_writer.proofs.significance.last_level.Goals as goal

pub loop-i-init : goal.loop-i-init
loop-i-init c = record { empty = none_end c.args.levels.now _ (omega arith); within = omega arith }

pub loop-i-preserved : goal.loop-i-preserved
loop-i-preserved c = record {
  empty = none_less c.args.levels.now c.loop-i.i (pos 0) c.loop-i-test.true c.loop-i.invariant.within (sym c.is_level.ensures ∙ c.if-is_level.false) c.loop-i.invariant.empty;
  within = omega arith;
}

pub returns-then-is_level : goal.returns-then-is_level
returns-then-is_level c =
    let e : c.loop-i.i - 1 + 1 ≡ c.loop-i.i = omega arith in
    record { within = omega arith; some = sym c.is_level.ensures ∙ c.if-is_level.true; others = rw e c.loop-i.invariant.empty }

pub returns : goal.returns
returns c = let e : c.loop-i.i ≡ 0 = omega arith in rw e at c.loop-i.invariant.empty
