use Rattle.std.proofs.Common.{refl, sym, ◌∙◌}
use Rattle.tool_records.proofs.Spread.{spread}
use Rattle.tool_records.proofs.inter.differences_spread.Goals as goal

pub returns : goal.returns
returns c = λ t. spread c.args.mb.now (sym c.count.ensures ∙ c.if-count-ne8.false) (sym c.if-not-has_motion.ensures) (c.if-not-is_spread.ensures refl) (c.if-not-is_spread-2.ensures refl)
