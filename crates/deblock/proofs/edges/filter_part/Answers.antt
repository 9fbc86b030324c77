use Rattle.std.proofs.Common.{sym}
use Rattle.spec_filter.proofs.Kept.{part_left}
use Rattle.deblock.proofs.edges.filter_part.Goals as goal

pub returns-then-rule-eq0 : goal.returns-then-rule-eq0
returns-then-rule-eq0 c = sym (part_left c.args.rule c.args.lines c.args.start c.args.step c.args.across c.args.samples.now c.if-rule-eq0.true)
