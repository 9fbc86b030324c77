use Rattle.spec_filter.proofs.Kept.{line_left, line_weak, line_strong}
use Rattle.std.proofs.Common.{◌∙◌, ap}
use Rattle.spec_filter.specs.Edges.{with_line}
use Rattle.spec_filter.specs.declared.SampleLine.{SampleLine}
use Rattle.deblock.proofs.edges.filter_line.Goals as goal

pub returns-then-not-is_filtered : goal.returns-then-not-is_filtered
returns-then-not-is_filtered c =
    line_left c.args.rule c.args.samples.now c.args.start c.args.step c.line_of-line.result c.line_of-line.ensures (cc)

pub returns-then-rule-lt4 : goal.returns-then-rule-lt4
returns-then-rule-lt4 c =
    c.set_line.ensures
    ∙ ap (λ (m : SampleLine). with_line c.args.samples.now c.args.start c.args.step m) c.weakly.ensures
    ∙ line_weak c.args.rule c.args.samples.now c.args.start c.args.step c.line_of-line.result c.line_of-line.ensures c.requires.strength (cc) c.if-rule-lt4.true

pub returns-else-rule-lt4 : goal.returns-else-rule-lt4
returns-else-rule-lt4 c =
    c.set_line-else-rule-lt4.ensures
    ∙ ap (λ (m : SampleLine). with_line c.args.samples.now c.args.start c.args.step m) c.strongly.ensures
    ∙ line_strong c.args.rule c.args.samples.now c.args.start c.args.step c.line_of-line.result c.line_of-line.ensures c.requires.strength (cc) c.if-rule-lt4.false
