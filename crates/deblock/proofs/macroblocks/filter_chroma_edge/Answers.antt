use Rattle.std.proofs.Common.{◌+◌, ◌*◌, ◌∙◌, ap, true, slice_index, arith}
use Rattle.spec_filter.specs.declared.EdgeRule.{EdgeRule}
use Rattle.spec_filter.specs.Strengths.{rule_at}
use Rattle.spec_filter.specs.Edges.{part_filtered, edge_filtered}
use Rattle.deblock.proofs.Folds.{steps_none, steps_more, steps_all}
use Rattle.deblock.proofs.macroblocks.filter_chroma_edge.Goals as goal

pub loop-g-init : goal.loop-g-init
loop-g-init c = steps_none _ c.args.samples.now

pub loop-g-preserved : goal.loop-g-preserved
loop-g-preserved c =
    steps_more (λ g. part_filtered (rule_at true c.args.index (slice_index c.args.strengths.now (8 * c.args.k + g))) 2 (c.args.start + 2 * g * c.args.across) c.args.step c.args.across)
    c.loop-g.g c.args.samples.now c.loop-g.samples c.filter_part.new.samples c.loop-g.invariant
    (c.filter_part.ensures ∙ ap (λ (r : EdgeRule). part_filtered r 2 (c.args.start + 2 * c.loop-g.g * c.args.across) c.args.step c.args.across c.loop-g.samples) c.rule.ensures)

pub returns : goal.returns
unfolding edge_filtered
returns c =
    steps_all (λ g. part_filtered (rule_at true c.args.index (slice_index c.args.strengths.now (8 * c.args.k + g))) 2 (c.args.start + 2 * g * c.args.across) c.args.step c.args.across)
    c.loop-g.g 4 c.args.samples.now c.loop-g.samples c.loop-g.invariant (omega arith)
