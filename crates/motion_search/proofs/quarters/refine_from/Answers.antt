use Rattle.std.proofs.Common.{arith}
use Rattle.subpel_filter.proofs.Keeping.{kept_same as samples_same}
use Rattle.motion_search.specs.Quarters.{quarter_costs, kept_costs}
use Rattle.motion_search.proofs.Quartering.{kept_same, refined_same}
use Rattle.motion_search.proofs.quarters.refine_from.Goals as goal

pub returns-clause-same : goal.returns-clause-same
returns-clause-same c = λ made.
    let s = c.args.source.now in
    let r = c.args.reference.now in
    let kept = c.args.halves.now in
    let b = c.args.block in
    let across = c.requires.block.across in
    let down = c.requires.block.down in
    let wide = c.requires.sizes.width in
    let high = c.requires.sizes.height in
    refined_same (kept_costs s r kept b) (quarter_costs s r b)
    (λ v h. kept_same s r kept b v (λ i j p q. samples_same r kept v b.x b.y b.w b.h i j c.requires.filled c.requires.halves made c.requires.margin (omega arith) (omega arith) (record { left = h.left; right = h.right; up = h.up; down = h.down }) p q))
    c.args.best.now.dx c.args.best.now.dy c.refined.result.0 c.refined.result.1 c.requires.best c.refined.ensures
