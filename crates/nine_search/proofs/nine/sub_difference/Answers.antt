use Rattle.std.proofs.Common.{◌∙◌, arith, refl}
use Rattle.spec_inter_plans.specs.InterPlans.{at as block_at}
use Rattle.motion_search.proofs.Costs.{cost_is}
use Rattle.nine_search.proofs.nine.sub_difference.Goals as goal

pub difference8-requires-clause-room_own : goal.difference8-requires-clause-room_own
difference8-requires-clause-room_own c =
    let x = c.requires.planes.inside.across in
    let y = c.requires.planes.inside.down in
    c.rows_from-own.ensures.len 8 8 (omega arith) (omega arith) (omega arith)

pub difference8-requires-clause-room_moved : goal.difference8-requires-clause-room_moved
difference8-requires-clause-room_moved c =
    let x = c.requires.planes.inside.across in
    let y = c.requires.planes.inside.down in
    let sw = c.requires.planes.sizes.width in
    let sh = c.requires.planes.sizes.height in
    let m = c.requires.planes.margin in
    c.rows_from-moved.ensures.len 8 8 (omega arith) (omega arith) (omega arith)

pub returns-clause-value : goal.returns-clause-value
returns-clause-value c =
    c.difference8.ensures.value
    ∙ cost_is c.args.source.now c.args.reference.now (block_at c.args.x c.args.y 8 8) c.args.spot 8 c.rows_from-own.result.now c.rows_from-moved.result.now c.requires.planes c.requires.near refl c.rows_from-own.ensures.value c.rows_from-moved.ensures.value
