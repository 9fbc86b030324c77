use Rattle.std.proofs.Common.{◌≤◌, arith}
use Rattle.tool_time.proofs.nine.search_all.Goals as goal

pub refine_nine-requires-clause-best : goal.refine_nine-requires-clause-best
refine_nine-requires-clause-best c k p =
    let i = (c.search_nine_alone-nine.ensures.best k p).inside in
    let a = i.across in
    let d = i.down in
    let r = c.requires.range.1 in
    record { across = omega arith; down = omega arith }
