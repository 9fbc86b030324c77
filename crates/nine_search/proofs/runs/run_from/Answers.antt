use Rattle.std.proofs.Common.{arith}
use Rattle.nine_search.proofs.Following.{edge, row_follows, one_follows, sides_follow}
use Rattle.nine_search.proofs.runs.run_from.Goals as goal

pub returns-then-spot-last-clause-follows : goal.returns-then-spot-last-clause-follows
returns-then-spot-last-clause-follows c =
    let e = c.row_run.ensures.spot in
    let n = c.requires.near.column in
    row_follows c.args.place c.row_run.result c.args.spot e.0 e.2 c.requires.stands (edge c.args.spot.row c.args.spot.ring (λ p. omega arith)) (let k = e.1 in omega arith)

pub returns-then-spot-eq0-2-clause-follows : goal.returns-then-spot-eq0-2-clause-follows
returns-then-spot-eq0-2-clause-follows c =
    let e = c.side_run.ensures.spot in
    sides_follow c.args.place c.side_run.result c.args.spot e.0 e.2 c.requires.stands (omega arith) (omega arith) (let k = e.1 in omega arith)

pub returns-else-spot-eq0-2-clause-follows : goal.returns-else-spot-eq0-2-clause-follows
returns-else-spot-eq0-2-clause-follows c =
    let e = c.row_run-else-spot-eq0-2.ensures.spot in
    one_follows c.args.place c.row_run-else-spot-eq0-2.result c.args.spot e.0 e.2 c.requires.stands (let k = e.1 in omega arith)
