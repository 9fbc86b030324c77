use Rattle.std.proofs.Common.{arith, refl}
use Rattle.spec_search.specs.Scan.{dx_of, dy_of}
use Rattle.spec_search.proofs.WindowLaws.{bound_under}
use Rattle.picture_planes.specs.Samples.{at}
use Rattle.picture_planes.specs.Margins.{nearest}
use Rattle.motion_search.specs.Planes.{costs, bounds}
use Rattle.motion_search.proofs.Going.{passed, moved_on, kept}
use Rattle.motion_search.proofs.window.tried.Goals as goal

pub returns-then-best-bound-clause-known : goal.returns-then-best-bound-clause-known
returns-then-best-bound-clause-known g c =
    passed (costs c.args.source.now c.args.reference.now c.args.block) (bounds c.args.source.now c.args.reference.now c.args.block) c.args.place c.bound.result c.args.spot c.args.best
    c.requires.later c.requires.stands c.requires.known (c.bound.ensures c.args.source.now c.args.reference.now c.requires.own c.requires.table)
    (bound_under (at c.args.source.now) (nearest c.args.reference.now) c.args.block (dx_of c.args.spot) (dy_of c.args.spot) c.requires.planes.inside.wide c.requires.planes.inside.high)
    c.if-best-bound.true

pub returns-then-sad-best-clause-known : goal.returns-then-sad-best-clause-known
returns-then-sad-best-clause-known g c =
    moved_on (costs c.args.source.now c.args.reference.now c.args.block) (bounds c.args.source.now c.args.reference.now c.args.block) c.args.place c.bound.result c.args.spot c.args.best _
    c.requires.later c.requires.stands c.requires.known (c.bound.ensures c.args.source.now c.args.reference.now c.requires.own c.requires.table)
    (omega arith) c.difference-sad.ensures.value (omega arith) refl refl

pub returns-else-sad-best-clause-known : goal.returns-else-sad-best-clause-known
returns-else-sad-best-clause-known g c =
    kept (costs c.args.source.now c.args.reference.now c.args.block) (bounds c.args.source.now c.args.reference.now c.args.block) c.args.place c.bound.result c.difference-sad.result c.args.spot c.args.best _
    c.requires.later c.requires.stands c.requires.known (c.bound.ensures c.args.source.now c.args.reference.now c.requires.own c.requires.table)
    (omega arith) c.difference-sad.ensures.value (omega arith) refl refl refl
