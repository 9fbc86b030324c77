use Rattle.std.proofs.Common.{arith}
use Rattle.picture_planes.specs.Pictures.{planes_of}
use Rattle.y4m_film.proofs.Planes.{planes_cut, planes_whole}
use Rattle.y4m_film.proofs.pictures.read_samples.Goals as goal

pub returns-then-read-all-clause-end : goal.returns-then-read-all-clause-end
returns-then-read-all-clause-end g c =
    let seen = g.S.Studio.seen in
    planes_cut c.args.head.now c.args.number c.args.line c.in-Ok.read (planes_of c.read_planes.new.picture) _ (seen c.args.studio.now) (seen c.read_planes.new.studio) c.if-read-all.true c.in-Ok.ensures.read

pub returns-clause-end : goal.returns-clause-end
returns-clause-end g c =
    let seen = g.S.Studio.seen in
    planes_whole c.args.head.now c.args.number c.args.line c.in-Ok.read (planes_of c.read_planes.new.picture) (seen c.args.studio.now) (seen c.read_planes.new.studio) (omega (arith, c.if-read-all.false)) c.in-Ok.ensures.read
