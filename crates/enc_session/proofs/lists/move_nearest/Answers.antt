use Rattle.picture_planes.specs.Pictures.{planes_of}
use Rattle.enc_session.proofs.Listed.{there, stays, moves}
use Rattle.enc_session.proofs.lists.move_nearest.Goals as goal

pub returns-in_default : goal.returns-in_default
returns-in_default c = stays (planes_of c.args.source.now) c.args.lists.now c.moved.result c.requires.lists c.requires.number c.moved.ensures.value c.in_default.is

pub apply-requires-clause-there : goal.apply-requires-clause-there
apply-requires-clause-there c = there c.args.lists.now (planes_of c.args.source.now).luma c.in-Some.command c.moved.result c.requires.lists c.requires.number c.moved.ensures.value c.in-Some.is

pub returns : goal.returns
returns c =
    moves (planes_of c.args.source.now) c.args.lists.now (record { held = c.apply.new.self.held; list0 = c.apply.new.self.list0; list1 = c.new-lists.result }) c.in-Some.command c.moved.result
    c.requires.lists c.requires.number c.moved.ensures.value c.in-Some.is c.apply.ensures.held c.new-lists.ensures c.apply.ensures.inside c.apply.ensures.list0
