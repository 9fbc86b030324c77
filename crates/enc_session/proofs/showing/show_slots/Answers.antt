use Rattle.std.proofs.Common.{◌<◌, length, map, sym, arith}
use Rattle.picture_planes.specs.Pictures.{planes_of}
use Rattle.enc_session.proofs.Growing.{length-planes, slot_at, no_planes}
use Rattle.enc_session.proofs.Shown.{cut_shown, one_shown}
use Rattle.enc_session.proofs.showing.show_slots.Goals as goal

pub returns-in-Err : goal.returns-in-Err
returns-in-Err g c =
    let few = c.requires.count in
    let long = length-planes c.args.slots.now in
    let inside : c.loop-k.k < length c.args.slots.now = omega (arith, c.loop-k-test.true, few) in
    cut_shown c.args.head.now (map planes_of c.args.slots.now) c.loop-k.k c.args.count no_planes (planes_of c.index-slots-k.result)
    (g.S.Studio.seen c.args.studio.now) (g.S.Studio.seen c.loop-k.studio) (g.S.Studio.seen c.put_picture.new.studio)
    c.loop-k-test.true (omega (arith, few, long)) (sym (slot_at c.args.slots.now c.loop-k.k c.index-slots-k.result c.index-slots-k.is inside)) c.loop-k.invariant c.in-Err.ensures.err

pub loop-k-preserved : goal.loop-k-preserved
loop-k-preserved g c =
    let few = c.requires.count in
    let long = length-planes c.args.slots.now in
    let inside : c.loop-k.k < length c.args.slots.now = omega (arith, c.loop-k-test.true, few) in
    one_shown c.args.head.now (map planes_of c.args.slots.now) c.loop-k.k no_planes (planes_of c.index-slots-k.result)
    (g.S.Studio.seen c.args.studio.now) (g.S.Studio.seen c.loop-k.studio) (g.S.Studio.seen c.put_picture.new.studio)
    (omega (arith, inside, long)) (sym (slot_at c.args.slots.now c.loop-k.k c.index-slots-k.result c.index-slots-k.is inside)) c.loop-k.invariant c.in-Ok.ensures.ok
