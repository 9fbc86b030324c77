use Rattle.std.proofs.Common.{◌%◌, ◌≡◌, Bool, List, length, Ok, Err, ap, sym, subst, ◌∙◌}
use Rattle.picture_planes.specs.Pictures.{planes_of}
use Rattle.picture_coder.specs.Coders.{lent_reference}
use Rattle.enc_session.specs.declared.engine.Engine.{Engine}
use Rattle.enc_session.specs.Ready.{settings_in, state_in, units_in}
use Rattle.enc_session.specs.Stepping.{unit_of, picture_in}
use Rattle.enc_session.proofs.Begun.{may_follow, whole_bits}
use Rattle.enc_session.proofs.Stepped.{bits_fit, filler_fits, made_reference, is_next, own_counts, state_is, written_is, in_slot, holds_next, slot_next, store_next, same_size, size_next}
use Rattle.enc_session.proofs.engine.Engine.code_picture.Goals as goal

pub bytes-requires : goal.bytes-requires
bytes-requires g c =
    let e : Engine = c.args.self.now in
    let f : Engine = c.make_unit.new.self in
    let made = c.in-Ok.ensures.left.1 in
    subst (λ (bs : List Bool). length bs % 8 ≡ 0) (sym made.text) (whole_bits (unit_of (settings_in e) c.args.step c.in-Ok.ensures.left.0))

pub returns-in-Err-write_picture-clause-left : goal.returns-in-Err-write_picture-clause-left
returns-in-Err-write_picture-clause-left g c =
    let e : Engine = c.args.self.now in
    let f : Engine = c.make_unit.new.self in
    let made = c.in-Ok.ensures.left.1 in (
      c.in-Ok.ensures.left.0,
      record {
        chosen = made.chosen;
        cut = written_is (settings_in e) (state_in e) c.args.step (planes_of c.args.slot.now) c.in-Ok.made f.unit (lent_reference f.coder) c.in-Ok.ensures.left.0 c.units.result c.line_of-line.result c.bytes.result.now (g.S.Studio.seen c.args.studio.now) (g.S.Studio.seen c.write_picture.new.studio) (Err c.in-Err-write_picture.out)
            (c.units.ensures ∙ ap (λ (x : Engine). units_in x) c.in-Ok.ensures.others) made c.line_of-line.ensures c.bytes.ensures.bytes c.in-Err-write_picture.ensures;
      },
    )

pub take_over-requires-clause-bits : goal.take_over-requires-clause-bits
take_over-requires-clause-bits g c =
    let e : Engine = c.args.self.now in
    let f : Engine = c.make_unit.new.self in
    let made = c.in-Ok.ensures.left.1 in
    bits_fit e f c.args.step (planes_of c.args.slot.now) c.in-Ok.made f.unit (lent_reference f.coder) c.in-Ok.ensures.left.0 c.in-Ok.ensures.others c.requires.holds made

pub take_over-requires-clause-filler : goal.take_over-requires-clause-filler
take_over-requires-clause-filler g c =
    let e : Engine = c.args.self.now in
    let f : Engine = c.make_unit.new.self in
    let made = c.in-Ok.ensures.left.1 in
    filler_fits e f c.args.step (planes_of c.args.slot.now) c.in-Ok.made f.unit (lent_reference f.coder) c.in-Ok.ensures.left.0 c.in-Ok.ensures.others c.requires.holds made

pub take_over-requires-clause-kept : goal.take_over-requires-clause-kept
take_over-requires-clause-kept g c =
    let e : Engine = c.args.self.now in
    let f : Engine = c.make_unit.new.self in
    let made = c.in-Ok.ensures.left.1 in
    made_reference e f c.args.step.idr c.in-Ok.ensures.others c.requires.holds c.in-Ok.ensures.store c.in-Ok.ensures.coder c.in-Ok.ensures.sizes

pub take_over-requires-clause-next : goal.take_over-requires-clause-next
take_over-requires-clause-next g c =
    let e : Engine = c.args.self.now in
    let f : Engine = c.make_unit.new.self in
    let made = c.in-Ok.ensures.left.1 in
    let own = own_counts (settings_in e) (state_in e) c.args.step c.in-Ok.ensures.left.0 in
    is_next c.args.step f.store (lent_reference f.coder) (picture_in (settings_in e) (state_in e) c.args.step c.in-Ok.ensures.left.0)
    (may_follow c.args.step e.store f.store c.in-Ok.ensures.store c.requires.step c.requires.follows) made.shown own.0 own.1

pub returns-clause-left : goal.returns-clause-left
returns-clause-left g c =
    let e : Engine = c.args.self.now in
    let f : Engine = c.make_unit.new.self in
    let made = c.in-Ok.ensures.left.1 in (
      c.in-Ok.ensures.left.0,
      record {
        chosen = made.chosen;
        state = state_is e f c.take_over.new.self c.args.step (planes_of c.args.slot.now) c.in-Ok.made f.unit c.in-Ok.ensures.left.0 c.make_unit.new.source c.take_over.new.slot c.in-Ok.ensures.others c.requires.holds c.in-Ok.ensures.store made c.take_over.ensures.taken c.take_over.ensures.kept;
        seen = written_is (settings_in e) (state_in e) c.args.step (planes_of c.args.slot.now) c.in-Ok.made f.unit (lent_reference f.coder) c.in-Ok.ensures.left.0 c.units.result c.line_of-line.result c.bytes.result.now (g.S.Studio.seen c.args.studio.now) (g.S.Studio.seen c.write_picture.new.studio) (Ok c.in-Ok-write_picture.field-0)
            (c.units.ensures ∙ ap (λ (x : Engine). units_in x) c.in-Ok.ensures.others) made c.line_of-line.ensures c.bytes.ensures.bytes c.in-Ok-write_picture.ensures;
        shown = in_slot c.args.step.kind (settings_in e) (state_in e) c.args.step c.in-Ok.ensures.left.0 f.store c.take_over.new.self.store f.coder c.take_over.new.self.coder c.make_unit.new.source c.take_over.new.slot made.shown c.take_over.ensures.kept;
      },
    )

pub returns-clause-holds : goal.returns-clause-holds
returns-clause-holds g c =
    let e : Engine = c.args.self.now in
    let f : Engine = c.make_unit.new.self in
    let made = c.in-Ok.ensures.left.1 in
    holds_next e f c.take_over.new.self c.args.step (planes_of c.args.slot.now) c.in-Ok.made f.unit c.in-Ok.ensures.left.0 c.make_unit.new.source c.take_over.new.slot c.in-Ok.ensures.others c.requires.holds c.in-Ok.ensures.store c.in-Ok.ensures.coder c.in-Ok.ensures.sizes c.in-Ok.ensures.unit
    (may_follow c.args.step e.store f.store c.in-Ok.ensures.store c.requires.step c.requires.follows) made c.in-Ok.ensures.source c.take_over.ensures.taken c.take_over.ensures.kept

pub returns-clause-slot : goal.returns-clause-slot
returns-clause-slot g c =
    let e : Engine = c.args.self.now in
    let f : Engine = c.make_unit.new.self in
    let made = c.in-Ok.ensures.left.1 in
    slot_next e f c.args.step.idr c.args.step.kind c.take_over.new.self.store c.take_over.new.self.coder c.make_unit.new.source c.take_over.new.slot c.in-Ok.ensures.others c.requires.holds c.in-Ok.ensures.store c.in-Ok.ensures.coder c.in-Ok.ensures.sizes c.in-Ok.ensures.source c.take_over.ensures.kept

pub returns-clause-store : goal.returns-clause-store
returns-clause-store g c = λ kind idr. store_next c.args.step c.args.self.now.store c.make_unit.new.self.store c.take_over.new.self.store c.make_unit.new.self.coder c.take_over.new.self.coder c.make_unit.new.source c.take_over.new.slot kind idr c.in-Ok.ensures.store c.take_over.ensures.kept

pub returns-in-Err-clause-size : goal.returns-in-Err-clause-size
returns-in-Err-clause-size g c = same_size c.args.step.idr c.args.self.now.store c.make_unit.new.self.store c.in-Err.ensures.store

pub returns-in-Err-write_picture-clause-size : goal.returns-in-Err-write_picture-clause-size
returns-in-Err-write_picture-clause-size g c = same_size c.args.step.idr c.args.self.now.store c.make_unit.new.self.store c.in-Ok.ensures.store

pub returns-clause-size : goal.returns-clause-size
returns-clause-size g c = size_next c.args.step c.args.self.now.store c.make_unit.new.self.store c.take_over.new.self.store c.make_unit.new.self.coder c.take_over.new.self.coder c.make_unit.new.source c.take_over.new.slot c.in-Ok.ensures.store c.take_over.ensures.kept
