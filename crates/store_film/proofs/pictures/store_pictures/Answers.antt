use Rattle.std.proofs.Common.{◌≡◌, ◌≤◌, ◌-◌, ◌*◌, ◌∙◌, ap, sym, subst, length, drop, Ok, arith}
use Rattle.enc_edge.specs.declared.studio.Out.TheVariants.{Stream}
use Rattle.enc_edge.specs.declared.studio.Place.TheVariants.{Output}
use Rattle.enc_edge.specs.Calls.{wrote}
use Rattle.spec_film.specs.Films.{Next, most_pictures, frame_step}
use Rattle.spec_stream.specs.Stored.{stored_picture}
use Rattle.spec_stream.proofs.Ends.{stored_picture-are_bytes}
use Rattle.picture_planes.specs.Pictures.{planes_of}
use Rattle.bit_strings.specs.BitText.{BitText}
use Rattle.stored_picture.specs.Rooms.{payload_most, units_most}
use Rattle.y4m_film.proofs.Remaining.{of_both}
use Rattle.store_film.proofs.Storing.{going_none, going_more, going_end, going_fault, going_unwritten, going_last, fits_still, units_are, bytes_whole}
use Rattle.store_film.proofs.pictures.store_pictures.Goals as goal

pub loop-number-init : goal.loop-number-init
loop-number-init g c = record { going = going_none c.args.head.now (g.S.Studio.seen c.args.studio.now); sizes = c.requires.picture; payload = c.requires.payload; units = c.requires.units }

pub bytes-requires : goal.bytes-requires
bytes-requires g c =
    bytes_whole c.loop-number.units c.write_access_unit.new.units (stored_picture c.args.head.now c.loop-number.number (planes_of c.next_picture.new.picture)) c.write_access_unit.ensures.text

pub loop-number-preserved : goal.loop-number-preserved
loop-number-preserved g c =
    let seen = g.S.Studio.seen in
    let number = c.loop-number.number in
    let planes = planes_of c.next_picture.new.picture in
    let unit = stored_picture c.args.head.now number planes in
    let t = c.in-Ok-true.ensures.picture (ap (λ b. Ok b) c.in-Ok-true.field-0-test) in
    let next = of_both (λ left. t.0 ≤ length left) (λ left. frame_step (most_pictures - number) c.args.head.now left ≡ Next planes (drop t.0 left)) (seen c.loop-number.studio).input.bytes t.1.content in
    let is = units_are unit c.bytes.result.now c.write_access_unit.new.units.text (ap (λ (b : BitText). b.text) c.write_access_unit.ensures.text) (stored_picture-are_bytes c.args.head.now number planes) c.bytes.ensures.bytes in
    record {
      going = going_more c.args.head.now number t.0 planes (seen c.args.studio.now) (seen c.loop-number.studio) (seen c.next_picture.new.studio) (seen c.write_full.new.studio)
          c.loop-number-test.true c.loop-number.invariant.going t.1.change next
          (c.in-Ok.ensures.ok ∙ ap (λ bytes. wrote (Output Stream) bytes (seen c.next_picture.new.studio)) is) c.write_access_unit.ensures.picture;
      sizes = fits_still c.args.head.now c.loop-number.picture c.next_picture.new.picture c.next_picture.ensures.shapes c.loop-number.invariant.sizes;
      payload = subst (λ n. 8 * payload_most c.args.head.now ≤ n) (sym c.write_access_unit.ensures.payload) c.loop-number.invariant.payload;
      units = subst (λ n. 8 * units_most c.args.head.now ≤ n) (sym (ap (λ (b : BitText). b.room) c.write_access_unit.ensures.text)) c.loop-number.invariant.units;
    }

pub returns : goal.returns
returns g c =
    let seen = g.S.Studio.seen in
    let past = c.loop-number-test.false in
    let most = c.loop-number.auto.number-end in
    going_last c.args.head.now c.loop-number.number (seen c.args.studio.now) (seen c.loop-number.studio) (seen c.end_pictures.new.studio) (omega arith) c.loop-number.invariant.going c.end_pictures.result c.end_pictures.ensures

pub returns-in-Ok-false : goal.returns-in-Ok-false
returns-in-Ok-false g c =
    let seen = g.S.Studio.seen in
    going_end c.args.head.now c.loop-number.number (seen c.args.studio.now) (seen c.loop-number.studio) (seen c.next_picture.new.studio) c.loop-number.invariant.going
    (c.in-Ok-false.ensures.end (ap (λ b. Ok b) c.in-Ok-false.field-0-test))

pub returns-in-Err : goal.returns-in-Err
returns-in-Err g c =
    let seen = g.S.Studio.seen in
    going_fault c.args.head.now c.loop-number.number (seen c.args.studio.now) (seen c.loop-number.studio) (seen c.next_picture.new.studio) c.frame_end.result c.loop-number.invariant.going
    c.in-Err.fault c.frame_end.ensures c.in-Err.ensures.fault

pub returns-in-Err-write_full : goal.returns-in-Err-write_full
returns-in-Err-write_full g c =
    let seen = g.S.Studio.seen in
    let number = c.loop-number.number in
    let planes = planes_of c.next_picture.new.picture in
    let unit = stored_picture c.args.head.now number planes in
    let t = c.in-Ok-true.ensures.picture (ap (λ b. Ok b) c.in-Ok-true.field-0-test) in
    let next = of_both (λ left. t.0 ≤ length left) (λ left. frame_step (most_pictures - number) c.args.head.now left ≡ Next planes (drop t.0 left)) (seen c.loop-number.studio).input.bytes t.1.content in
    let is = units_are unit c.bytes.result.now c.write_access_unit.new.units.text (ap (λ (b : BitText). b.text) c.write_access_unit.ensures.text) (stored_picture-are_bytes c.args.head.now number planes) c.bytes.ensures.bytes in
    let short = c.in-Err-write_full.ensures.count in
    going_unwritten c.args.head.now number t.0 c.in-Err-write_full.field-0.0 planes c.bytes.result.now (seen c.args.studio.now) (seen c.loop-number.studio) (seen c.next_picture.new.studio) (seen c.write_full.new.studio)
    c.loop-number-test.true c.loop-number.invariant.going t.1.change next is (omega arith) c.in-Err-write_full.ensures.err c.write_access_unit.ensures.picture
