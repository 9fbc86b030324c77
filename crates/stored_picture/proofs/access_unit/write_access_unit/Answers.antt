use Rattle.std.proofs.Common.{◌∙◌, ap}
use Rattle.spec_bits.specs.Bits.{bits_of_bytes}
use Rattle.spec_stream.specs.Stored.{stored_picture}
use Rattle.picture_planes.specs.Pictures.{planes_of}
use Rattle.bit_strings.specs.BitText.{BitText}
use Rattle.stored_picture.proofs.Payloads.{picture_text}
use Rattle.stored_picture.proofs.access_unit.write_access_unit.Goals as goal

pub returns-clause-text : goal.returns-clause-text
returns-clause-text c =
    picture_text c.args.head.now c.args.number (planes_of c.args.picture.now) c.clear.new.self c.append_sequence.new.units c.append_picture_set.new.units c.append_slice.new.units
    (ap (λ (b : BitText). b.text) c.clear.ensures) c.append_sequence.ensures.text c.append_picture_set.ensures.text c.append_slice.ensures.text
    ∙ ap (λ (t : BitText). let r : BitText = record t { text = bits_of_bytes (stored_picture c.args.head.now c.args.number (planes_of c.args.picture.now)) } in r) c.clear.ensures
