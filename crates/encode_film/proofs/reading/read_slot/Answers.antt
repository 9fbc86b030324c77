use Rattle.encode_film.proofs.Filling.{slot_sizes, slots_with, sizes_still}
use Rattle.std.proofs.Common.{refl}
use Rattle.enc_session.specs.Sessions.{slots_of}
use Rattle.encode_film.proofs.reading.read_slot.Goals as goal

pub returns-clause-read : goal.returns-clause-read
returns-clause-read g c =
    let head = c.args.head.now in
    let before = slots_of c.args.session.now in
    let sizes = slot_sizes head before c.args.slot c.slot-picture.result.now c.requires.slots c.slot-picture.ensures.value in
    record {
      picture = c.read_picture-read.new.picture;
      change = refl;
      fits = slots_with head before c.args.slot c.read_picture-read.new.picture c.requires.slots (sizes_still head.width head.height c.slot-picture.result.now c.read_picture-read.new.picture c.read_picture-read.ensures.shapes sizes);
      is = c.lemma_is_picture.ensures;
      read = c.read_picture-read.ensures.read;
    }
