use Rattle.std.proofs.Common.{◌≡◌, ◌+◌, ◌*◌, ◌/◌, ◌≤◌, ap, length, List, ℕ, arith}
use Rattle.spec_bits.specs.Bits.{bytes_of_bits}
use Rattle.spec_bits.proofs.Digits.{length-bytes_of_bits}
use Rattle.spec_stream.specs.Stored.{mbs_across, mbs_down}
use Rattle.picture_planes.specs.Pictures.{planes_of}
use Rattle.bit_strings.specs.BitText.{BitText}
use Rattle.stored_picture.proofs.Payloads.{slice_ends}
use Rattle.stored_picture.proofs.PictureBytes.{picture_of}
use Rattle.stored_picture.proofs.access_unit.append_slice.Goals as goal

pub append_unit-requires-clause-ends : goal.append_unit-requires-clause-ends
append_unit-requires-clause-ends c =
    slice_ends (mbs_across c.args.head.now) (mbs_down c.args.head.now) c.args.number (planes_of c.args.picture.now) c.bytes.result.now c.write_pcm_slice.new.out.text c.write_pcm_slice.ensures.whole
    (ap (λ (b : BitText). b.text) c.write_pcm_slice.ensures.text) c.bytes.ensures.bytes

pub append_unit-requires-clause-room : goal.append_unit-requires-clause-room
append_unit-requires-clause-room c =
    let r = c.requires.room in
    let n = ap (λ (xs : List ℕ). length xs) c.bytes.ensures.bytes in
    let m = length-bytes_of_bits c.write_pcm_slice.new.out.text c.write_pcm_slice.ensures.whole in
    let l = c.write_pcm_slice.ensures.length in
    room (mbs_across c.args.head.now * mbs_down c.args.head.now) (length c.bytes.result.now) (length (bytes_of_bits c.write_pcm_slice.new.out.text)) (length c.write_pcm_slice.new.out.text) (length c.args.units.now.text) c.args.units.now.room n m l r
  where
    room : (count bytes whole bits before most : ℕ) → bytes ≡ whole → 8 * whole ≡ bits → bits ≤ 4096 + 3088 * count
        → before + 8 * (5 + (512 + 387 * count) + (512 + 387 * count) / 2) ≤ most → before + 8 * (5 + bytes + bytes / 2) ≤ most
    room count bytes whole bits before most a b c d = omega arith

pub returns-clause-picture : goal.returns-clause-picture
returns-clause-picture c =
    picture_of c.args.head.now c.args.picture.now c.requires.head c.requires.width c.requires.height c.write_pcm_slice.ensures.bytes
