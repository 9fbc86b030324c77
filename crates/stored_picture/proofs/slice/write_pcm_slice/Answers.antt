use Rattle.std.proofs.Common.{◌<◌, ap, length, arith, length-append, mul-pos}
use Rattle.spec_bits.specs.Bits.{digits}
use Rattle.spec_bits.proofs.Digits.{length-digits}
use Rattle.picture_planes.specs.Pictures.{planes_of}
use Rattle.bit_strings.specs.BitText.{BitText}
use Rattle.stored_picture.proofs.BlockText.{slice_text}
use Rattle.stored_picture.proofs.slice.write_pcm_slice.Goals as goal

pub append_macroblocks-requires-clause-room : goal.append_macroblocks-requires-clause-room
append_macroblocks-requires-clause-room c =
    let r = c.requires.room in
    let l = c.append_head.ensures.length in
    let s = ap (λ (b : BitText). b.room) c.append_head.ensures.text in
    omega (arith, l, s)

pub append-requires-clause-room : goal.append-requires-clause-room
append-requires-clause-room c =
    let r = c.requires.room in
    let l = c.append_head.ensures.length in
    let s = ap (λ (b : BitText). b.room) c.append_head.ensures.text in
    let m = c.append_macroblocks.ensures.length in
    let t = ap (λ (b : BitText). b.room) c.append_macroblocks.ensures.text in
    omega (arith, l, s, m, t)

pub returns-clause-length : goal.returns-clause-length
returns-clause-length c =
    let l = c.append_head.ensures.length in
    let m = c.append_macroblocks.ensures.length in
    let n = ap (λ (b : BitText). length b.text) c.append.ensures in
    let k = length-append c.append_macroblocks.new.out.text (digits 8 128) in
    omega (arith, l, m, n, k, length-digits 8 128)

pub returns-clause-whole : goal.returns-clause-whole
returns-clause-whole c =
    let high = c.args.picture.now.y.size.2 in
    let d = c.requires.down in
    let down : 0 < c.args.down = omega arith in
    let w = c.append_macroblocks.ensures.whole (mul-pos c.requires.picture.some down) in
    let n = ap (λ (b : BitText). length b.text) c.append.ensures in
    let k = length-append c.append_macroblocks.new.out.text (digits 8 128) in
    omega (arith, w, n, k, length-digits 8 128)

pub returns-clause-text : goal.returns-clause-text
returns-clause-text c = slice_text c.args.across c.args.down c.args.number (planes_of c.args.picture.now) c.args.out.now c.append_head.new.out c.append_macroblocks.new.out c.append.new.out c.append_head.ensures.text c.append_macroblocks.ensures.text c.append.ensures
