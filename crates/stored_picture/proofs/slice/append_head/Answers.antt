use Rattle.std.proofs.Common.{ap, length, arith}
use Rattle.spec_headers.specs.HeadFields.{slice_head_bits}
use Rattle.spec_stream.specs.Stored.{stored_slice_head}
use Rattle.bit_strings.specs.BitText.{BitText}
use Rattle.stored_picture.proofs.Fits.{appended_first}
use Rattle.stored_picture.proofs.Lengths.{length-slice_head_bits}
use Rattle.stored_picture.proofs.slice.append_head.Goals as goal

pub returns-clause-text : goal.returns-clause-text
returns-clause-text c =
    let r = c.requires.room in
    appended_first c.args.out.now c.write_slice_head.new.out (slice_head_bits (stored_slice_head c.args.number)) c.write_slice_head.result c.requires.empty c.write_slice_head.ensures
    (omega (arith, length-slice_head_bits c.args.number))

pub returns-clause-length : goal.returns-clause-length
returns-clause-length c =
    let r = c.requires.room in
    let e = ap (λ (b : BitText). length b.text) (appended_first c.args.out.now c.write_slice_head.new.out (slice_head_bits (stored_slice_head c.args.number)) c.write_slice_head.result c.requires.empty c.write_slice_head.ensures
    (omega (arith, length-slice_head_bits c.args.number))) in
    omega (arith, e, length-slice_head_bits c.args.number)
