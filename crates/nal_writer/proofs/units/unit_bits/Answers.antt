use Rattle.std.proofs.Common.{◌∷◌, arith, length-append}
use Rattle.spec_bits.specs.Units.{escape, unit_bytes, start_code, header_byte}
use Rattle.nal_writer.proofs.units.unit_bits.Goals as goal

pub returns : goal.returns
unfolding unit_bytes
returns c = λ ref_idc kind.
    omega (arith, length-append (start_code c.args.long_start) (header_byte ref_idc kind ∷ escape 0 c.args.payload.now), c.head_len.ensures, c.inserted.ensures.count)
