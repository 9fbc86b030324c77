use Rattle.std.proofs.Common.{◌%◌, ◌∙◌, ap, length, length-append}
use Rattle.spec_bits.specs.Golomb.{align_bits}
use Rattle.spec_bits.proofs.Codes.{align_whole}
use Rattle.bit_strings.specs.BitText.{BitText}
use Rattle.tool_compare.proofs.code.print_code.Goals as goal

pub bytes-requires : goal.bytes-requires
bytes-requires c =
    let text = c.args.code.text in
    ap (λ (b : BitText). length b.text % 8) c.in_ok-align.ensures.1 ∙ ap (λ n. n % 8) (length-append text (align_bits (length text))) ∙ align_whole (length text)
