use Rattle.std.proofs.Common.{◌%◌, ◌∙◌, ap, length, length-append}
use Rattle.spec_bits.specs.Golomb.{align_bits}
use Rattle.spec_bits.proofs.Codes.{align_whole}
use Rattle.bit_strings.specs.BitText.{BitText}
use Rattle.tool_time.proofs.bins.code_of.Goals as goal

pub returns : goal.returns
returns c =
    let text = c.finish-code.result.text in
    ap (λ (b : BitText). length b.text % 8) c.in_ok-align.ensures.1 ∙ ap (λ n. n % 8) (length-append text (align_bits (length text))) ∙ align_whole (length text)
