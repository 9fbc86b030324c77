use Rattle.std.proofs.Common.{refl}
use Rattle.spec_cabac.specs.Bins.Request.{Bypass}
use Rattle.spec_syntax.specs.Syntax.{at}
use Rattle.bin_writer.proofs.Steps.{codes_plain}
use Rattle.bin_writer.proofs.code_bypass.Goals as goal

pub returns : goal.returns
returns c =
    codes_plain c.bypass.result c.args.coder.now (at 1000 c.args.bit) Bypass c.bypass.new.self (λ states. refl) (λ states. refl) refl c.requires
    (record { full = c.bypass.ensures.full; ok = c.bypass.ensures.ok; err = c.bypass.ensures.err })
