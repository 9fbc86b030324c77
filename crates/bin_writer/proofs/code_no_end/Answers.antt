use Rattle.std.proofs.Common.{false, refl}
use Rattle.spec_cabac.specs.Bins.Request.{Terminate}
use Rattle.spec_syntax.specs.Syntax.{at}
use Rattle.bin_writer.proofs.Steps.{codes_plain}
use Rattle.bin_writer.proofs.code_no_end.Goals as goal

pub returns : goal.returns
returns c =
    codes_plain c.terminate.result c.args.coder.now (at 276 false) Terminate c.terminate.new.self (λ states. refl) (λ states. refl) refl c.requires
    (record { full = c.terminate.ensures.full; ok = c.terminate.ensures.ok; err = c.terminate.ensures.err })
