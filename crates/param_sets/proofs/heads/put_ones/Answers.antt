use Rattle.std.proofs.Common.{subst, ap, ◌∙◌}
use Rattle.spec_bits.specs.Bits.{digits}
use Rattle.spec_bits.proofs.Codes.{digits-ones}
use Rattle.std.specs.Prelude.{replicate, true}
use Rattle.bit_strings.specs.BitText.{Appends}
use Rattle.param_sets.proofs.heads.put_ones.Goals as goal

pub returns : goal.returns
returns c = subst (λ bits. Appends c.args.out.now c.put.new.self bits c.put.result)
    (ap (λ v. digits c.ones_needed-count.result v) c.ones.ensures ∙ digits-ones c.ones_needed-count.result ∙ ap (λ n. replicate n true) c.ones_needed-count.ensures.count)
    c.put.ensures
