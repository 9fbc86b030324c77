use Rattle.std.proofs.Common.{ap, ap₂, ◌∙◌}
use Rattle.std.proofs.lemmas.Result.{IfOk-weaker}
use Rattle.clap.specs.Words.{with_rule}
use Rattle.spec_words.specs.Options.{with_coding, with_work}
use Rattle.encode_words.proofs.options.encoding.Goals as goal

pub returns : goal.returns
returns c =
    let worked = c.in_ok-worked.ensures ∙ ap with_work (c.in_ok-coded.ensures ∙ ap with_coding c.in_ok-buffered.ensures) in
    IfOk-weaker c.arg.result _ _ (λ made h. h.shape c.choice.ensures.local ∙ ap₂ with_rule worked c.choice.ensures.rule) c.arg.ensures
