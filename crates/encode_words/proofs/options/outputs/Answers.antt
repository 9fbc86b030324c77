use Rattle.std.proofs.Common.{ap, ap₂, ◌∙◌, ◌≡◌}
use Rattle.std.proofs.lemmas.Result.{IfOk-weaker}
use Rattle.clap.specs.Words.{app_of, with_rule}
use Rattle.encode_words.proofs.options.outputs.Goals as goal

pub returns : goal.returns
returns c =
    let s1 = c.in_ok-arg.ensures.shape c.text.ensures.local ∙ ap (with_rule (app_of c.args.command)) c.text.ensures.rule in
    let s2 = c.in_ok-arg-2.ensures.shape c.text-2.ensures.local ∙ ap₂ with_rule s1 c.text-2.ensures.rule in
    IfOk-weaker c.arg-3.result _ _ (λ made h. h.shape c.text-3.ensures.local ∙ ap₂ with_rule s2 c.text-3.ensures.rule) c.arg-3.ensures
