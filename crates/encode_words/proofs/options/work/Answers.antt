use Rattle.std.proofs.Common.{ap, ap₂, ◌∙◌, ◌≡◌}
use Rattle.std.proofs.lemmas.Result.{IfOk-weaker}
use Rattle.clap.specs.Words.{app_of, with_rule}
use Rattle.encode_words.proofs.options.work.Goals as goal

pub returns : goal.returns
returns c =
    let s1 = c.in_ok-arg.ensures.shape c.usual.ensures.local ∙ ap (with_rule (app_of c.args.command)) c.usual.ensures.rule in
    let s2 = c.in_ok-arg-2.ensures.shape c.usual-2.ensures.local ∙ ap₂ with_rule s1 c.usual-2.ensures.rule in
    let s3 = c.in_ok-arg-3.ensures.shape c.usual-3.ensures.local ∙ ap₂ with_rule s2 c.usual-3.ensures.rule in
    IfOk-weaker c.arg-4.result _ _ (λ made h. h.shape c.usual-4.ensures.local ∙ ap₂ with_rule s3 c.usual-4.ensures.rule) c.arg-4.ensures
