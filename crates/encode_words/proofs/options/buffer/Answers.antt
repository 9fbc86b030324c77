use Rattle.std.proofs.Common.{ap, ap₂, ◌∙◌, ◌≡◌}
use Rattle.std.proofs.lemmas.Result.{IfOk-weaker}
use Rattle.clap.specs.Words.{app_of, with_rule}
use Rattle.encode_words.proofs.options.buffer.Goals as goal

pub returns : goal.returns
returns c =
    let s1 = c.in_ok-arg.ensures.shape c.number.ensures.local ∙ ap (with_rule (app_of c.args.command)) c.number.ensures.rule in
    let s2 = c.in_ok-arg-2.ensures.shape c.bounded.ensures.local ∙ ap₂ with_rule s1 c.bounded.ensures.rule in
    IfOk-weaker c.arg-3.result _ _ (λ made h. h.shape c.bounded-2.ensures.local ∙ ap₂ with_rule s2 c.bounded-2.ensures.rule) c.arg-3.ensures
