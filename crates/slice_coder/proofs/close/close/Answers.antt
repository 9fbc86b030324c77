use Rattle.std.proofs.Common.{[], sym, ap, ◌∙◌, ◌++◌}
use Rattle.std.proofs.lemmas.Bool.{false≢true}
use Rattle.bit_strings.specs.BitText.{BitText}
use Rattle.cabac_coder.specs.State.{CoderState}
use Rattle.slice_coder.specs.Left.{buffer}
use Rattle.slice_coder.proofs.Ending.{code_of, leaves_failed, finished, leaves_short, leaves_all, on_err, on_ok}
use Rattle.slice_coder.proofs.close.close.Goals as goal

pub returns-then-is_err : goal.returns-then-is_err
returns-then-is_err c buf states last bins codes =
    let bad = sym c.is_err.ensures.value ∙ c.if-is_err.true in
    let stopped = on_err c.terminate.result bad c.terminate.ensures.err in
    leaves_failed c.emptied.result.0 buf c.emptied.result.1 states last bins c.args.coder codes ((c.terminate.ensures.full).0 bad) c.emptied.ensures.answer
    (c.emptied.ensures.empty ∙ ap (λ (b : BitText). (let d : BitText = record b { text = [] } in d)) c.give_back.ensures ∙ ap (λ (s : CoderState). buffer s.room s.made []) stopped)

pub returns-then-is_err-2 : goal.returns-then-is_err-2
returns-then-is_err-2 c buf states last bins codes =
    let ended = on_ok c.terminate.result (λ bad. false≢true (sym c.if-is_err.false ∙ c.is_err.ensures.value ∙ bad)) c.terminate.ensures.ok in
    leaves_short c.emptied-then-is_err-2.result.0 c.align.result buf.room buf.made (buf.text ++ code_of states bins) c.finish-buf.result c.align.new.self c.emptied-then-is_err-2.result.1
    (c.finish-buf.ensures.bits ∙ finished buf states last bins c.args.coder c.terminate.new.self codes (λ f. false≢true (sym c.if-is_err.false ∙ c.is_err.ensures.value ∙ (c.terminate.ensures.full).1 f)) ended)
    c.align.ensures (sym c.is_err-2.ensures.value ∙ c.if-is_err-2.true) c.emptied-then-is_err-2.ensures.answer c.emptied-then-is_err-2.ensures.empty

pub returns : goal.returns
returns c buf states last bins codes =
    let ended = on_ok c.terminate.result (λ bad. false≢true (sym c.if-is_err.false ∙ c.is_err.ensures.value ∙ bad)) c.terminate.ensures.ok in
    leaves_all c.align.result buf.room buf.made (buf.text ++ code_of states bins) c.finish-buf.result c.align.new.self
    (c.finish-buf.ensures.bits ∙ finished buf states last bins c.args.coder c.terminate.new.self codes (λ f. false≢true (sym c.if-is_err.false ∙ c.is_err.ensures.value ∙ (c.terminate.ensures.full).1 f)) ended)
    c.align.ensures (λ bad. false≢true (sym c.if-is_err-2.false ∙ c.is_err-2.ensures.value ∙ bad))
