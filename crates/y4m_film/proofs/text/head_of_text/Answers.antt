use Rattle.std.proofs.Common.{arith, sym, ap, ◌∙◌, ◌≡◌, ◌+◌, ◌-◌, ℕ, take, drop, Ok, Err}
use Rattle.std.specs.List.{position_or_len}
use Rattle.spec_film.specs.Films.{is_space, pieces_of, head_of_pieces}
use Rattle.y4m_film.proofs.Texts.{to_end}
use Rattle.y4m_film.proofs.Sayings.{reads_none, piece_read, reads_all, handed_on}
use Rattle.y4m_film.proofs.text.head_of_text.Goals as goal

pub loop-from-init : goal.loop-from-init
loop-from-init c = reads_none c.args.text.now c.nothing-said.result c.nothing-said.ensures.width c.nothing-said.ensures.height c.nothing-said.ensures.rate

pub returns-in_err-said : goal.returns-in_err-said
returns-in_err-said c =
    handed_on (head_of_pieces (pieces_of c.args.text.now)) c.from_residual.result c.in_err-said.field-0.0 c.from_residual.ensures.1
    (piece_read c.args.text.now (take (c.loop-from.from + c.before_space.result - c.loop-from.from) (drop c.loop-from.from c.args.text.now)) c.loop-from.from c.before_space.result c.loop-from.said (Err c.in_err-said.field-0.0) (c.before_space.ensures.value ∙ ap (position_or_len is_space) (to_end c.args.text.now c.loop-from.from)) (ap (λ (m : ℕ). take m (drop c.loop-from.from c.args.text.now)) (let k : c.loop-from.from + c.before_space.result - c.loop-from.from ≡ c.before_space.result = omega arith in k)) c.in_err-said.ensures c.loop-from.invariant)

pub loop-from-preserved : goal.loop-from-preserved
loop-from-preserved c =
    piece_read c.args.text.now (take (c.loop-from.from + c.before_space.result - c.loop-from.from) (drop c.loop-from.from c.args.text.now)) c.loop-from.from c.before_space.result c.loop-from.said (Ok c.in_ok-said.said) (c.before_space.ensures.value ∙ ap (position_or_len is_space) (to_end c.args.text.now c.loop-from.from)) (ap (λ (m : ℕ). take m (drop c.loop-from.from c.args.text.now)) (let k : c.loop-from.from + c.before_space.result - c.loop-from.from ≡ c.before_space.result = omega arith in k)) c.in_ok-said.ensures c.loop-from.invariant

pub returns : goal.returns
returns c = c.head.ensures ∙ sym (reads_all c.args.text.now c.loop-from.from c.loop-from.said (omega arith) c.loop-from.invariant)
