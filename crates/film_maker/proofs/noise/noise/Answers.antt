use Rattle.std.proofs.Common.{◌≡◌, ℕ, ◌/◌, ◌^◌, refl, ap, subst, arith, ◌∙◌}
use Rattle.std.proofs.lemmas.List.{length-replicate}
use Rattle.film_maker.specs.Made.{state_after}
use Rattle.film_maker.proofs.Filling.{Filled, byte_at, filled_more, noise_filled, state_next}
use Rattle.film_maker.proofs.noise.noise.Goals as goal

pub loop-k-init : goal.loop-k-init
unfolding state_after
loop-k-init c = (refl, record { size = length-replicate {A = ℕ} 64 0; each = λ i lt. absurd (omega (arith, lt)) })

pub loop-k-preserved : goal.loop-k-preserved
loop-k-preserved c =
    let next = c.next_state-state.ensures ∙ state_next c.loop-k.k c.args.seed c.loop-k.state c.loop-k.invariant.0 in
    (next, filled_more 64 (byte_at c.args.seed) c.loop-k.k (c.next_state-state.result / 2 ^ 56) c.loop-k.numbers c.loop-k-test.true (ap (λ x. x / 2 ^ 56) next) c.loop-k.invariant.1)

pub returns : goal.returns
returns c =
    let end : c.loop-k.k ≡ 64 = omega (arith, c.loop-k-test.false, c.loop-k.auto.k-end) in
    noise_filled c.args.seed c.loop-k.numbers (subst (λ k. Filled 64 (byte_at c.args.seed) k c.loop-k.numbers) end c.loop-k.invariant.1)
