use Rattle.std.proofs.Common.{◌≡◌, ◌+◌, ◌≤◌, false, refl, sym, ap, subst, ◌∙◌, arith}
use Rattle.spec_cabac.specs.Code.{Coded, renormalised}
use Rattle.cabac_coder.specs.Whole.{whole, moved}
use Rattle.cabac_coder.specs.State.{CoderState}
use Rattle.spec_cabac.proofs.Ranges.{IsBounded, IsBounded-renormalised, range-renormalised, range-renormalised_below, seven}
use Rattle.cabac_coder.proofs.Advance.{refused, passed, counted, holds_after}
use Rattle.cabac_coder.proofs.coder.Coder.advance.Goals as goal

pub returns-then-self-more-clause-full : goal.returns-then-self-more-clause-full
returns-then-self-more-clause-full c = (
  λ _. refused c.self.inside.bytes c.self.inside.at.low c.self.inside.at.range c.self.inside.at.queued _ _ c.doublings-more.result _ _ c.args.self.now
      (λ e. renormalised 7 (moved c.args.add c.args.range e)) c.self.view_is c.self.invariant
      (counted (moved c.args.add c.args.range (whole c.self.inside.bytes c.self.inside.at.low c.self.inside.at.range c.self.inside.at.queued)) _ _ _ refl refl c.doublings-more.ensures.count)
      c.if-self-more.true,
  λ _. refl,
)

pub returns-clause-full : goal.returns-clause-full
returns-clause-full c = (
  λ h. cc,
  λ h. absurd (passed c.self.inside.bytes c.self.inside.at.low c.self.inside.at.range c.self.inside.at.queued _ _ c.doublings-more.result _ _ c.args.self.now
      (λ e. renormalised 7 (moved c.args.add c.args.range e)) c.self.view_is c.self.invariant
      (counted (moved c.args.add c.args.range (whole c.self.inside.bytes c.self.inside.at.low c.self.inside.at.range c.self.inside.at.queued)) _ _ _ refl refl c.doublings-more.ensures.count)
      c.if-self-more.false h),
)

pub invariant_of-self : goal.invariant_of-self
invariant_of-self c =
    let live : c.self.inside.ended ≡ false = ap (λ (s : CoderState). s.ended) c.self.view_is ∙ c.requires.live in
    let within : c.args.add + c.args.range ≤ c.self.inside.at.range =
    subst (λ (s : CoderState). c.args.add + c.args.range ≤ s.range) (sym c.self.view_is) c.requires.within in
    let start : Coded = moved c.args.add c.args.range (whole c.self.inside.bytes c.self.inside.at.low c.self.inside.at.range c.self.inside.at.queued) in
    let b : IsBounded start = record { bound = omega (arith, c.self.invariant.bounded.bound) } in
    holds_after c.self.inside.bytes c.narrow-self-inside.new.bytes c.self.inside.at.low c.self.inside.at.range c.self.inside.at.queued
    c.narrow-self-inside.result.low c.narrow-self-inside.result.range c.narrow-self-inside.result.queued c.self.inside.shifts c.self.inside.bound c.doublings-more.result
    c.self.inside.ended c.self.inside.full (renormalised 7 start) live c.self.invariant c.narrow-self-inside.ensures.grows c.narrow-self-inside.ensures.register
    c.narrow-self-inside.ensures.queued c.if-self-more.false c.narrow-self-inside.ensures.narrowed
    (IsBounded-renormalised 7 start b) (range-renormalised 7 start (seven c.args.range c.requires.least)) (range-renormalised_below 7 start c.requires.most)
    (counted start _ _ _ refl refl c.doublings-more.ensures.count)
