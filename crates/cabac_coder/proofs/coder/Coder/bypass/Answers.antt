use Rattle.std.proofs.Common.{◌≡◌, ◌+◌, Bool, false, refl, sym, ap, ◌∙◌}
use Rattle.spec_cabac.specs.Code.{Coded, step}
use Rattle.spec_cabac.specs.Bins.Bin.{Answered}
use Rattle.spec_cabac.specs.Bins.Request.{Bypass}
use Rattle.cabac_coder.specs.Whole.{whole}
use Rattle.cabac_coder.specs.State.{CoderState}
use Rattle.cabac_coder.proofs.Advance.{refused, passed, went, still_live, bypassing-step}
use Rattle.cabac_coder.proofs.coder.Coder.bypass.Goals as goal

one_more : (bit : Bool) (e : Coded) → (step (Answered Bypass bit) e).shifts ≡ e.shifts + 1
one_more bit e = ap (λ (f : Coded). f.shifts) (sym (bypassing-step bit e))

pub returns-then-self-clause-full : goal.returns-then-self-clause-full
returns-then-self-clause-full c = (
  λ _. refused c.self.inside.bytes c.self.inside.at.low c.self.inside.at.range c.self.inside.at.queued _ _ 1 _ _ c.args.self.now
      (λ e. step (Answered Bypass c.args.bit) e) c.self.view_is c.self.invariant
      (one_more c.args.bit (whole c.self.inside.bytes c.self.inside.at.low c.self.inside.at.range c.self.inside.at.queued)) c.if-self.true,
  λ _. refl,
)

pub returns-clause-full : goal.returns-clause-full
returns-clause-full c = (
  λ h. cc,
  λ h. absurd (passed c.self.inside.bytes c.self.inside.at.low c.self.inside.at.range c.self.inside.at.queued _ _ 1 _ _ c.args.self.now
      (λ e. step (Answered Bypass c.args.bit) e) c.self.view_is c.self.invariant
      (one_more c.args.bit (whole c.self.inside.bytes c.self.inside.at.low c.self.inside.at.range c.self.inside.at.queued)) c.if-self.false h),
)

pub returns-clause-ok : goal.returns-clause-ok
returns-clause-ok c =
    let live : c.self.inside.ended ≡ false = ap (λ (s : CoderState). s.ended) c.self.view_is ∙ c.requires.live in
    rw live (went c.self.inside.bytes c.halve-self-inside.new.bytes c.self.inside.at.low c.self.inside.at.range c.self.inside.at.queued _ _ _ c.self.inside.ended _ false c.args.self.now
    (λ e. step (Answered Bypass c.args.bit) e) c.self.view_is c.halve-self-inside.ensures.grows
    (c.halve-self-inside.ensures.halved ∙ bypassing-step c.args.bit (whole c.self.inside.bytes c.self.inside.at.low c.self.inside.at.range c.self.inside.at.queued))
    (still_live c.self.inside.bytes c.self.inside.at.low c.self.inside.at.range c.self.inside.at.queued _ _ 1 _ _ c.self.invariant c.if-self.false))
