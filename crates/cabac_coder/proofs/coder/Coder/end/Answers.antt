use Rattle.std.proofs.Common.{◌≡◌, ◌+◌, ◌-◌, true, sym, ap, ◌∙◌, arith, add-zero}
use Rattle.spec_cabac.specs.Code.{Coded, step}
use Rattle.spec_cabac.specs.Bins.Bin.{Answered}
use Rattle.spec_cabac.specs.Bins.Request.{Terminate}
use Rattle.cabac_coder.specs.Whole.{whole}
use Rattle.cabac_coder.proofs.Advance.{passed, went, still_live, end-step, whole-add, Grows-refl}
use Rattle.cabac_coder.proofs.coder.Coder.end.Goals as goal

still : (e : Coded) → (step (Answered Terminate true) e).shifts ≡ e.shifts + 0
still e = ap (λ (f : Coded). f.shifts) (sym (end-step e)) ∙ sym (add-zero e.shifts)

pub returns-clause-full : goal.returns-clause-full
returns-clause-full c = (
  λ h. cc,
  λ h. absurd (passed c.self.inside.bytes c.self.inside.at.low c.self.inside.at.range c.self.inside.at.queued _ _ 0 _ _ c.args.self.now
      (λ e. step (Answered Terminate true) e) c.self.view_is c.self.invariant
      (still (whole c.self.inside.bytes c.self.inside.at.low c.self.inside.at.range c.self.inside.at.queued)) (omega (arith, c.if-self.false)) h),
)

pub returns-clause-ok : goal.returns-clause-ok
returns-clause-ok c =
    went c.self.inside.bytes c.self.inside.bytes c.self.inside.at.low c.self.inside.at.range c.self.inside.at.queued _ _ _ _ _ true c.args.self.now
    (λ e. step (Answered Terminate true) e) c.self.view_is (Grows-refl c.self.inside.bytes)
    (whole-add c.self.inside.bytes c.self.inside.at.low (c.self.inside.at.range - 2) 2 c.self.inside.at.range c.self.inside.at.queued
    ∙ end-step (whole c.self.inside.bytes c.self.inside.at.low c.self.inside.at.range c.self.inside.at.queued))
    (still_live c.self.inside.bytes c.self.inside.at.low c.self.inside.at.range c.self.inside.at.queued _ _ 0 _ _ c.self.invariant (omega (arith, c.if-self.false)))
