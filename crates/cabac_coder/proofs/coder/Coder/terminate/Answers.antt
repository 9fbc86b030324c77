use Rattle.std.proofs.Common.{◌≡◌, ap}
use Rattle.cabac_coder.specs.State.{CoderState, coded_of}
use Rattle.cabac_coder.proofs.Advance.{go_on-step}
use Rattle.cabac_coder.proofs.coder.Coder.terminate.Goals as goal

pub returns-then-not-bit-clause-full : goal.returns-then-not-bit-clause-full
returns-then-not-bit-clause-full c =
    let r : c.self.inside.at.range ≡ c.args.self.now.range = ap (λ (s : CoderState). s.range) c.self.view_is in
    rw (c.if-not-bit.true, ← go_on-step (coded_of c.args.self.now), ← r) c.advance.ensures.full

pub returns-then-not-bit-clause-ok : goal.returns-then-not-bit-clause-ok
returns-then-not-bit-clause-ok c =
    let r : c.self.inside.at.range ≡ c.args.self.now.range = ap (λ (s : CoderState). s.range) c.self.view_is in
    rw (c.if-not-bit.true, ← go_on-step (coded_of c.args.self.now), ← r) c.advance.ensures.ok
