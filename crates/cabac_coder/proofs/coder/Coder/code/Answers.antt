use Rattle.std.proofs.Common.{◌≡◌, ap}
use Rattle.cabac_coder.specs.State.{CoderState, coded_of}
use Rattle.cabac_coder.proofs.Advance.{kept-step, taken-step}
use Rattle.cabac_coder.proofs.coder.Coder.code.Goals as goal

pub returns-then-bit-ctx-clause-full : goal.returns-then-bit-ctx-clause-full
returns-then-bit-ctx-clause-full c =
    let r : c.self.inside.at.range ≡ c.args.self.now.range = ap (λ (s : CoderState). s.range) c.self.view_is in
    rw (← kept-step c.args.ctx c.args.bit (coded_of c.args.self.now) c.if-bit-ctx.true, ← r, ← c.lps_range-size.ensures.value)
    c.advance.ensures.full

pub returns-then-bit-ctx-clause-ok : goal.returns-then-bit-ctx-clause-ok
returns-then-bit-ctx-clause-ok c =
    let r : c.self.inside.at.range ≡ c.args.self.now.range = ap (λ (s : CoderState). s.range) c.self.view_is in
    rw (← kept-step c.args.ctx c.args.bit (coded_of c.args.self.now) c.if-bit-ctx.true, ← r, ← c.lps_range-size.ensures.value)
    c.advance.ensures.ok

pub returns-else-bit-ctx-clause-full : goal.returns-else-bit-ctx-clause-full
returns-else-bit-ctx-clause-full c =
    let r : c.self.inside.at.range ≡ c.args.self.now.range = ap (λ (s : CoderState). s.range) c.self.view_is in
    rw (← taken-step c.args.ctx c.args.bit (coded_of c.args.self.now) c.if-bit-ctx.false, ← r, ← c.lps_range-size.ensures.value)
    c.advance-else-bit-ctx.ensures.full

pub returns-else-bit-ctx-clause-ok : goal.returns-else-bit-ctx-clause-ok
returns-else-bit-ctx-clause-ok c =
    let r : c.self.inside.at.range ≡ c.args.self.now.range = ap (λ (s : CoderState). s.range) c.self.view_is in
    rw (← taken-step c.args.ctx c.args.bit (coded_of c.args.self.now) c.if-bit-ctx.false, ← r, ← c.lps_range-size.ensures.value)
    c.advance-else-bit-ctx.ensures.ok
