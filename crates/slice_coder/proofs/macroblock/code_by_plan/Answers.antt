use Rattle.std.proofs.Common.{ℕ, ◌*◌, arith, sym, ap, ◌∙◌, List}
use Rattle.residual_coder.specs.Stripes.{planes_in}
use Rattle.picture_planes.specs.Pictures.{planes_of}
use Rattle.spec_reconstruction.specs.Records.{intra16_record, intra8_record, intra4_record}
use Rattle.slice_coder.proofs.CodedMb.{modes8_small}
use Rattle.slice_coder.proofs.Building.{coded16, coded8, coded4}
use Rattle.slice_coder.proofs.macroblock.code_by_plan.Goals as goal

pub code_intra8-requires-clause-modes : goal.code_intra8-requires-clause-modes
code_intra8-requires-clause-modes c = λ b h. modes8_small c.args.plan.now.modes8 c.first_modes-modes.result c.first_modes-modes.ensures c.requires.modes.modes8 b

pub code_intra4-requires-clause-modes : goal.code_intra4-requires-clause-modes
code_intra4-requires-clause-modes c = λ b h. omega (arith, c.requires.modes.modes4 b)

pub returns-then-is_16x16-clause-record : goal.returns-then-is_16x16-clause-record
returns-then-is_16x16-clause-record c across w =
    c.code_intra16.ensures.record
    ∙ ap (λ (wide : ℕ). intra16_record wide c.args.site.now c.args.plan.now.mode16 c.args.plan.now.chroma_mode (planes_of c.args.source.now) (planes_in c.args.stripe.now)) w
    ∙ coded16 across c.args.site.now c.args.kind c.args.plan.now (planes_of c.args.source.now) (planes_in c.args.stripe.now) (sym c.is_16x16.ensures ∙ c.if-is_16x16.true)

pub returns-then-is_8x8-clause-record : goal.returns-then-is_8x8-clause-record
returns-then-is_8x8-clause-record c across w =
    c.code_intra8.ensures.record
    ∙ ap (λ (wide : ℕ). intra8_record wide c.args.site.now c.first_modes-modes.result c.args.plan.now.chroma_mode (planes_of c.args.source.now) (planes_in c.args.stripe.now)) w
    ∙ ap (λ (modes : List ℕ). intra8_record (16 * across) c.args.site.now modes c.args.plan.now.chroma_mode (planes_of c.args.source.now) (planes_in c.args.stripe.now)) c.first_modes-modes.ensures
    ∙ coded8 across c.args.site.now c.args.kind c.args.plan.now (planes_of c.args.source.now) (planes_in c.args.stripe.now) (sym c.is_16x16.ensures ∙ c.if-is_16x16.false) (sym c.is_8x8.ensures ∙ c.if-is_8x8.true)

pub returns-clause-record : goal.returns-clause-record
returns-clause-record c across w =
    c.code_intra4.ensures.record
    ∙ ap (λ (wide : ℕ). intra4_record wide c.args.site.now c.args.plan.now.modes4 c.args.plan.now.chroma_mode (planes_of c.args.source.now) (planes_in c.args.stripe.now)) w
    ∙ coded4 across c.args.site.now c.args.kind c.args.plan.now (planes_of c.args.source.now) (planes_in c.args.stripe.now) (sym c.is_16x16.ensures ∙ c.if-is_16x16.false) (sym c.is_8x8.ensures ∙ c.if-is_8x8.false)
