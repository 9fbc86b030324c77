use Rattle.std.proofs.Common.{refl, sym, ap, ◌∙◌}
use Rattle.enc_tables.specs.declared.records.SliceKind.{SliceKind}
use Rattle.spec_coded.specs.Tasks.{in_slice}
use Rattle.residual_coder.specs.Stripes.{planes_in}
use Rattle.inter_coder.specs.Made.{built_by}
use Rattle.inter_coder.specs.Given.{count0, count1}
use Rattle.slice_coder.specs.Given.{task_in}
use Rattle.slice_coder.proofs.Heads.{some_first, some_both}
use Rattle.slice_coder.proofs.CodedMb.{p_is, b_is, p_inter, b_inter, taken_is, none_taken, same_of, view_from, around_it, around_there, with_colocated}
use Rattle.slice_coder.proofs.macroblock.code_moving.Goals as goal

pub returns-in-P-clause-record : goal.returns-in-P-clause-record
returns-in-P-clause-record c h plans view chosen around here =
    ap (λ (k : SliceKind). in_slice k (task_in c.args.place.now h c.args.pictures.now plans) c.args.site.now view c.args.cost chosen) c.in-P.is
    ∙ p_is c.args.place.now h c.args.pictures.now plans c.args.site.now view c.args.cost chosen c.code_p_skip.result c.requires.across (c.code_p_skip.ensures.record view around)

pub returns-in-P-clause-qp : goal.returns-in-P-clause-qp
returns-in-P-clause-qp c =
    same_of c.args.site.now.qp c.code_p_skip.result
    (p_inter c.args.pictures.now c.args.place.now.t8x8 c.args.site.now (view_from c.args.beside.now) c.code_p_skip.result (c.code_p_skip.ensures.record (view_from c.args.beside.now) (around_it c.args.beside.now)))

pub returns-in-P-clause-planes : goal.returns-in-P-clause-planes
returns-in-P-clause-planes c first number at =
    taken_is c.args.place.now c.args.pictures.now first number c.args.site.now c.code_p_skip.result (planes_in c.args.stripe.now) (planes_in c.code_p_skip.new.stripe) c.requires.across at
    (p_inter c.args.pictures.now c.args.place.now.t8x8 c.args.site.now (view_from c.args.beside.now) c.code_p_skip.result (c.code_p_skip.ensures.record (view_from c.args.beside.now) (around_it c.args.beside.now))) c.code_p_skip.ensures.planes

pub returns-in-B-clause-record : goal.returns-in-B-clause-record
returns-in-B-clause-record c h plans view chosen around here =
    ap (λ (k : SliceKind). in_slice k (task_in c.args.place.now h c.args.pictures.now plans) c.args.site.now view c.args.cost chosen) c.in-B.is
    ∙ b_is c.args.place.now h c.args.pictures.now plans c.args.site.now view c.args.cost chosen c.code_b_direct.result c.requires.across (c.code_b_direct.ensures.record view around (here ∙ sym c.colocated_at-colocated.ensures))

pub returns-in-B-clause-qp : goal.returns-in-B-clause-qp
returns-in-B-clause-qp c =
    let view = with_colocated c.args.beside.now c.colocated_at-colocated.result in
    same_of c.args.site.now.qp c.code_b_direct.result
    (b_inter c.args.pictures.now c.args.place.now.t8x8 c.args.site.now view c.args.cost c.code_b_direct.result (c.code_b_direct.ensures.record view (around_there c.args.beside.now c.colocated_at-colocated.result) refl))

pub returns-in-B-clause-planes : goal.returns-in-B-clause-planes
returns-in-B-clause-planes c first number at =
    let view = with_colocated c.args.beside.now c.colocated_at-colocated.result in
    taken_is c.args.place.now c.args.pictures.now first number c.args.site.now c.code_b_direct.result (planes_in c.args.stripe.now) (planes_in c.code_b_direct.new.stripe) c.requires.across at
    (b_inter c.args.pictures.now c.args.place.now.t8x8 c.args.site.now view c.args.cost c.code_b_direct.result (c.code_b_direct.ensures.record view (around_there c.args.beside.now c.colocated_at-colocated.result) refl)) c.code_b_direct.ensures.planes

pub code_p_skip-requires-clause-some : goal.code_p_skip-requires-clause-some
code_p_skip-requires-clause-some c = some_first c.args.kind (count0 c.args.pictures.now) (count1 c.args.pictures.now) c.in-P.is c.requires.entries

pub colocated_at-colocated-requires-clause-some : goal.colocated_at-colocated-requires-clause-some
colocated_at-colocated-requires-clause-some c = (some_both c.args.kind (count0 c.args.pictures.now) (count1 c.args.pictures.now) c.in-B.is c.requires.entries).1

pub code_b_direct-requires-clause-some : goal.code_b_direct-requires-clause-some
code_b_direct-requires-clause-some c = some_both c.args.kind (count0 c.args.pictures.now) (count1 c.args.pictures.now) c.in-B.is c.requires.entries

pub returns-in-P-clause-unchanged : goal.returns-in-P-clause-unchanged
returns-in-P-clause-unchanged c none = none_taken (built_by c.args.pictures.now c.args.site.now) (planes_in c.args.stripe.now) (planes_in c.code_p_skip.new.stripe) c.code_p_skip.result c.code_p_skip.ensures.planes none

pub returns-in-B-clause-unchanged : goal.returns-in-B-clause-unchanged
returns-in-B-clause-unchanged c none = none_taken (built_by c.args.pictures.now c.args.site.now) (planes_in c.args.stripe.now) (planes_in c.code_b_direct.new.stripe) c.code_b_direct.result c.code_b_direct.ensures.planes none
