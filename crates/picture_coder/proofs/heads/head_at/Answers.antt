use Rattle.std.proofs.Common.{Bool, sym, ap, subst, ◌∙◌}
use Rattle.spec_headers.specs.declared.heads.SliceHead.{SliceHead}
use Rattle.spec_headers.specs.Heads.{idr_head, other_head}
use Rattle.spec_slice_payload.specs.Slices.{IsHead}
use Rattle.picture_coder.proofs.JobHeads.{head_idr, head_other, head_first, head_qp, head_kind, head_refs}
use Rattle.picture_coder.proofs.heads.head_at.Goals as goal

pub returns-then-job-clause-first : goal.returns-then-job-clause-first
returns-then-job-clause-first c =
    let value = c.idr_head_at.ensures.value ∙ head_idr c.args.job.now c.args.qp c.args.first_mb c.if-job.true c.requires.job.idr_id in
    ap (λ (h : SliceHead). h.first_mb) value ∙ head_first c.args.job.now c.args.qp c.args.first_mb

pub returns-then-job-clause-qp : goal.returns-then-job-clause-qp
returns-then-job-clause-qp c =
    let value = c.idr_head_at.ensures.value ∙ head_idr c.args.job.now c.args.qp c.args.first_mb c.if-job.true c.requires.job.idr_id in
    ap (λ (h : SliceHead). h.qp) value ∙ head_qp c.args.job.now c.args.qp c.args.first_mb

pub returns-then-job-clause-kind : goal.returns-then-job-clause-kind
returns-then-job-clause-kind c =
    let value = c.idr_head_at.ensures.value ∙ head_idr c.args.job.now c.args.qp c.args.first_mb c.if-job.true c.requires.job.idr_id in
    ap (λ (h : SliceHead). h.kind) value ∙ head_kind c.args.job.now c.args.qp c.args.first_mb c.requires.job.step

pub returns-then-job-clause-count0 : goal.returns-then-job-clause-count0
returns-then-job-clause-count0 c =
    let value = c.idr_head_at.ensures.value ∙ head_idr c.args.job.now c.args.qp c.args.first_mb c.if-job.true c.requires.job.idr_id in
    c.requires.job.count0 ∙ (head_refs c.args.job.now c.args.qp c.args.first_mb c.requires.job.step).0 ∙ sym (ap (λ (h : SliceHead). h.refs0) value)

pub returns-then-job-clause-count1 : goal.returns-then-job-clause-count1
returns-then-job-clause-count1 c =
    let value = c.idr_head_at.ensures.value ∙ head_idr c.args.job.now c.args.qp c.args.first_mb c.if-job.true c.requires.job.idr_id in
    c.requires.job.count1 ∙ (head_refs c.args.job.now c.args.qp c.args.first_mb c.requires.job.step).1 ∙ sym (ap (λ (h : SliceHead). h.refs1) value)

pub returns-then-job-clause-fits : goal.returns-then-job-clause-fits
unfolding idr_head
returns-then-job-clause-fits c = subst (λ (b : Bool). IsHead b c.idr_head_at.result) (sym (ap (λ (h : SliceHead). h.idr) c.idr_head_at.ensures.value)) c.idr_head_at.ensures.fits

pub returns-clause-first : goal.returns-clause-first
returns-clause-first c =
    let value = c.other_head_at.ensures.value ∙ head_other c.args.job.now c.args.qp c.args.first_mb _ _ c.if-job.false c.requires.job.count0 c.requires.job.count1 in
    ap (λ (h : SliceHead). h.first_mb) value ∙ head_first c.args.job.now c.args.qp c.args.first_mb

pub returns-clause-qp : goal.returns-clause-qp
returns-clause-qp c =
    let value = c.other_head_at.ensures.value ∙ head_other c.args.job.now c.args.qp c.args.first_mb _ _ c.if-job.false c.requires.job.count0 c.requires.job.count1 in
    ap (λ (h : SliceHead). h.qp) value ∙ head_qp c.args.job.now c.args.qp c.args.first_mb

pub returns-clause-kind : goal.returns-clause-kind
returns-clause-kind c =
    let value = c.other_head_at.ensures.value ∙ head_other c.args.job.now c.args.qp c.args.first_mb _ _ c.if-job.false c.requires.job.count0 c.requires.job.count1 in
    ap (λ (h : SliceHead). h.kind) value ∙ head_kind c.args.job.now c.args.qp c.args.first_mb c.requires.job.step

pub returns-clause-count0 : goal.returns-clause-count0
returns-clause-count0 c =
    let value = c.other_head_at.ensures.value ∙ head_other c.args.job.now c.args.qp c.args.first_mb _ _ c.if-job.false c.requires.job.count0 c.requires.job.count1 in
    c.requires.job.count0 ∙ (head_refs c.args.job.now c.args.qp c.args.first_mb c.requires.job.step).0 ∙ sym (ap (λ (h : SliceHead). h.refs0) value)

pub returns-clause-count1 : goal.returns-clause-count1
returns-clause-count1 c =
    let value = c.other_head_at.ensures.value ∙ head_other c.args.job.now c.args.qp c.args.first_mb _ _ c.if-job.false c.requires.job.count0 c.requires.job.count1 in
    c.requires.job.count1 ∙ (head_refs c.args.job.now c.args.qp c.args.first_mb c.requires.job.step).1 ∙ sym (ap (λ (h : SliceHead). h.refs1) value)

pub returns-clause-fits : goal.returns-clause-fits
unfolding other_head
returns-clause-fits c = subst (λ (b : Bool). IsHead b c.other_head_at.result) (sym (ap (λ (h : SliceHead). h.idr) c.other_head_at.ensures.value)) c.other_head_at.ensures.fits
