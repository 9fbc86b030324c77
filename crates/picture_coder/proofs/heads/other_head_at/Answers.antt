use Rattle.std.proofs.Common.{◌≤◌, ℕ, sym, subst, ◌∙◌}
use Rattle.spec_headers.specs.Heads.{other_head}
use Rattle.ref_lists.specs.Held.{seen}
use Rattle.ref_lists.proofs.Entering.{length-seen}
use Rattle.picture_coder.specs.Jobs.{held_in}
use Rattle.picture_coder.proofs.JobHeads.{other_fits}
use Rattle.picture_coder.proofs.heads.other_head_at.Goals as goal

pub returns-clause-fits : goal.returns-clause-fits
unfolding other_head
returns-clause-fits c =
    let few = subst (λ (n : ℕ). n ≤ 4) (sym (length-seen seen c.args.job.now.lists.now.held.now)) c.requires.job.held.few in
    other_fits c.args.job.now.step.idr c.args.job.now.step.kind c.args.job.now.step (held_in c.args.job.now) c.args.first_mb c.len.result c.len-2.result c.args.qp c.args.job.now.moved c.requires.other c.requires.job.step c.requires.job.entries few
    (c.len.ensures.value ∙ c.requires.job.count0) (c.len-2.ensures.value ∙ c.requires.job.count1) c.lemma_moved_fits.ensures c.requires.first c.requires.qp
