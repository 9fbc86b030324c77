use Rattle.std.proofs.Common.{List, subst, sym}
use Rattle.enc_tables.specs.declared.plans.RowPlan.{RowPlan}
use Rattle.picture_coder.specs.Coders.{coding_for}
use Rattle.picture_coder.specs.Pictures.{HasPlansFor}
use Rattle.picture_coder.proofs.OwnSizes.{own_coding}
use Rattle.picture_coder.proofs.coder.PictureCoder.code_by.Goals as goal

pub code_picture-done-requires-clause-coding : goal.code_picture-done-requires-clause-coding
code_picture-done-requires-clause-coding c = own_coding c.args.self.now c.args.job.now c.args.qp c.args.coarsest c.requires.sizes c.requires.job c.requires.qp c.requires.greatest

pub code_picture-done-requires-clause-plans : goal.code_picture-done-requires-clause-plans
code_picture-done-requires-clause-plans c chosen =
    subst (λ (plans : List RowPlan). HasPlansFor (coding_for c.args.self.now c.args.qp c.args.coarsest) c.args.job.now plans) (sym c.deref.ensures.value) c.requires.planned chosen
