use Rattle.std.proofs.Common.{None, sym, subst, ◌∙◌, w32}
use Rattle.std.proofs.lemmas.Int.{to_z-of_z}
use Rattle.picture_planes.specs.Pictures.{planes_of}
use Rattle.enc_session.specs.Asking.{IsSource}
use Rattle.enc_session.proofs.Coding.{for_still, coder_planned}
use Rattle.enc_session.proofs.Asked.{ListsFit, flat_fits, moved_fits, is_for, held_in_store}
use Rattle.enc_session.proofs.jobs.code_slices.Goals as goal

pub plan-compared-requires-clause-job : goal.plan-compared-requires-clause-job
plan-compared-requires-clause-job g c = λ κs p.
    let store = c.args.store.now in
    let st = c.args.step in
    let l = c.lists-lists.result in
    let first : ListsFit store st l None = flat_fits store st _ l (to_z-of_z w32 c.order_count-poc.result (record { sfits = c.order_count-poc.type_inv }) ∙ c.order_count-poc.ensures) c.requires.step c.lists-lists.ensures.held c.lists-lists.ensures.order c.lists-lists.ensures.named c.lists-lists.ensures.p c.lists-lists.ensures.inside in
    is_for c.args.coder.now store st c.move_in_lists-moved.new.lists c.move_in_lists-moved.result c.args.settings.now c.job_of-job.result c.args.idrs c.requires.together c.requires.step
    (moved_fits store st (planes_of c.args.source.now) l c.move_in_lists-moved.new.lists c.move_in_lists-moved.result c.requires.step first c.move_in_lists-moved.ensures)
    (held_in_store store l c.lists-lists.ensures.held c.lists-lists.ensures.ready)
    (subst (λ q. IsSource c.args.coder.now q) (sym c.job_of-job.ensures.source) c.requires.source)
    c.job_of-job.ensures.lists c.job_of-job.ensures.step c.job_of-job.ensures.idr_id c.job_of-job.ensures.slices c.job_of-job.ensures.workers c.job_of-job.ensures.range c.job_of-job.ensures.moved

pub pick_trial-requires-clause-job : goal.pick_trial-requires-clause-job
pick_trial-requires-clause-job g c =
    let store = c.args.store.now in
    let st = c.args.step in
    let l = c.lists-lists.result in
    let first : ListsFit store st l None = flat_fits store st _ l (to_z-of_z w32 c.order_count-poc.result (record { sfits = c.order_count-poc.type_inv }) ∙ c.order_count-poc.ensures) c.requires.step c.lists-lists.ensures.held c.lists-lists.ensures.order c.lists-lists.ensures.named c.lists-lists.ensures.p c.lists-lists.ensures.inside in
    for_still c.args.coder.now c.plan-compared.new.self c.job_of-job.result (coder_planned c.args.coder.now c.plan-compared.new.self c.plan-compared.ensures.others)
    (is_for c.args.coder.now store st c.move_in_lists-moved.new.lists c.move_in_lists-moved.result c.args.settings.now c.job_of-job.result c.args.idrs c.requires.together c.requires.step
    (moved_fits store st (planes_of c.args.source.now) l c.move_in_lists-moved.new.lists c.move_in_lists-moved.result c.requires.step first c.move_in_lists-moved.ensures)
    (held_in_store store l c.lists-lists.ensures.held c.lists-lists.ensures.ready)
    (subst (λ q. IsSource c.args.coder.now q) (sym c.job_of-job.ensures.source) c.requires.source)
    c.job_of-job.ensures.lists c.job_of-job.ensures.step c.job_of-job.ensures.idr_id c.job_of-job.ensures.slices c.job_of-job.ensures.workers c.job_of-job.ensures.range c.job_of-job.ensures.moved)

pub pick_trial-requires-clause-flat : goal.pick_trial-requires-clause-flat
pick_trial-requires-clause-flat g c =
    let store = c.args.store.now in
    let st = c.args.step in
    let l = c.lists-flat_lists.result in
    for_still c.args.coder.now c.plan-compared.new.self c.job_of-flat.result (coder_planned c.args.coder.now c.plan-compared.new.self c.plan-compared.ensures.others)
    (is_for c.args.coder.now store st l None c.args.settings.now c.job_of-flat.result c.args.idrs c.requires.together c.requires.step
    (flat_fits store st _ l (to_z-of_z w32 c.order_count-poc.result (record { sfits = c.order_count-poc.type_inv }) ∙ c.order_count-poc.ensures) c.requires.step c.lists-flat_lists.ensures.held c.lists-flat_lists.ensures.order c.lists-flat_lists.ensures.named c.lists-flat_lists.ensures.p c.lists-flat_lists.ensures.inside)
    (held_in_store store l c.lists-flat_lists.ensures.held c.lists-flat_lists.ensures.ready)
    (subst (λ q. IsSource c.args.coder.now q) (sym c.job_of-flat.ensures.source) c.requires.source)
    c.job_of-flat.ensures.lists c.job_of-flat.ensures.step c.job_of-flat.ensures.idr_id c.job_of-flat.ensures.slices c.job_of-flat.ensures.workers c.job_of-flat.ensures.range c.job_of-flat.ensures.moved)
