use Rattle.std.proofs.Common.{◌-◌, ◌≤◌, false, length, map, slice_set, sym, subst, arith}
use Rattle.std.proofs.lemmas.List.{length-set}
use Rattle.enc_tables.specs.declared.records.PlanStep.{PlanStep}
use Rattle.enc_tables.specs.declared.records.SliceKind.TheVariants.{I}
use Rattle.picture_planes.specs.Pictures.{planes_of}
use Rattle.ref_lists.specs.Stored.{held_of}
use Rattle.ref_lists.specs.declared.store.RefStore.{RefStore}
use Rattle.enc_session.specs.Showing.{newest_planes}
use Rattle.enc_session.specs.Ready.{state_in}
use Rattle.enc_session.proofs.Planned.{first_fits, some_held}
use Rattle.enc_session.proofs.Together.{others_fit, steps_failed, steps_done, steps_gone}
use Rattle.enc_session.proofs.group.code_steps.Goals as goal

abbrev none : PlanStep
none = record { display = 0; kind = I; idr = false; frame_num = 0; poc = 0 }

pub code_picture-requires-clause-step : goal.code_picture-requires-clause-step
code_picture-requires-clause-step g c = λ κs p. (first_fits c.args.engine.now c.args.steps.now none c.requires.keeps c.requires.some c.requires.most c.requires.steps c.requires.few).step

pub code_picture-requires-clause-follows : goal.code_picture-requires-clause-follows
code_picture-requires-clause-follows g c = λ κs p. (first_fits c.args.engine.now c.args.steps.now none c.requires.keeps c.requires.some c.requires.most c.requires.steps c.requires.few).follows

pub code_picture-requires-clause-display : goal.code_picture-requires-clause-display
code_picture-requires-clause-display g c = λ κs p. (first_fits c.args.engine.now c.args.steps.now none c.requires.keeps c.requires.some c.requires.most c.requires.steps c.requires.few).display

pub code_picture-requires-clause-late : goal.code_picture-requires-clause-late
code_picture-requires-clause-late g c = λ κs p. (first_fits c.args.engine.now c.args.steps.now none c.requires.keeps c.requires.some c.requires.most c.requires.steps c.requires.few).late

pub returns-in-Err-clause-left : goal.returns-in-Err-clause-left
returns-in-Err-clause-left g c =
    steps_failed c.args.engine.now (state_in c.code_picture.new.self) c.args.steps.now c.args.slots.now c.code_picture.new.slot c.index-slots-last.result none
    (map planes_of (slice_set c.args.slots.now (length c.args.steps.now - 1) c.code_picture.new.slot)) (newest_planes c.code_picture.new.self.store) (g.S.Studio.seen c.args.studio.now) (g.S.Studio.seen c.code_picture.new.studio) c.in-Err.end
    c.requires.some c.requires.most c.requires.steps c.requires.slots c.in-Err.ensures.left

pub code_between-count-requires-clause-between : goal.code_between-count-requires-clause-between
code_between-count-requires-clause-between g c = λ κs p. (others_fit c.args.engine.now c.code_picture.new.self c.args.steps.now none c.in-Ok.ensures.left.0 c.requires.keeps c.requires.some c.requires.most c.requires.steps c.requires.few c.in-Ok.ensures.same c.in-Ok.ensures.left.1.state).between

pub code_between-count-requires-clause-late : goal.code_between-count-requires-clause-late
code_between-count-requires-clause-late g c = λ κs p. (others_fit c.args.engine.now c.code_picture.new.self c.args.steps.now none c.in-Ok.ensures.left.0 c.requires.keeps c.requires.some c.requires.most c.requires.steps c.requires.few c.in-Ok.ensures.same c.in-Ok.ensures.left.1.state).late

pub code_between-count-requires-clause-few : goal.code_between-count-requires-clause-few
code_between-count-requires-clause-few g c = λ κs p. (others_fit c.args.engine.now c.code_picture.new.self c.args.steps.now none c.in-Ok.ensures.left.0 c.requires.keeps c.requires.some c.requires.most c.requires.steps c.requires.few c.in-Ok.ensures.same c.in-Ok.ensures.left.1.state).few

pub returns-clause-left : goal.returns-clause-left
returns-clause-left g c =
    steps_done c.args.engine.now c.code_picture.new.self c.code_between-count.new.engine c.args.steps.now c.args.slots.now c.code_picture.new.slot c.index-slots-last.result none c.in-Ok.ensures.left.0 (map planes_of c.code_between-count.new.slots)
    (g.S.Studio.seen c.args.studio.now) (g.S.Studio.seen c.code_picture.new.studio) (g.S.Studio.seen c.code_between-count.new.studio) c.code_between-count.result.0 c.code_between-count.result.1
    c.requires.keeps c.requires.some c.requires.most c.requires.steps c.requires.slots c.in-Ok.ensures.same c.in-Ok.ensures.left.1 c.code_between-count.ensures.store c.code_between-count.ensures.left

pub returns-clause-gone : goal.returns-clause-gone
returns-clause-gone g c =
    let few = c.requires.slots in
    let long = length-set c.args.slots.now (length c.args.steps.now - 1) c.code_picture.new.slot in
    steps_gone c.args.engine.now c.code_picture.new.self c.code_between-count.new.engine c.args.steps.now (slice_set c.args.slots.now (length c.args.steps.now - 1) c.code_picture.new.slot) none c.in-Ok.ensures.left.0 (map planes_of c.code_between-count.new.slots)
    (g.S.Studio.seen c.code_picture.new.studio) (g.S.Studio.seen c.code_between-count.new.studio) c.code_between-count.result.0 c.code_between-count.result.1
    c.requires.keeps c.requires.some c.requires.most c.requires.steps (omega (arith, few, long)) c.in-Ok.ensures.left.1.state c.code_between-count.ensures.store c.code_between-count.ensures.left

pub returns-clause-held : goal.returns-clause-held
returns-clause-held g c = λ one.
    subst (λ (s : RefStore). 1 ≤ length (held_of s)) (sym c.code_between-count.ensures.store)
    (some_held c.args.engine.now c.code_picture.new.self c.args.steps.now none c.in-Ok.ensures.left.0 c.requires.keeps c.requires.some c.requires.most c.requires.steps c.in-Ok.ensures.left.1.state)
