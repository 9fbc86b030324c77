use Rattle.std.proofs.Common.{◌≡◌, ◌∙◌, ◌≤◌, ◌<◌, ◌^◌, ℕ, Bool, List, length, sym, ap, subst, arith}
use Rattle.std.specs.List.{All}
use Rattle.spec_inter_plans.specs.InterPlans.{picture_compared}
use Rattle.mode_choice.specs.Given.{used}
use Rattle.picture_plans.specs.Planned.{AreRows}
use Rattle.row_desk.specs.declared.Desk.{Desk}
use Rattle.row_desk.specs.Desks.{rows_of, view_of}
use Rattle.plan_workers.specs.declared.task.PlanTask.{PlanTask}
use Rattle.plan_workers.specs.declared.pool.Pool.{Pool}
use Rattle.plan_workers.specs.Tasks.{across_in, search_in}
use Rattle.plan_workers.specs.Pools.{FitsRows, IsReady, dealt_view, room_of}
use Rattle.plan_workers.proofs.Seating.{AllWorked, all_done, all_fit, all_ready, all_worked, pools_kept, room_dealt, room_worked}
use Rattle.plan_workers.proofs.Whole.{IsWhole, slices_planned, total_small, whole}
use Rattle.plan_workers.proofs.picture.plan_at.Goals as goal

pub work_all-requires-clause-threads : goal.work_all-requires-clause-threads
work_all-requires-clause-threads g c = let same = c.deal-first.auto.pools in let some = c.requires.some in omega (arith, same, some)

pub work_all-requires-clause-ready : goal.work_all-requires-clause-ready
work_all-requires-clause-ready g c κs within =
    all_ready (across_in c.args.task.now) c.args.desk c.args.pools.now c.deal-first.new.pools c.deal-first.auto.pools c.requires.pools.fit c.deal-first.ensures.dealt

-- what the threads have left
pub collect-all-requires-clause-first : goal.collect-all-requires-clause-first
collect-all-requires-clause-first g c =
    c.deal-first.ensures.first ∙ ap (λ (n : ℕ). dealt_view (rows_of c.args.desk) n) (sym (c.work_all.auto.pools ∙ c.deal-first.auto.pools))

pub collect-all-requires-clause-done : goal.collect-all-requires-clause-done
collect-all-requires-clause-done g c =
    all_done c.args.task.now (g.G.Gate.let_in c.args.gate.now) c.args.desk c.deal-first.new.pools c.work_all.new.pools c.requires.desk
    (record { long = c.work_all.auto.pools; worked = c.work_all.ensures })

pub collect-all-requires-clause-count : goal.collect-all-requires-clause-count
collect-all-requires-clause-count g c = c.requires.count ∙ sym c.requires.desk

pub returns : goal.returns
returns g c =
    let t : PlanTask = c.args.task.now in
    let desk : Desk = c.args.desk in
    let let_in : ℕ → Bool = g.G.Gate.let_in c.args.gate.now in
    let worked : AllWorked t let_in desk c.deal-first.new.pools c.work_all.new.pools = record { long = c.work_all.auto.pools; worked = c.work_all.ensures } in
    let are_ready : All (IsReady (across_in t) desk) c.deal-first.new.pools =
    all_ready (across_in t) desk c.args.pools.now c.deal-first.new.pools c.deal-first.auto.pools c.requires.pools.fit c.deal-first.ensures.dealt in
    let fit : All (FitsRows (across_in t)) c.work_all.new.pools = all_fit t let_in desk c.deal-first.new.pools c.work_all.new.pools are_ready worked in
    let kept : All (FitsRows (across_in t)) c.collect-all.new.pools × AreRows (across_in t) c.collect-all.new.plans = c.collect-all.ensures.fits (across_in t) fit c.requires.rows in
    let held : room_of c.work_all.new.pools ≡ room_of c.args.pools.now =
    room_worked t let_in desk c.deal-first.new.pools c.work_all.new.pools worked
    ∙ room_dealt desk c.args.pools.now c.deal-first.new.pools c.deal-first.auto.pools c.deal-first.ensures.dealt in
    let roomy : rows_of desk < room_of c.work_all.new.pools = (let r = c.requires.pools.room c.requires.some in let d = c.requires.desk in omega (arith, r, d, held)) in
    let is : IsWhole t let_in c.close.result.total c.collect-all.new.plans =
    whole t let_in (rows_of desk) c.close.result.drawn c.close.result.total (length c.work_all.new.pools) (room_of c.work_all.new.pools) (view_of c.collect-all.result) c.collect-all.new.plans
    c.requires.desk (c.collect-all.ensures.collected t let_in (all_worked t let_in desk c.deal-first.new.pools c.work_all.new.pools worked)) c.close.ensures.all c.close.ensures.few roomy in
    let long : length c.collect-all.new.pools ≡ length c.args.pools.now = c.collect-all.ensures.pool_count ∙ (c.work_all.auto.pools ∙ c.deal-first.auto.pools) in
    record {
      len = c.collect-all.ensures.len;
      rows = kept.1;
      planned = slices_planned t c.collect-all.new.plans c.requires.task.some is.planned;
      compared = is.total_is;
      small = let most = total_small t c.requires.task c.lemma_lists_are_short.ensures in let e = is.total_is in omega (arith, most, e);
      asked = is.asked;
      pool_count = long;
      pools = pools_kept (across_in t) t.down c.args.pools.now c.collect-all.new.pools c.requires.pools long kept.0 (c.collect-all.ensures.room ∙ held);
    }
