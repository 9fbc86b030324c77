use Rattle.std.proofs.Common.{◌≡◌, ◌∙◌, ◌≤◌, ◌<◌, ◌+◌, ℕ, List, refl, length, length-set, take, get_or, set, sym, ap, subst, arith}
use Rattle.std.specs.Prelude.{◌≢◌}
use Rattle.std.specs.List.{All}
use Rattle.std.proofs.lemmas.List.{get_or-set_other, take_all}
use Rattle.std.proofs.lemmas.List.Elements.{All-set}
use Rattle.enc_tables.specs.declared.plans.RowPlan.{RowPlan}
use Rattle.row_desk.specs.Desks.{view_of}
use Rattle.plan_workers.specs.declared.pool.Pool.{Pool}
use Rattle.plan_workers.specs.declared.task.PlanTask.{PlanTask}
use Rattle.plan_workers.specs.Pools.{Collected, FitsRows, HasWorked, IsDone, room_of}
use Rattle.plan_workers.proofs.Joining.{none_collected, room_more, room_put}
use Rattle.plan_workers.proofs.collecting.collect.Goals as goal

pub loop-i-init : goal.loop-i-init
loop-i-init c = record {
  own = c.requires.own;
  pools_long = refl;
  plans_long = refl;
  later = λ j d le. refl;
  collected = λ t let_in all. none_collected t let_in _ (length c.args.pools.now) (view_of c.args.seat) c.args.plans.now c.requires.first;
  fits = λ across fit rows. (fit, rows);
  room = refl;
}

pub collect_one-seat-requires-clause-done : goal.collect_one-seat-requires-clause-done
collect_one-seat-requires-clause-done c =
    let pool : Pool = c.index-pools-i.result in
    let same = c.loop-i.invariant.later c.loop-i.i pool (omega arith) in
    let more = c.loop-i-test.true in
    subst (λ (p : Pool). IsDone c.args.desk.now p) (sym same) (c.requires.done c.loop-i.i pool more)

pub loop-i-preserved : goal.loop-i-preserved
loop-i-preserved c =
    let all : List Pool = c.args.pools.now in
    let i : ℕ = c.loop-i.i in
    let pool : Pool = c.index-pools-i.result in
    let next : Pool = c.collect_one-seat.new.pool in
    let now : Pool = get_or c.loop-i.pools i pool in
    let same : now ≡ get_or all i pool = c.loop-i.invariant.later i pool (omega arith) in
    let more : i < length all = c.loop-i-test.true in
    let inside : i < length c.loop-i.pools = let long = c.loop-i.invariant.pools_long in omega (arith, more, long) in
    let sum : room_of (take (i + 1) all) ≡ room_of (take i all) + length now.plans.items =
    room_more all i pool more ∙ ap (λ (p : Pool). room_of (take i all) + length p.plans.items) (sym same) in
    record {
      own = c.collect_one-seat.ensures.own;
      pools_long = length-set c.loop-i.pools i next ∙ c.loop-i.invariant.pools_long;
      plans_long = c.collect_one-seat.ensures.len ∙ c.loop-i.invariant.plans_long;
      later = λ j d le.
          let apart : j ≢ i = λ e. omega (arith, e, le) in
          get_or-set_other c.loop-i.pools i j next d apart ∙ c.loop-i.invariant.later j d (omega (arith, le));
      collected = λ t let_in worked.
          subst (λ (n : ℕ). Collected t let_in (length all) (i + 1) n (view_of c.collect_one-seat.result) c.collect_one-seat.new.plans) (sym sum)
          (c.collect_one-seat.ensures.collected t let_in (length all) i (room_of (take i all))
          (subst (λ (p : Pool). HasWorked t let_in c.args.desk.now p) (sym same) (worked i pool more))
          (c.loop-i.invariant.collected t let_in worked));
      fits = λ across fit rows.
          let both = c.loop-i.invariant.fits across fit rows in
          let new = c.collect_one-seat.ensures.fits across (both.0 i pool inside) both.1 in
          (All-set (FitsRows across) c.loop-i.pools i next new.0 both.0, new.1);
      room = room_put c.loop-i.pools i next pool c.collect_one-seat.ensures.room ∙ c.loop-i.invariant.room;
    }

pub returns-clause-collected : goal.returns-clause-collected
returns-clause-collected c t let_in worked =
    let all : List Pool = c.args.pools.now in
    let end : c.loop-i.i ≡ length all = omega (arith, c.loop-i-test.false, c.loop-i.auto.i-end) in
    let whole : take (length all) all ≡ all = take_all (length all) all (omega arith) in
    let held : room_of (take c.loop-i.i all) ≡ room_of all = ap (λ (n : ℕ). room_of (take n all)) end ∙ ap (λ (pools : List Pool). room_of pools) whole in
    subst (λ (n : ℕ). Collected t let_in (length all) (length all) n (view_of c.loop-i.seat) c.loop-i.plans) held
    (subst (λ (n : ℕ). Collected t let_in (length all) n (room_of (take c.loop-i.i all)) (view_of c.loop-i.seat) c.loop-i.plans) end
    (c.loop-i.invariant.collected t let_in worked))
