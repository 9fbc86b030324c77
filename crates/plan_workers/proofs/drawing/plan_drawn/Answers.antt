use Rattle.std.proofs.Common.{◌≡◌, ◌∙◌, ◌≤◌, ◌<◌, ◌+◌, ◌*◌, ℕ, length, length-set, vec_len, refl, inl, ap, arith}
use Rattle.std.proofs.lemmas.List.Elements.{All-set}
use Rattle.enc_tables.specs.declared.plans.RowPlan.{RowPlan}
use Rattle.row_desk.specs.declared.view.View.{View}
use Rattle.row_desk.specs.Desks.{view_of}
use Rattle.row_desk.specs.Views.{after_tally}
use Rattle.plan_workers.specs.Tasks.{across_in}
use Rattle.plan_workers.specs.Drawn.{begun}
use Rattle.plan_workers.proofs.Filling.{none_filled, one_filled}
use Rattle.plan_workers.proofs.drawing.plan_drawn.Goals as goal

pub draw-drawn-requires-clause-live : goal.draw-drawn-requires-clause-live
draw-drawn-requires-clause-live g c =
    let view = c.loop-filled.invariant.done.view in
    let nones : (view_of c.loop-filled.seat).nones ≡ 0 = ap (λ (v : View). v.nones) view in
    let seats : (view_of c.loop-filled.seat).seats ≡ 1 = ap (λ (v : View). v.seats) view in
    omega (arith, nones, seats)

pub plan_one-compared-requires-clause-row : goal.plan_one-compared-requires-clause-row
plan_one-compared-requires-clause-row g c =
    let drew = rw c.in-Some.is at c.draw-drawn.ensures.some in
    let rows = c.requires.rows in
    let below = drew.0 in
    omega (arith, below, rows)

pub tally-seat-requires-clause-live : goal.tally-seat-requires-clause-live
tally-seat-requires-clause-live g c =
    let drew = rw c.in-Some.is at c.draw-drawn.ensures.some in
    let same : (view_of c.draw-drawn.result.1).seats ≡ (view_of c.loop-filled.seat).seats = ap (λ (v : View). v.seats) drew.1 in
    let seats : (view_of c.loop-filled.seat).seats ≡ 1 = ap (λ (v : View). v.seats) c.loop-filled.invariant.done.view in
    omega (arith, same, seats)

pub tally-seat-requires-clause-small : goal.tally-seat-requires-clause-small
tally-seat-requires-clause-small g c =
    let drew = rw c.in-Some.is at c.draw-drawn.ensures.some in
    let drawn : (view_of c.draw-drawn.result.1).tally ≡ (view_of c.loop-filled.seat).tally = ap (λ (v : View). v.tally) drew.1 in
    let had = c.loop-filled.invariant.small in
    let most = c.plan_one-compared.ensures.small in
    let more = c.loop-filled-test.true in
    let long = c.loop-filled.invariant.long in
    let short = c.requires.short in
    omega (arith, drawn, had, most, more, long, short)

pub loop-filled-init : goal.loop-filled-init
loop-filled-init g c =
    let rows = c.requires.rows in
    record {
      own = c.requires.own;
      done = none_filled c.args.task.now (g.G.Gate.let_in c.args.gate.now) (view_of c.args.seat) c.args.plans.now (c.requires.begun ∙ ap begun rows);
      small = let none : (view_of c.args.seat).tally ≡ 0 = ap (λ (v : View). v.tally) c.requires.begun in omega (arith, none);
      long = refl;
      wide = c.requires.wide;
    }

pub loop-filled-preserved : goal.loop-filled-preserved
loop-filled-preserved g c =
    let row : ℕ = c.in-Some.row in
    let drew = rw c.in-Some.is at c.draw-drawn.ensures.some in
    let below : row < c.args.task.now.down = omega (arith, drew.0, c.requires.rows) in
    let more : c.loop-filled.filled < length c.loop-filled.plans = c.loop-filled-test.true in
    record {
      own = c.tally-seat.ensures.own;
      done =
          one_filled c.args.task.now (g.G.Gate.let_in c.args.gate.now) (view_of c.loop-filled.seat) (view_of c.draw-drawn.result.1) (view_of c.tally-seat.result) c.loop-filled.plans c.loop-filled.filled row c.plan_one-compared.new.out
          c.loop-filled.invariant.done more below c.plan_one-compared.ensures.row c.plan_one-compared.ensures.plan c.enter.ensures drew.1
          (c.tally-seat.ensures.view ∙ ap (λ (n : ℕ). after_tally (view_of c.draw-drawn.result.1) n) c.plan_one-compared.ensures.compared);
      small =
          let told : (view_of c.tally-seat.result).tally ≡ (view_of c.draw-drawn.result.1).tally + c.plan_one-compared.result = ap (λ (v : View). v.tally) c.tally-seat.ensures.view in
          let drawn : (view_of c.draw-drawn.result.1).tally ≡ (view_of c.loop-filled.seat).tally = ap (λ (v : View). v.tally) drew.1 in
          let had = c.loop-filled.invariant.small in
          let most = c.plan_one-compared.ensures.small in
          omega (arith, told, drawn, had, most);
      long = length-set c.loop-filled.plans c.loop-filled.filled c.plan_one-compared.new.out ∙ c.loop-filled.invariant.long;
      wide =
          All-set (λ (p : RowPlan). vec_len p.mbs ≡ across_in c.args.task.now) c.loop-filled.plans c.loop-filled.filled c.plan_one-compared.new.out
          c.plan_one-compared.ensures.wide c.loop-filled.invariant.wide;
    }

pub returns-clause-worked : goal.returns-clause-worked
returns-clause-worked g c =
    let room = c.loop-filled.invariant.done.room in
    let full = c.loop-filled-test.false in
    record {
      nones = 0;
      filled = c.loop-filled.invariant.done;
      stopped = inl (refl, omega (arith, room, full));
    }
