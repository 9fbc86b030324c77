use Rattle.std.proofs.Common.{◌≡◌, ◌∙◌, ◌≤◌, ◌<◌, ◌+◌, ℕ, List, Option, Some, length, get_or, sym, ap, subst, arith}
use Rattle.std.specs.Prelude.{unwrap_or}
use Rattle.std.proofs.lemmas.List.{with_items_is}
use Rattle.enc_tables.specs.declared.plans.RowPlan.{RowPlan}
use Rattle.picture_plans.specs.Planned.{AreRows}
use Rattle.row_desk.specs.declared.Seat.{Seat}
use Rattle.row_desk.specs.declared.view.View.{View}
use Rattle.row_desk.specs.Desks.{IsOf, rows_of, view_of}
use Rattle.row_desk.specs.Views.{merged}
use Rattle.plan_workers.specs.Drawn.{AreBelow, Worked}
use Rattle.plan_workers.specs.Pools.{Collected, Placed}
use Rattle.plan_workers.proofs.Joining.{one_collected}
use Rattle.plan_workers.proofs.collecting.collect_one.Goals as goal

-- a seat that stands where another one does
same_seat : (a b : Seat) (o : Option Seat) → o ≡ Some a → o ≡ Some b → a ≡ b
same_seat a b o is has = ap (λ (p : Option Seat). unwrap_or p a) (sym is ∙ has)

pub place_plans-requires-clause-filled : goal.place_plans-requires-clause-filled
place_plans-requires-clause-filled c =
    let same = ap (λ (plans : List RowPlan). length plans) c.as_mut_slice.ensures.value in
    let room = c.requires.done.room in
    omega (arith, same, room)

pub place_plans-requires-clause-below : goal.place_plans-requires-clause-below
place_plans-requires-clause-below c =
    subst (λ (n : ℕ). AreBelow n c.args.pool.now.filled c.as_mut_slice.result.now) (sym c.requires.count)
    (subst (λ (plans : List RowPlan). AreBelow (rows_of c.args.desk.now) c.args.pool.now.filled plans) (sym c.as_mut_slice.ensures.value) c.requires.done.below)

pub merge-requires : goal.merge-requires
merge-requires c =
    let same : c.in-Some.other ≡ c.requires.done.seat = same_seat c.in-Some.other c.requires.done.seat c.take.result c.in-Some.is (c.take.ensures.value ∙ c.requires.done.has_seat) in
    record { own = (c.requires.own, subst (λ (s : Seat). IsOf c.args.desk.now s) (sym same) c.requires.done.own) }

pub returns-clause-collected : goal.returns-clause-collected
returns-clause-collected c t let_in n k room worked h =
    let pool = c.args.pool.now in
    let same : c.in-Some.other ≡ worked.seat = same_seat c.in-Some.other worked.seat c.take.result c.in-Some.is (c.take.ensures.value ∙ worked.has_seat) in
    let done : Worked t let_in (view_of c.in-Some.other) pool.plans.items pool.filled =
    subst (λ (s : Seat). Worked t let_in (view_of s) pool.plans.items pool.filled) (sym same) worked.worked in
    let placed : Placed pool.filled pool.plans.items c.args.plans.now c.place_plans.new.plans =
    subst (λ (plans : List RowPlan). Placed pool.filled plans c.args.plans.now c.place_plans.new.plans) c.as_mut_slice.ensures.value c.place_plans.ensures.placed in
    subst (λ (v : View). Collected t let_in n (k + 1) (room + length pool.plans.items) v c.place_plans.new.plans) (sym c.merge.ensures.view)
    (one_collected t let_in n k room (view_of c.args.seat) (view_of c.in-Some.other) c.args.plans.now c.place_plans.new.plans pool.plans.items pool.filled h done placed)

pub returns-clause-fits : goal.returns-clause-fits
returns-clause-fits c across fits rows =
    let pool = c.args.pool.now in
    let both = c.place_plans.ensures.wide across (subst (λ (plans : List RowPlan). AreRows across plans) (sym c.as_mut_slice.ensures.value) fits.wide) rows in
    let long : length c.place_plans.new.from ≡ length pool.plans.items = c.place_plans.ensures.from_len ∙ ap (λ (plans : List RowPlan). length plans) c.as_mut_slice.ensures.value in
    let items = with_items_is pool.plans c.place_plans.new.from (long ∙ sym pool.plans.ok.0) in (
      record {
        wide = subst (λ (plans : List RowPlan). AreRows across plans) (sym items) both.0;
        short = let e = ap (λ (plans : List RowPlan). length plans) items in let s = fits.short in omega (arith, e, s, long);
      },
      both.1,
    )

pub returns-clause-room : goal.returns-clause-room
returns-clause-room c =
    let pool = c.args.pool.now in
    let long : length c.place_plans.new.from ≡ length pool.plans.items = c.place_plans.ensures.from_len ∙ ap (λ (plans : List RowPlan). length plans) c.as_mut_slice.ensures.value in
    ap (λ (plans : List RowPlan). length plans) (with_items_is pool.plans c.place_plans.new.from (long ∙ sym pool.plans.ok.0)) ∙ long
