-- A seat that takes in those of the threads.
use Rattle.std.proofs.Common.{◌≡◌, ◌∙◌, ◌<◌, ◌≤◌, ◌+◌, ◌==◌, ℕ, Bool, IsTrue, zero, suc, true, false, refl, sym, ap, subst, arith, List, [], ◌∷◌, ◌++◌, inl, inr, ◌⊎◌, length, map, take, min, set, get_or, length-append, length-take}
use Rattle.std.proofs.lemmas.List.{length-map}
use Rattle.std.proofs.lemmas.List.Sums.{sum_by-append}
use Rattle.std.specs.List.{sum_by}
use Rattle.std.specs.Prelude.{if◌then◌else◌}
use Rattle.enc_tables.specs.declared.plans.RowPlan.{RowPlan}
use Rattle.row_desk.specs.declared.view.View.{View}
use Rattle.row_desk.specs.Rule.{times}
use Rattle.row_desk.specs.Views.{merged}
use Rattle.row_desk.proofs.Totals.{times-append}
use Rattle.plan_workers.specs.declared.pool.Pool.{Pool}
use Rattle.plan_workers.specs.declared.task.PlanTask.{PlanTask}
use Rattle.plan_workers.specs.Tasks.{compared_in}
use Rattle.plan_workers.specs.Drawn.{Filled, Has, IsDrawn, IsPlanOf, Worked, begun, rows_in}
use Rattle.plan_workers.specs.Pools.{Collected, IsAmong, Placed, dealt_view, room_of}

-- ---- rows of plans

pub length-rows : (count : ℕ) (plans : List RowPlan) → count ≤ length plans → length (rows_in count plans) ≡ count
length-rows count plans room =
    let a = length-map (take count plans) (λ (q : RowPlan). q.row) in
    let b = length-take count plans in
    omega (arith, a, b, room)

-- a row that stands among them is that of one of the plans
record Standing (count : ℕ) (plans : List RowPlan) (x : ℕ) : Type 0 where
  place : ℕ
  plan : RowPlan
  within : place < count
  is : get_or plans place plan ≡ plan
  row_is : plan.row ≡ x

standing : (count : ℕ) (plans : List RowPlan) (x : ℕ) → Has (rows_in count plans) x → Standing count plans x
standing zero plans x has = absurd (omega (arith, has))
standing (suc n) [] x has = absurd (omega (arith, has))
standing (suc n) (p ∷ ps) x has = by (x == p.row) refl has (λ more. standing n ps x more)
  where
    by : (b : Bool) → (x == p.row) ≡ b → 0 < (if x == p.row then 1 else 0) + times x (rows_in n ps) → (Has (rows_in n ps) x → Standing n ps x) → Standing (suc n) (p ∷ ps) x
    by true t h rest =
        let same : p.row ≡ x = grind arith in
        record { place = 0; plan = p; within = omega arith; is = refl; row_is = same }
    by false t h rest =
        let more : 0 < 0 + times x (rows_in n ps) = rw t at h in
        let r = rest (omega (arith, more)) in
        record { place = suc r.place; plan = r.plan; within = let w = r.within in omega (arith, w); is = r.is; row_is = r.row_is }

-- the gate let it in
asked_of : (t : PlanTask) (let_in : ℕ → Bool) (v : View) (plans : List RowPlan) (count nones x : ℕ) → Filled t let_in v plans count nones → Has (rows_in count plans) x → IsTrue (let_in x)
asked_of t let_in v plans count nones x f has = by (standing count plans x has)
  where
    by : Standing count plans x → IsTrue (let_in x)
    by s = subst (λ (n : ℕ). IsTrue (let_in n)) (ap (λ (p : RowPlan). p.row) s.is ∙ s.row_is) (f.drawn s.place s.plan s.within).asked

-- what stands at its row is its plan
plan_at : (t : PlanTask) (let_in : ℕ → Bool) (v : View) (from : List RowPlan) (count nones x : ℕ) (p : RowPlan) → Filled t let_in v from count nones → IsAmong count from x p → IsPlanOf t x p
plan_at t let_in v from count nones x p f is =
    subst (λ (n : ℕ). IsPlanOf t n p) is.row_is
    (subst (IsDrawn t let_in) (sym is.plan) (f.drawn is.place p is.within)).plan

-- ---- seats

has_cases : (xs ys : List ℕ) (x : ℕ) → Has (xs ++ ys) x → Has ys x ⊎ ((times x ys ≡ 0) × Has xs x)
has_cases xs ys x h = go (times x ys) refl
  where
    go : (n : ℕ) → times x ys ≡ n → Has ys x ⊎ ((times x ys ≡ 0) × Has xs x)
    go zero e =
        let a = times-append x xs ys in
        inr (e, omega (arith, h, a, e))
    go (suc n) e = inl (omega (arith, e))

pub none_collected : (t : PlanTask) (let_in : ℕ → Bool) (limit n : ℕ) (v : View) (plans : List RowPlan) → v ≡ dealt_view limit n → Collected t let_in n 0 0 v plans
none_collected t let_in limit n v plans is = rw is (record {
  first = refl;
  splits_are = refl;
  seats_are = refl;
  tally_is = refl;
  planned = λ x d has. absurd (omega (arith, has));
  asked = λ x has. absurd (omega (arith, has));
  full = inr refl;
})

pub one_collected : (t : PlanTask) (let_in : ℕ → Bool) (n k held : ℕ) (v w : View) (old new from : List RowPlan) (count : ℕ) → Collected t let_in n k held v old
    → Worked t let_in w from count → Placed count from old new
    → Collected t let_in n (k + 1) (held + length from) (merged v w) new
one_collected t let_in n k held v w old new from count h worked put =
    let drawn : List ℕ = rows_in count from in
    rw worked.filled.view (record {
      first = rw h.first refl;
      splits_are = let a = h.splits_are in omega (arith, a);
      seats_are = let a = h.seats_are in omega (arith, a);
      tally_is =
          let a = h.tally_is in
          let b = sum_by-append (compared_in t) v.rows drawn in
          omega (arith, a, b);
      planned = λ x d has. elim (has_cases v.rows drawn x has) [
        | inl here ↦ plan_at t let_in w from count worked.nones x (get_or new x d) worked.filled (put.moved x d here)
        | inr there ↦ subst (IsPlanOf t x) (sym (put.others x d there.0)) (h.planned x d there.1)
      ];
      asked = λ x has. elim (has_cases v.rows drawn x has) [
        | inl here ↦ asked_of t let_in w from count worked.nones x worked.filled here
        | inr there ↦ h.asked x there.1
      ];
      full = elim worked.stopped [
        | inl all ↦ elim h.full [
          | inl some ↦ inl (omega (arith, some))
          | inr every ↦ inr (let a = length-append v.rows drawn in let b = length-rows count from worked.filled.room in let c = all.1 in omega (arith, every, a, b, c))
        ]
        | inr none ↦ inl (omega (arith, none))
      ];
    })

-- ---- room

pub room_more : (pools : List Pool) (i : ℕ) (d : Pool) → i < length pools
    → room_of (take (i + 1) pools) ≡ room_of (take i pools) + length (get_or pools i d).plans.items
room_more [] i d lt = absurd (omega (arith, lt))
room_more (p ∷ ps) zero d lt = omega arith
room_more (p ∷ ps) (suc i) d lt =
    let next : suc i + 1 ≡ suc (i + 1) = omega arith in
    let rest = room_more ps i d (omega (arith, lt)) in
    rw next (omega (arith, rest))

-- a pool that holds as many plans as the one in its place
pub room_put : (pools : List Pool) (i : ℕ) (p d : Pool) → length p.plans.items ≡ length (get_or pools i d).plans.items → room_of (set pools i p) ≡ room_of pools
room_put [] i p d e = refl
room_put (q ∷ qs) zero p d e = omega (arith, e)
room_put (q ∷ qs) (suc i) p d e = let rest = room_put qs i p d e in omega (arith, rest)

pub same_room : (xs ys : List Pool) → length ys ≡ length xs
    → ((i : ℕ) (d : Pool) → i < length xs → length (get_or ys i d).plans.items ≡ length (get_or xs i d).plans.items)
    → room_of ys ≡ room_of xs
same_room [] [] e h = refl
same_room [] (y ∷ ys) e h = absurd (omega (arith, e))
same_room (x ∷ xs) [] e h = absurd (omega (arith, e))
same_room (x ∷ xs) (y ∷ ys) e h =
    let here = h 0 x (omega arith) in
    let rest = same_room xs ys (omega (arith, e)) (λ i d lt. h (suc i) d (omega (arith, lt))) in
    omega (arith, here, rest)
