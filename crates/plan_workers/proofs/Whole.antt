-- All rows were drawn, and their numbers add up as those of one thread.
use Rattle.std.proofs.Common.{◌≡◌, ◌∙◌, ◌<◌, ◌≤◌, ◌+◌, ◌*◌, ◌^◌, ◌==◌, ℕ, Bool, IsTrue, zero, suc, true, false, sym, refl, ap, subst, arith, List, [], ◌∷◌, inl, inr, ◌⊎◌, length, get_or}
use Rattle.std.specs.Prelude.{if◌then◌else◌}
use Rattle.std.specs.List.{sum_by}
use Rattle.std.proofs.lemmas.List.Sums.{sum_by-cons}
use Rattle.enc_tables.specs.declared.plans.RowPlan.{RowPlan}
use Rattle.row_desk.specs.declared.view.View.{View}
use Rattle.row_desk.specs.Rule.{once_below, times}
use Rattle.row_desk.specs.Desks.{Drew, HasAll}
use Rattle.spec_inter_plans.specs.InterPlans.{Search, picture_compared, row_compared}
use Rattle.mode_choice.specs.Given.{used}
use Rattle.picture_plans.specs.Planned.{row_at, RowsPlanned, SlicesPlanned}
use Rattle.picture_plans.proofs.Sharing.{row_inside}
use Rattle.picture_planes.specs.Pictures.{planes_of}
use Rattle.picture_plans.proofs.Counting.{rows_more, rows_none, rows_small, search_bounded}
use Rattle.plan_workers.specs.declared.task.PlanTask.{PlanTask}
use Rattle.plan_workers.specs.Tasks.{IsTask, compared_in, search_in}
use Rattle.plan_workers.specs.Drawn.{Has, IsPlanOf}
use Rattle.plan_workers.specs.Pools.{Collected}

-- ---- a list that has each number below n once

without : ℕ → List ℕ → List ℕ
without m [] = []
without m (y ∷ ys) = if m == y then ys else (y ∷ without m ys)

record Without (f : ℕ → ℕ) (m : ℕ) (xs : List ℕ) : Type 0 where
  rest : List ℕ
  sum : sum_by f xs ≡ f m + sum_by f rest
  counts : (x : ℕ) → times x rest + (if x == m then 1 else 0) ≡ times x xs

take_out : (f : ℕ → ℕ) (m : ℕ) (xs : List ℕ) → 0 < times m xs → Without f m xs
take_out f m [] has = absurd (omega (arith, has))
take_out f m (y ∷ ys) has = go (m == y) refl has (λ more. take_out f m ys more)
  where
    go : (b : Bool) → (m == y) ≡ b → 0 < (if m == y then 1 else 0) + times m ys → (0 < times m ys → Without f m ys) → Without f m (y ∷ ys)
    go true t h out =
        let same : m ≡ y = grind arith in
        record {
          rest = ys;
          sum = sum_by-cons f y ys ∙ ap (λ (n : ℕ). f n + sum_by f ys) (sym same);
          counts = λ x. rw same (omega arith);
        }
    go false t h out =
        let more : 0 < 0 + times m ys = rw t at h in
        let r = out (omega (arith, more)) in
        record {
          rest = y ∷ r.rest;
          sum =
              let a = r.sum in
              let b = sum_by-cons f y ys in
              let c = sum_by-cons f y r.rest in
              omega (arith, a, b, c);
          counts = λ x. let a = r.counts x in omega (arith, a);
        }

-- it adds up as they do
once_sum : (f g : ℕ → ℕ) → g 0 ≡ 0 → ((n : ℕ) → g n + f n ≡ g (n + 1)) → (n : ℕ) (xs : List ℕ) → ((x : ℕ) → times x xs ≡ once_below x n) → sum_by f xs ≡ g n
once_sum f g none more zero [] h = sym none
once_sum f g none more zero (y ∷ ys) h =
    let a = h y in
    let b : once_below y 0 ≡ 0 = grind arith in
    let c : times y (y ∷ ys) ≡ 1 + times y ys = grind arith in
    absurd (omega (arith, a, b, c))
once_sum f g none more (suc m) xs h =
    let a = h m in
    let b : once_below m (suc m) ≡ 1 = grind arith in
    let out = take_out f m xs (omega (arith, a, b)) in
    let rest = once_sum f g none more m out.rest (λ x.
    let c = out.counts x in
    let d = h x in
    let e : once_below x (suc m) ≡ once_below x m + (if x == m then 1 else 0) = grind arith in
    omega (arith, c, d, e)) in
    let s = out.sum in
    let next : g m + f m ≡ g (suc m) = more m ∙ ap g (omega arith) in
    omega (arith, rest, s, next)

-- ---- what the caller has once the threads are joined

pub record IsWhole (t : PlanTask) (let_in : ℕ → Bool) (total : ℕ) (plans : List RowPlan) : Type 0 where
  pub planned : (x : ℕ) (d : RowPlan) → x < t.down → IsPlanOf t x (get_or plans x d)
  pub asked : (x : ℕ) → x < t.down → IsTrue (let_in x)
  pub total_is : total ≡ picture_compared (used t.kind (search_in t)) t.down

pub whole : (t : PlanTask) (let_in : ℕ → Bool) (limit drawn total n held : ℕ) (v : View) (plans : List RowPlan) → limit ≡ t.down → Collected t let_in n n held v plans
    → (HasAll v → Drew limit drawn v × (total ≡ v.tally)) → drawn ≤ limit → limit < held → IsWhole t let_in total plans
whole t let_in limit drawn total n held v plans is h closed few roomy = record {
  planned = λ x d lt. h.planned x d (has x (omega (arith, is, lt)));
  asked = λ x lt. h.asked x (has x (omega (arith, is, lt)));
  total_is =
      told.1
      ∙ h.tally_is
      ∙ once_sum (compared_in t) (picture_compared (used t.kind (search_in t))) (rows_none (used t.kind (search_in t))) (rows_more (used t.kind (search_in t))) limit v.rows once
      ∙ ap (picture_compared (used t.kind (search_in t))) is;
}
  where
    told : Drew limit drawn v × (total ≡ v.tally)
    told = closed (h.first, h.seats_are ∙ ap (λ (k : ℕ). k + 1) (sym h.splits_are))

    all : drawn ≡ limit
    all = elim h.full [
      | inl some ↦ told.0.whole some
      | inr full ↦ (let a = told.0.count in absurd (omega (arith, a, full, few, roomy)))
    ]

    once : (x : ℕ) → times x v.rows ≡ once_below x limit
    once x = told.0.once x ∙ ap (once_below x) all

    has : (x : ℕ) → x < limit → Has v.rows x
    has x lt = let a = once x in let b : once_below x limit ≡ 1 = grind arith in omega (arith, a, b)

-- each row is planned as a row of its slice
pub slices_planned : (t : PlanTask) (plans : List RowPlan) → 0 < t.slices → ((x : ℕ) (d : RowPlan) → x < t.down → IsPlanOf t x (get_or plans x d))
    → SlicesPlanned t.kind (search_in t) t.slices t.down t.t8x8 t.slices plans
slices_planned t plans some planned k less r d from to =
    let last : row_at t.slices t.down (k + 1) ≤ t.down = row_inside (k + 1) t.down t.slices (omega (arith, less)) in
    (planned r d (omega (arith, to, last))).in_slice k less from to

-- there are not too many vectors for a picture
pub total_small : (t : PlanTask) → IsTask t → (length t.lists.now.list0.items ≤ 4) × (length t.lists.now.list1.items ≤ 4) → picture_compared (used t.kind (search_in t)) t.down ≤ 2 ^ 34
total_small t is short =
    let most = rows_small (used t.kind (search_in t)) t.down (search_bounded t.source.now.y t.kind t.lists.now (planes_of t.source.now) t.range is.range_fits.1 short is.inside) in
    let down = is.down_fits in
    omega (arith, most, down)
