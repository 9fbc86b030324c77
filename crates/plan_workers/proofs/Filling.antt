-- One more row that a thread has planned.
use Rattle.std.proofs.Common.{◌≡◌, ◌∙◌, ◌<◌, ◌≤◌, ◌+◌, ◌⊎◌, inl, inr, ℕ, Bool, IsTrue, List, [], ◌∷◌, ◌++◌, length, map, take, set, get_or, refl, sym, ap, subst, arith}
use Rattle.std.proofs.lemmas.Bool.{cases_lt}
use Rattle.std.proofs.lemmas.List.{length-set, map-append, take_more_set, get_or-set_same, get_or-set_other}
use Rattle.std.proofs.lemmas.List.Sums.{sum_by-append}
use Rattle.std.specs.List.{sum_by}
use Rattle.enc_tables.specs.declared.plans.RowPlan.{RowPlan}
use Rattle.row_desk.specs.declared.view.View.{View}
use Rattle.row_desk.specs.Views.{after_tally}
use Rattle.plan_workers.specs.declared.task.PlanTask.{PlanTask}
use Rattle.plan_workers.specs.Tasks.{compared_in}
use Rattle.plan_workers.specs.Drawn.{Filled, IsDrawn, IsPlanOf, begun, rows_in}

pub rows_put : (plans : List RowPlan) (count : ℕ) (p : RowPlan) → count < length plans → rows_in (count + 1) (set plans count p) ≡ rows_in count plans ++ p.row ∷ []
rows_put plans count p lt = ap (map (λ (q : RowPlan). q.row)) (take_more_set plans count p lt) ∙ map-append (λ (q : RowPlan). q.row) (take count plans) (p ∷ [])

sum_more : (f : ℕ → ℕ) (xs : List ℕ) (x : ℕ) → sum_by f xs + f x ≡ sum_by f (xs ++ x ∷ [])
sum_more f xs x = let a : sum_by f (xs ++ x ∷ []) ≡ sum_by f xs + (0 + f x) = sum_by-append f xs (x ∷ []) in omega (arith, a)

drawn_of : (t : PlanTask) (let_in : ℕ → Bool) (row : ℕ) (p : RowPlan) → p.row ≡ row → row < t.down → IsPlanOf t row p → IsTrue (let_in row) → IsDrawn t let_in p
drawn_of t let_in row p e lt is asked = record {
  below = omega (arith, e, lt);
  plan = subst (λ (n : ℕ). IsPlanOf t n p) (sym e) is;
  asked = subst (λ (n : ℕ). IsTrue (let_in n)) (sym e) asked;
}

view_more : (t : PlanTask) (v drew told : View) (rows more : List ℕ) (row : ℕ) → more ≡ rows ++ row ∷ []
    → v ≡ record (begun t.down) { rows = rows; nones = 0; tally = sum_by (compared_in t) rows }
    → drew ≡ record v { rows = v.rows ++ row ∷ [] } → told ≡ after_tally drew (compared_in t row)
    → told ≡ record (begun t.down) { rows = more; nones = 0; tally = sum_by (compared_in t) more }
view_more t v drew told rows more row e is drawn tallied =
    tallied
    ∙ ap (λ (u : View). after_tally u (compared_in t row)) (drawn ∙ ap (λ (u : View). record u { rows = u.rows ++ row ∷ [] }) is)
    ∙ (λ i. record (begun t.down) { rows = rows ++ row ∷ []; nones = 0; tally = sum_more (compared_in t) rows row i })
    ∙ ap (λ (ys : List ℕ). record (begun t.down) { rows = ys; nones = 0; tally = sum_by (compared_in t) ys }) (sym e)

pub none_filled : (t : PlanTask) (let_in : ℕ → Bool) (v : View) (plans : List RowPlan) → v ≡ begun t.down → Filled t let_in v plans 0 0
none_filled t let_in v plans is = record {
  room = omega arith;
  drawn = λ k d lt. absurd (omega (arith, lt));
  view = is;
}

pub one_filled : (t : PlanTask) (let_in : ℕ → Bool) (v drew told : View) (plans : List RowPlan) (count row : ℕ) (p : RowPlan) → Filled t let_in v plans count 0
    → count < length plans → row < t.down → p.row ≡ row → IsPlanOf t row p → IsTrue (let_in row)
    → drew ≡ record v { rows = v.rows ++ row ∷ [] } → told ≡ after_tally drew (compared_in t row)
    → Filled t let_in told (set plans count p) (count + 1) 0
one_filled t let_in v drew told plans count row p before lt below e is asked drawn tallied = record {
  room = let long = length-set plans count p in omega (arith, lt, long);
  drawn = λ k d inside. by k d inside (cases_lt k count);
  view = view_more t v drew told (rows_in count plans) (rows_in (count + 1) (set plans count p)) row
      (rows_put plans count p lt ∙ ap (λ (n : ℕ). rows_in count plans ++ n ∷ []) e) before.view drawn tallied;
}
  where
    by : (k : ℕ) (d : RowPlan) → k < count + 1 → (k < count) ⊎ (count ≤ k) → IsDrawn t let_in (get_or (set plans count p) k d)
    by k d inside (inl l) = subst (IsDrawn t let_in) (sym (get_or-set_other plans count k p d (omega (arith, l)))) (before.drawn k d l)
    by k d inside (inr m) =
        let same : count ≡ k = omega (arith, inside, m) in
        subst (λ (n : ℕ). IsDrawn t let_in (get_or (set plans count p) n d)) same
        (subst (IsDrawn t let_in) (sym (get_or-set_same plans count p d lt)) (drawn_of t let_in row p e below is asked))

-- a draw that found none
pub none_drawn : (t : PlanTask) (let_in : ℕ → Bool) (v drew : View) (plans : List RowPlan) (count : ℕ) → Filled t let_in v plans count 0
    → drew ≡ record v { nones = v.nones + 1 } → Filled t let_in drew plans count 1
none_drawn t let_in v drew plans count before drawn = record {
  room = before.room;
  drawn = before.drawn;
  view = drawn ∙ ap (λ (u : View). record u { nones = u.nones + 1 }) before.view;
}
