-- One more plan at the place of its row.
use Rattle.std.proofs.Common.{◌≡◌, ◌∙◌, ◌<◌, ◌≤◌, ◌+◌, ◌==◌, ℕ, Bool, true, false, refl, sym, ap, subst, arith, List, [], ◌∷◌, ◌++◌, length, map, take, set, get_or}
use Rattle.std.specs.Prelude.{◌≢◌}
use Rattle.std.proofs.lemmas.List.{map-append, take_more, get_or-set_same, get_or-set_other, get_or_default}
use Rattle.enc_tables.specs.declared.plans.RowPlan.{RowPlan}
use Rattle.row_desk.specs.Rule.{times}
use Rattle.row_desk.proofs.Totals.{times-append}
use Rattle.plan_workers.specs.Drawn.{Has, rows_in}
use Rattle.plan_workers.specs.Pools.{IsAmong, Placed}

pub rows_next : (from : List RowPlan) (k : ℕ) (d : RowPlan) → k < length from → rows_in (k + 1) from ≡ rows_in k from ++ (get_or from k d).row ∷ []
rows_next from k d lt = ap (map (λ (q : RowPlan). q.row)) (take_more from k d lt) ∙ map-append (λ (q : RowPlan). q.row) (take k from) (get_or from k d ∷ [])

pub none_placed : (from plans : List RowPlan) → Placed 0 from plans plans
none_placed from plans = record {
  moved = λ x d has. absurd (omega (arith, has));
  others = λ x d none. refl;
}

among_more : (k x : ℕ) (from : List RowPlan) (q : RowPlan) → IsAmong k from x q → IsAmong (k + 1) from x q
among_more k x from q is = record {
  place = is.place;
  within = let w = is.within in omega (arith, w);
  plan = is.plan;
  row_is = is.row_is;
}

pub one_placed : (k : ℕ) (from old plans : List RowPlan) (p : RowPlan) → k < length from → Placed k from old plans → p ≡ get_or from k p → p.row < length plans
    → Placed (k + 1) from old (set plans p.row p)
one_placed k from old plans p lt before is room = record {
  moved = λ x d has. here x d (x == p.row) refl (subst (λ (rows : List ℕ). Has rows x) rows has);
  others = λ x d none. there x d (x == p.row) refl (subst (λ (rows : List ℕ). times x rows ≡ 0) rows none);
}
  where
    rows : rows_in (k + 1) from ≡ rows_in k from ++ p.row ∷ []
    rows = rows_next from k p lt ∙ ap (λ (q : RowPlan). rows_in k from ++ q.row ∷ []) (sym is)

    here : (x : ℕ) (d : RowPlan) (b : Bool) → (x == p.row) ≡ b → Has (rows_in k from ++ p.row ∷ []) x → IsAmong (k + 1) from x (get_or (set plans p.row p) x d)
    here x d true t has =
        let same : p.row ≡ x = grind arith in
        let put : get_or (set plans p.row p) x d ≡ p = ap (λ (n : ℕ). get_or (set plans p.row p) n d) (sym same) ∙ get_or-set_same plans p.row p d room in
        subst (IsAmong (k + 1) from x) (sym put) (record { place = k; within = omega arith; plan = is; row_is = same })
    here x d false t has =
        let apart : x ≢ p.row = grind arith in
        let a = times-append x (rows_in k from) (p.row ∷ []) in
        let b : times x (p.row ∷ []) ≡ 0 = rw t refl in
        let old_has : Has (rows_in k from) x = omega (arith, has, a, b) in
        subst (IsAmong (k + 1) from x) (sym (get_or-set_other plans p.row x p d apart)) (among_more k x from (get_or plans x d) (before.moved x d old_has))

    there : (x : ℕ) (d : RowPlan) (b : Bool) → (x == p.row) ≡ b → times x (rows_in k from ++ p.row ∷ []) ≡ 0 → get_or (set plans p.row p) x d ≡ get_or old x d
    there x d true t none =
        let a = times-append x (rows_in k from) (p.row ∷ []) in
        let b : times x (p.row ∷ []) ≡ 1 = rw t refl in
        absurd (omega (arith, none, a, b))
    there x d false t none =
        let apart : x ≢ p.row = grind arith in
        let a = times-append x (rows_in k from) (p.row ∷ []) in
        get_or-set_other plans p.row x p d apart ∙ before.others x d (omega (arith, none, a))

-- One more plan, that stands in its place with what was read there: the row is that which was read.
pub placed_next : (k row : ℕ) (from old now plans : List RowPlan) (d e p : RowPlan) → k < length from → k < length now → row < length plans → Placed k from old plans
    → ((j : ℕ) (b : RowPlan) → k ≤ j → get_or now j b ≡ get_or from j b) → row ≡ (get_or now k d).row → p ≡ get_or now k e → Placed (k + 1) from old (set plans row p)
placed_next k row from old now plans d e p lt here there before later row_is is =
    let same : p ≡ get_or now k p = is ∙ get_or_default now k e p here in
    let first : p ≡ get_or from k p = same ∙ later k p (omega arith) in
    let own : p.row ≡ row = ap (λ (q : RowPlan). q.row) (is ∙ get_or_default now k e d here) ∙ sym row_is in
    let room : p.row < length plans = omega (arith, own, there) in
    subst (λ (n : ℕ). Placed (k + 1) from old (set plans n p)) own (one_placed k from old plans p lt before first room)
