-- The B pictures of a group, one after another.
use Rattle.std.proofs.Common.{ℕ, zero, suc, ◌+◌, ◌-◌, ◌%◌, ◌≡◌, ◌<◌, ◌≤◌, false, List, [], ◌∷◌, ◌++◌, refl, sym, ap, ◌∙◌, arith, append_assoc}
use Rattle.std.proofs.lemmas.List.{append-nil}
use Rattle.std.proofs.lemmas.Bool.Decides.{nat_tests}
use Rattle.std.specs.Prelude.{◌==◌, if◌then◌else◌}
use Rattle.enc_tables.specs.declared.records.PlanStep.{PlanStep}
use Rattle.spec_plan.specs.Plan.{idr_step, p_step, b_step, b_steps, group}

-- one of those that are left is put behind those that were
one_more : (idr number place k : ℕ) (xs : List PlanStep) → (xs ++ b_step idr place number ∷ []) ++ b_steps idr (place + 1) number k ≡ xs ++ b_steps idr place number (suc k)
unfolding b_steps
one_more idr number place k xs = append_assoc xs (b_step idr place number ∷ []) (b_steps idr (place + 1) number k)

pub next : (idr number place end : ℕ) (xs : List PlanStep) → place < end → (xs ++ b_step idr place number ∷ []) ++ b_steps idr (place + 1) number (end - (place + 1)) ≡ xs ++ b_steps idr place number (end - place)
next idr number place end xs less =
    let e : suc (end - (place + 1)) ≡ end - place = omega (arith, less) in
    one_more idr number place (end - (place + 1)) xs ∙ ap (λ k. xs ++ b_steps idr place number k) e

pub none_left : (idr number place end : ℕ) (xs ys : List PlanStep) → end ≤ place → xs ++ b_steps idr place number (end - place) ≡ ys → xs ≡ ys
unfolding b_steps
none_left idr number place end xs ys more e =
    let z : end - place ≡ 0 = omega (arith, more) in
    sym (append-nil xs) ∙ ap (λ k. xs ++ b_steps idr place number k) (sym z) ∙ e

not_zero : (n : ℕ) → (n ≡ 0 → ⊥) → (n == 0) ≡ false
not_zero zero h = absurd (h refl)
not_zero (suc n) h = grind (arith, nat_tests)

pub between : (display got idr number : ℕ) → (display % idr ≡ 0 → ⊥) → p_step idr (display + (got - 1)) number ∷ b_steps idr display number (got - 1) ≡ group display got idr number
unfolding group
between display got idr number h =
    ap (λ b. if b then idr_step display ∷ [] else p_step idr (display + (got - 1)) number ∷ b_steps idr display number (got - 1)) (sym (not_zero (display % idr) h))
