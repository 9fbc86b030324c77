use Rattle.std.proofs.Common.{◌≡◌, ◌≤◌, ◌<◌, ◌+◌, ℕ, true, Bool, cond, inl, inr, sym, ap, ◌∙◌, arith}
use Rattle.std.proofs.lemmas.Bool.{cases_lt}
use Rattle.enc_tables.specs.Choice.{lesser}
use Rattle.spec_choice.specs.declared.ModeCost.{ModeCost}
use Rattle.spec_choice.specs.Modes.{cost_of_mode, with_cost}
use Rattle.intra_plans.proofs.Leasts.{best_none, best_more}
use Rattle.intra_plans.proofs.modes.least.Goals as goal

pub loop-mode-init : goal.loop-mode-init
loop-mode-init g c = record {
  value = best_none (g.C.Costs.allowed_at c.args.costs.now) (g.C.Costs.cost_at c.args.costs.now);
  small = λ m h t. absurd (omega arith);
}

small_more : (p : ℕ → Bool) (n before after bound : ℕ) → after ≤ before → (p n ≡ true → after ≤ bound) → ((m : ℕ) → m < n → p m ≡ true → before ≤ bound)
    → (m : ℕ) → m < n + 1 → p m ≡ true → after ≤ bound
small_more p n before after bound most here done m h t = elim (cases_lt m n) [
  | inl l ↦ (let k = done m l t in omega arith)
  | inr g ↦ (let e : m ≡ n = omega arith in here (ap p (sym e) ∙ t))
]

pub loop-mode-preserved : goal.loop-mode-preserved
loop-mode-preserved g c =
    let p = g.C.Costs.allowed_at c.args.costs.now in
    let f = g.C.Costs.cost_at c.args.costs.now in
    let n = c.loop-mode.mode in
    record {
      value = c.tried-best.ensures.value
          ∙ ap (λ (b : ModeCost). cond (p n) (lesser cost_of_mode b (with_cost f n)) b) c.loop-mode.invariant.value
          ∙ sym (best_more n p f);
      small = small_more p n c.loop-mode.best.cost c.tried-best.result.cost (g.C.Costs.bound c.args.costs.now) c.tried-best.ensures.most c.tried-best.ensures.small c.loop-mode.invariant.small;
    }
