use Rattle.std.proofs.Common.{◌≡◌, ◌≤◌, ◌<◌, ℕ, true}
use Rattle.spec_choice.specs.Modes.{best_mode}
use Rattle.intra_plans.proofs.modes.least.Given as goal

abbrev pub invariant-loop-mode : goal.invariant-loop-mode
invariant-loop-mode g l = record {
  value : l.best ≡ best_mode l.mode (g.C.Costs.allowed_at l.costs) (g.C.Costs.cost_at l.costs);
  small : (m : ℕ) → m < l.mode → g.C.Costs.allowed_at l.costs m ≡ true → l.best.cost ≤ g.C.Costs.bound l.costs;
}
