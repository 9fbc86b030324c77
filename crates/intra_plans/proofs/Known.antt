-- The best mode is one of the modes.
use Rattle.std.proofs.Common.{◌≡◌, ◌≤◌, ◌+◌, ◌-◌, ℕ, zero, suc, Bool, true, false, cond, nat_lt, sym, subst, add-one, arith}
use Rattle.enc_tables.specs.Choice.{lesser}
use Rattle.spec_choice.specs.declared.ModeCost.{ModeCost}
use Rattle.spec_choice.specs.Modes.{best_mode, with_cost, cost_of_mode}
use Rattle.intra_plans.proofs.Leasts.{best_none, best_more}

picked : (t : Bool) (a b : ModeCost) (n : ℕ) → a.mode ≤ n → b.mode ≤ n → (cond t a b).mode ≤ n
picked true a b n h k = h
picked false a b n h k = k

lesser_known : (a b : ModeCost) (n : ℕ) → a.mode ≤ n → b.mode ≤ n → (lesser cost_of_mode a b).mode ≤ n
unfolding lesser
lesser_known a b n h k = picked (nat_lt b.cost a.cost) b a n k h

known_next : (t : Bool) (a b : ModeCost) (n : ℕ) → a.mode ≤ n → b.mode ≤ n → (cond t (lesser cost_of_mode a b) a).mode ≤ n
known_next t a b n h k = picked t (lesser cost_of_mode a b) a n (lesser_known a b n h k) h

-- of n modes it is at most n - 1
pub mode_known : (n : ℕ) (p : ℕ → Bool) (c : ℕ → ℕ) → (best_mode n p c).mode ≤ n - 1
mode_known zero p c =
    let P : ModeCost → Type 0 = λ m. m.mode ≤ 0 in
    subst P (best_none p c) (omega arith)
mode_known (suc n) p c =
    let P : ModeCost → Type 0 = λ m. m.mode ≤ n in
    let before = mode_known n p c in
    let next : (cond (p n) (lesser cost_of_mode (best_mode n p c) (with_cost c n)) (best_mode n p c)).mode ≤ n =
    known_next (p n) (best_mode n p c) (with_cost c n) n (omega arith) (omega arith) in
    let here : (best_mode (n + 1) p c).mode ≤ n = subst P (sym (best_more n p c)) next in
    let e : n + 1 ≡ suc n = add-one n in
    let Q : ℕ → Type 0 = λ k. (best_mode k p c).mode ≤ n in
    let there : (best_mode (suc n) p c).mode ≤ n = subst Q e here in
    omega arith
