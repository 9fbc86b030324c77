-- The least of one mode more.
use Rattle.std.proofs.Common.{◌≡◌, ℕ, ◌+◌, ◌++◌, Bool, true, false, List, [], ◌∷◌, map, cond, refl, ap, ◌∙◌, arith, append-nil}
use Rattle.std.specs.List.{range_with_len, filter}
use Rattle.std.proofs.lemmas.List.FromFn.{filter_of_map_range_with_len_more}
use Rattle.enc_tables.specs.Choice.{lesser, first_least}
use Rattle.spec_choice.specs.declared.ModeCost.{ModeCost}
use Rattle.spec_choice.specs.Modes.{best_mode, allowed_modes, with_cost, above_all, cost_of_mode}

least_append : (b : ModeCost) (xs ys : List ModeCost) → first_least cost_of_mode b (xs ++ ys) ≡ first_least cost_of_mode (first_least cost_of_mode b xs) ys
least_append b [] ys = refl
least_append b (x ∷ xs) ys = least_append (lesser cost_of_mode b x) xs ys

least_next : (xs : List ModeCost) (m : ModeCost) (is : Bool)
    → first_least cost_of_mode above_all (xs ++ cond is (m ∷ []) []) ≡ cond is (lesser cost_of_mode (first_least cost_of_mode above_all xs) m) (first_least cost_of_mode above_all xs)
least_next xs m true = least_append above_all xs (m ∷ [])
least_next xs m false = ap (λ (l : List ModeCost). first_least cost_of_mode above_all l) (append-nil xs)

pub best_more : (n : ℕ) (p : ℕ → Bool) (c : ℕ → ℕ) → best_mode (n + 1) p c ≡ cond (p n) (lesser cost_of_mode (best_mode n p c) (with_cost c n)) (best_mode n p c)
unfolding best_mode allowed_modes
best_more n p c =
    ap (λ (l : List ModeCost). first_least cost_of_mode above_all l)
    (filter_of_map_range_with_len_more (λ (m : ModeCost). p m.mode) (with_cost c) 0 n n (omega arith))
    ∙ least_next (filter (λ (m : ModeCost). p m.mode) (map (with_cost c) (range_with_len 0 n))) (with_cost c n) (p n)

pub best_none : (p : ℕ → Bool) (c : ℕ → ℕ) → above_all ≡ best_mode 0 p c
unfolding best_mode allowed_modes
best_none p c = refl
