-- Pools that are made one after another.
use Rattle.std.proofs.Common.{◌≡◌, ◌∙◌, ◌<◌, ◌≤◌, ◌+◌, ◌*◌, ◌/◌, ◌%◌, ℕ, min, List, [], ◌∷◌, ◌++◌, length, ap, arith}
use Rattle.std.proofs.lemmas.Nat.{mul-le}
use Rattle.std.proofs.lemmas.Grind.{div_ceil_times}
use Rattle.plan_workers.specs.declared.pool.Pool.{Pool}
use Rattle.plan_workers.specs.Pools.{room_of}

room_append : (pools : List Pool) (p : Pool) → room_of (pools ++ p ∷ []) ≡ room_of pools + length p.plans.items
room_append [] p = omega arith
room_append (q ∷ qs) p = let rest = room_append qs p in omega (arith, rest)

-- one more pool of so many plans
pub room_next : (pools : List Pool) (p : Pool) (n count : ℕ) → room_of pools ≡ n * count → length p.plans.items ≡ count → room_of (pools ++ p ∷ []) ≡ (n + 1) * count
room_next pools p n count before long =
    let a = room_append pools p in
    let b : (n + 1) * count ≡ n * count + count = grind arith in
    omega (arith, a, b, before, long)

-- a share of the rows, rounded up
abbrev pub share : ℕ → ℕ → ℕ
share down used = down / used + min 1 (down % used)

-- twice a share, and one plan more, is no more than a pool may hold
pub count_fits : (down used : ℕ) → 2 ≤ used → used ≤ down → down ≤ 144 → 2 * share down used + 1 ≤ 289
count_fits down used two few small =
    let most = (div_ceil_times down used (omega (arith, two))).1 in
    let twice : share down used * 2 ≤ share down used * used = mul-le (share down used) 2 (share down used) used (omega arith) two in
    within (share down used) (share down used * used) most twice
  where
    within : (q p : ℕ) → p < down + used → q * 2 ≤ p → 2 * q + 1 ≤ 289
    within q p a b = omega (arith, a, b, few, small)

-- and so many of them are more than the rows
pub room_enough : (down used count : ℕ) → 2 ≤ used → count ≡ 2 * share down used + 1 → down < used * count
room_enough down used count two is =
    let least = (div_ceil_times down used (omega (arith, two))).0 in
    let all : used * (2 * share down used + 1) ≡ 2 * (share down used * used) + used = grind arith in
    more (share down used * used) (used * count) (ap (λ (n : ℕ). used * n) is ∙ all) least
  where
    more : (p q : ℕ) → q ≡ 2 * p + used → down ≤ p → down < q
    more p q e h = omega (arith, e, h, two)
