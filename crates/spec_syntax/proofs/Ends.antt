-- Every value that a reader gives is in its range.
use Rattle.std.proofs.Common.{◌≡◌, ℕ, zero, suc, ◌+◌, ◌^◌, ◌<◌, ◌≤◌, Bool, true, false, List, [], ◌∷◌, refl, subst, arith, cond, replicate}
use Rattle.std.specs.Prelude.{nat_lt, nat_abs, ◌==◌, ℤ, pos, negsuc}
use Rattle.std.specs.List.{AllByRecursion}
use borrow.Author.Tests.{ltb-true}
use Rattle.spec_syntax.specs.declared.Bin.{Bin}
use Rattle.spec_syntax.specs.Syntax.{Syntax, done, nothing, ask, take, ◌>>=◌, bin, Walks, Reads}
use Rattle.spec_syntax.specs.Numbers.{ones, number, golomb, prefix}
use Rattle.spec_syntax.specs.Levels.{first_at, others_at, minus1}
use Rattle.spec_syntax.specs.Blocks.{IsLevel, above_one, equal_one, signed, significance, levels, block, some_levels}
use Rattle.spec_syntax.specs.Inter.{IsDifference, with_sign, mvd, mvd_at}
use Rattle.spec_syntax.proofs.Numbers.{doubled}

-- whatever the bins are, the value is such a one
abbrev pub Gives : {A : Type 0} → (A → Type 0) → Syntax A → Type 0
Gives P (done a) = P a
Gives P nothing = Unit {0}
Gives P (ask c next) = (b : Bool) → Gives P (next b)
Gives P (take next) = Unit {0}

walks_give : {A : Type 0} (P : A → Type 0) (s : Syntax A) (bins : List Bin) (v : A) → Gives P s → Walks s bins v → P v
walks_give P (done a) [] v g w = subst P w g
walks_give P (done a) (b ∷ bins) v g w = absurd w
walks_give P nothing bins v g w = absurd w
walks_give P (take next) bins v g w = absurd w
walks_give P (ask c next) [] v g w = absurd w
walks_give P (ask c next) (b ∷ bins) v g w = walks_give P (next b.bit) bins v (g b.bit) w.1

pub reads_give : {A : Type 0} (P : A → Type 0) (s : Syntax A) (bins : List Bin) (v : A) → Gives P s → Reads s bins v → P v
reads_give P s bins v g r = walks_give P s bins v g r.walk

-- one reader after another
gives_then : {A B : Type 0} (P : A → Type 0) (Q : B → Type 0) (s : Syntax A) (f : A → Syntax B) → Gives P s → ((a : A) → P a → Gives Q (f a)) → Gives Q (s >>= f)
gives_then P Q (done a) f g h = h a g
gives_then P Q nothing f g h = tt
gives_then P Q (take next) f g h = tt
gives_then P Q (ask c next) f g h = λ b. gives_then P Q (next b) f (g b) h

-- the next reader by the bin
by_bin : {A : Type 0} (P : A → Type 0) (next : Bool → Syntax A) → Gives P (next true) → Gives P (next false) → (b : Bool) → Gives P (next b)
by_bin P next g h true = g
by_bin P next g h false = h

-- ---- numbers

ones_give : (c n : ℕ) → Gives (λ k. k ≤ n) (ones c n)
unfolding ones
ones_give c zero = omega arith
ones_give c (suc n) = by_bin (λ k. k ≤ suc n) (λ b. elim b [ false ↦ done 0 | true ↦ ones c n >>= λ k. done (suc k) ])
    (gives_then (λ k. k ≤ n) (λ k. k ≤ suc n) (ones c n) (λ k. done (suc k)) (ones_give c n) (λ k h. omega (arith, h))) (omega arith)

prefix_gives : (ctx : ℕ → ℕ) (i n : ℕ) → Gives (λ k. k ≤ n) (prefix ctx i n)
unfolding prefix
prefix_gives ctx i zero = omega arith
prefix_gives ctx i (suc n) = by_bin (λ k. k ≤ suc n) (λ b. elim b [ false ↦ done 0 | true ↦ prefix ctx (suc i) n >>= λ k. done (suc k) ])
    (gives_then (λ k. k ≤ n) (λ k. k ≤ suc n) (prefix ctx (suc i) n) (λ k. done (suc k)) (prefix_gives ctx (suc i) n) (λ k h. omega (arith, h))) (omega arith)

number_gives : (n : ℕ) → Gives (λ v. v < 2 ^ n) (number n)
unfolding number
number_gives zero = omega arith
number_gives (suc n) = by_bin (λ v. v < 2 ^ suc n) (λ b. number n >>= λ v. done (elim b [ true ↦ 2 ^ n + v | false ↦ v ]))
    (gives_then (λ v. v < 2 ^ n) (λ v. v < 2 ^ suc n) (number n) (λ v. done (2 ^ n + v)) (number_gives n) (λ v h. omega (arith, h, doubled n)))
    (gives_then (λ v. v < 2 ^ n) (λ v. v < 2 ^ suc n) (number n) (λ v. done v) (number_gives n) (λ v h. omega (arith, h, doubled n)))

longer : (k n : ℕ) → 2 ^ k ≤ 2 ^ (k + n)
longer k zero = let e : k + 0 ≡ k = omega arith in rw e (omega arith)
longer k (suc n) = let e : k + suc n ≡ suc (k + n) = omega arith in rw e (omega (arith, longer k n, doubled (k + n)))

weaker : (k most : ℕ) (s : Syntax ℕ) → ((v : ℕ) → v < 2 ^ k → v + 2 ^ k < most) → Gives (λ v. v < 2 ^ k) s → Gives (λ v. v + 2 ^ k < most) s
weaker k most (done v) h g = h v g
weaker k most nothing h g = tt
weaker k most (take next) h g = tt
weaker k most (ask c next) h g = λ b. weaker k most (next b) h (g b)

golomb_gives : (n k : ℕ) → Gives (λ v. v + 2 ^ k < 2 ^ (k + n)) (golomb n k)
unfolding golomb
golomb_gives zero k = tt
golomb_gives (suc n) k =
    let same : k + suc n ≡ suc k + n = omega arith in
    by_bin (λ v. v + 2 ^ k < 2 ^ (k + suc n)) (λ b. elim b [ false ↦ number k | true ↦ golomb n (suc k) >>= λ v. done (2 ^ k + v) ])
    (gives_then (λ v. v + 2 ^ suc k < 2 ^ (suc k + n)) (λ v. v + 2 ^ k < 2 ^ (k + suc n)) (golomb n (suc k)) (λ v. done (2 ^ k + v)) (golomb_gives n (suc k)) (λ v h. rw same (omega (arith, h, doubled k))))
    (weaker k (2 ^ (k + suc n)) (number k) (λ v h. rw same (omega (arith, h, doubled k, longer (suc k) n))) (number_gives k))

-- ---- levels

high_give : (v : ℕ) → Gives (λ m. m ≤ 8190) (cond (nat_lt v 8177) (done (14 + v)) nothing)
high_give v = go (nat_lt v 8177) refl
  where
    go : (b : Bool) → nat_lt v 8177 ≡ b → Gives (λ m. m ≤ 8190) (cond b (done (14 + v)) nothing)
    go true e = let small = ltb-true v 8177 e in omega arith
    go false e = tt

any_give : {A : Type 0} (s : Syntax A) → Gives (λ v. Unit {0}) s
any_give (done a) = tt
any_give nothing = tt
any_give (take next) = tt
any_give (ask c next) = λ b. any_give (next b)

pub minus1_gives : (first others : ℕ) → Gives (λ m. m ≤ 8190) (minus1 first others)
unfolding minus1
minus1_gives first others = by_bin (λ m. m ≤ 8190)
    (λ b. elim b [ false ↦ done 0 | true ↦ ones others 13 >>= λ k. cond (k == 13) (golomb 13 0 >>= λ v. cond (nat_lt v 8177) (done (14 + v)) nothing) (done (suc k)) ])
    (gives_then (λ k. k ≤ 13) (λ m. m ≤ 8190) (ones others 13) (λ k. cond (k == 13) (golomb 13 0 >>= λ v. cond (nat_lt v 8177) (done (14 + v)) nothing) (done (suc k))) (ones_give others 13) (λ k h. go (k == 13) k h))
    (omega arith)
  where
    go : (b : Bool) (k : ℕ) → k ≤ 13 → Gives (λ m. m ≤ 8190) (cond b (golomb 13 0 >>= λ v. cond (nat_lt v 8177) (done (14 + v)) nothing) (done (suc k)))
    go true k h = gives_then (λ v. Unit {0}) (λ m. m ≤ 8190) (golomb 13 0) (λ v. cond (nat_lt v 8177) (done (14 + v)) nothing) (any_give (golomb 13 0)) (λ v g. high_give v)
    go false k h = omega (arith, h)

abbrev Levels : List ℤ → Type 0
Levels ls = AllByRecursion IsLevel ls

pub levels_give : (category : ℕ) (flags : List Bool) → Gives Levels (levels category flags)
unfolding levels
levels_give category [] = tt
levels_give category (false ∷ flags) = gives_then Levels Levels (levels category flags) (λ higher. done (pos 0 ∷ higher)) (levels_give category flags) (λ higher h. (omega arith, h))
levels_give category (true ∷ flags) =
    gives_then Levels Levels (levels category flags)
    (λ higher. minus1 (first_at category (above_one higher) (equal_one higher)) (others_at category (above_one higher)) >>= λ m. bin 1000 >>= λ sign. done (signed sign m ∷ higher))
    (levels_give category flags) (λ higher h.
    gives_then (λ m. m ≤ 8190) Levels (minus1 (first_at category (above_one higher) (equal_one higher)) (others_at category (above_one higher))) (λ m. bin 1000 >>= λ sign. done (signed sign m ∷ higher))
    (minus1_gives (first_at category (above_one higher) (equal_one higher)) (others_at category (above_one higher))) (λ m k sign. (size sign m k, h)))
  where
    size : (sign : Bool) (m : ℕ) → m ≤ 8190 → nat_abs (signed sign m) ≤ 8191
    size true m k = omega (arith, k)
    size false m k = omega (arith, k)

no_levels : (n : ℕ) → Levels (replicate n (pos 0))
no_levels zero = tt
no_levels (suc n) = (omega arith, no_levels n)

pub some_gives : (category n : ℕ) → Gives Levels (some_levels category n)
unfolding some_levels
some_gives category n = gives_then (λ flags. Unit {0}) Levels (significance category 0 n) (λ flags. levels category flags) (any_give (significance category 0 n)) (λ flags h. levels_give category flags)

pub block_gives : (category inc n : ℕ) → Gives Levels (block category inc n)
unfolding block
block_gives category inc n = by_bin Levels (λ b. elim b [ false ↦ done (replicate (suc n) (pos 0)) | true ↦ significance category 0 n >>= λ flags. levels category flags ])
    (gives_then (λ flags. Unit {0}) Levels (significance category 0 n) (λ flags. levels category flags) (any_give (significance category 0 n)) (λ flags h. levels_give category flags))
    (no_levels (suc n))

-- ---- vector differences

sign_gives : (m : ℕ) → m ≤ 2 ^ 15 → Gives IsDifference (with_sign m)
sign_gives zero h = omega arith
sign_gives (suc m) h = by_bin IsDifference (λ b. done (elim b [ true ↦ negsuc m | false ↦ pos (suc m) ])) (omega (arith, h)) (omega (arith, h))

size_gives : (k : ℕ) → k ≤ 9 → Gives (λ m. m ≤ 2 ^ 15) (cond (k == 9) (golomb 12 3 >>= λ v. done (9 + v)) (done k))
size_gives k h = go (k == 9)
  where
    go : (b : Bool) → Gives (λ m. m ≤ 2 ^ 15) (cond b (golomb 12 3 >>= λ v. done (9 + v)) (done k))
    go true = gives_then (λ v. v + 2 ^ 3 < 2 ^ (3 + 12)) (λ m. m ≤ 2 ^ 15) (golomb 12 3) (λ v. done (9 + v)) (golomb_gives 12 3) (λ v g. omega (arith, g))
    go false = omega (arith, h)

pub mvd_gives : (vertical : Bool) (inc : ℕ) → Gives IsDifference (mvd vertical inc)
unfolding mvd
mvd_gives vertical inc =
    gives_then (λ k. k ≤ 9) IsDifference (prefix (mvd_at vertical inc) 0 9) (λ k. (cond (k == 9) (golomb 12 3 >>= λ v. done (9 + v)) (done k)) >>= λ m. with_sign m) (prefix_gives (mvd_at vertical inc) 0 9) (λ k h.
    gives_then (λ m. m ≤ 2 ^ 15) IsDifference (cond (k == 9) (golomb 12 3 >>= λ v. done (9 + v)) (done k)) (λ m. with_sign m) (size_gives k h) (λ m g. sign_gives m g))
