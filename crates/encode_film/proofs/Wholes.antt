-- How many pictures of a film stand in whole groups.
use Rattle.std.proofs.Common.{ℕ, zero, suc, ◌+◌, ◌-◌, ◌≡◌, ◌≤◌, ◌<◌, true, false, cond, refl, ap, arith}
use Rattle.std.specs.Prelude.{nat_lt}
use Rattle.std.proofs.lemmas.Bool.Decides.{nat_tests}
use Rattle.spec_plan.specs.Plan.{fixed}
use Rattle.spec_session.specs.Settings.{SessionSettings}
use Rattle.spec_session.specs.Groups.{Place, first_place, place_behind, full_at, place_from, place_after, whole_from, whole_groups}
use Rattle.spec_session.proofs.Placing.{size_some}

pub some_at : (f : SessionSettings) (p : Place) → 1 ≤ full_at f p
some_at f p = size_some (fixed f.bframes) f.idr p.display (fixed f.bframes p.display)

-- places go up
goes_up : (f : SessionSettings) (k : ℕ) (p : Place) → p.display ≤ (place_from f k p).display
unfolding place_from
goes_up f zero p = omega arith
goes_up f (suc k) p = let up = goes_up f k (place_behind f p (full_at f p)) in omega (arith, up)

not_less : (a b : ℕ) → b ≤ a → nat_lt a b ≡ false
not_less a b h = grind (arith, nat_tests, h)

is_less : (a b : ℕ) → a < b → nat_lt a b ≡ true
is_less a b h = grind (arith, nat_tests, h)

abbrev wholes : SessionSettings → ℕ → Place → ℕ → ℕ
wholes f groups p left = whole_from (fixed f.bframes) f.idr groups p.display left

none_there : (f : SessionSettings) (g : ℕ) (p : Place) (left : ℕ) → left < full_at f p → wholes f g p left ≡ 0
unfolding whole_from
none_there f zero p left h = refl
none_there f (suc g) p left h =
    ap (λ b. cond b 0 (full_at f p + whole_from (fixed f.bframes) f.idr g (p.display + full_at f p) (left - full_at f p))) (is_less left (full_at f p) h)

one_there : (f : SessionSettings) (g : ℕ) (p : Place) (left : ℕ) → full_at f p ≤ left → wholes f (suc g) p left ≡ full_at f p + wholes f g (place_behind f p (full_at f p)) (left - full_at f p)
unfolding whole_from
one_there f g p left h =
    ap (λ b. cond b 0 (full_at f p + whole_from (fixed f.bframes) f.idr g (p.display + full_at f p) (left - full_at f p))) (not_less left (full_at f p) h)

-- groups that are there are whole
least : (f : SessionSettings) (k g : ℕ) (p : Place) (left : ℕ) → left ≤ g → (place_from f k p).display ≤ p.display + left → (place_from f k p).display ≤ p.display + wholes f g p left
unfolding place_from
least f zero g p left most there = omega arith
least f (suc k) zero p left most there =
    let up = goes_up f k (place_behind f p (full_at f p)) in
    let some = some_at f p in
    absurd (omega (arith, most, there, up, some))
least f (suc k) (suc g) p left most there =
    let size = full_at f p in
    let next = place_behind f p size in
    let up = goes_up f k next in
    let some = some_at f p in
    let one = one_there f g p left (omega (arith, there, up)) in
    let rest = least f k g next (left - size) (omega (arith, most, some)) (omega (arith, there, up)) in
    omega (arith, one, rest)

-- and where fewer are left than the next one has, no others
exact : (f : SessionSettings) (k g : ℕ) (p : Place) (left : ℕ) → left ≤ g → (place_from f k p).display ≤ p.display + left → p.display + left - (place_from f k p).display < full_at f (place_from f k p)
    → p.display + wholes f g p left ≡ (place_from f k p).display
unfolding place_from
exact f zero g p left most there few = let none = none_there f g p left (omega (arith, few)) in omega (arith, none)
exact f (suc k) zero p left most there few =
    let up = goes_up f k (place_behind f p (full_at f p)) in
    let some = some_at f p in
    absurd (omega (arith, most, there, up, some))
exact f (suc k) (suc g) p left most there few =
    let size = full_at f p in
    let next = place_behind f p size in
    let up = goes_up f k next in
    let some = some_at f p in
    let one = one_there f g p left (omega (arith, there, up)) in
    let rest = exact f k g next (left - size) (omega (arith, most, some)) (omega (arith, there, up)) (omega (arith, few, there, up)) in
    omega (arith, one, rest)

pub whole_least : (f : SessionSettings) (groups pictures : ℕ) → (place_after f groups).display ≤ pictures → (place_after f groups).display ≤ whole_groups f pictures
whole_least f groups pictures there =
    let h = least f groups pictures first_place pictures (omega arith) (omega (arith, there)) in
    omega (arith, h)

pub whole_is : (f : SessionSettings) (groups pictures : ℕ) → (place_after f groups).display ≤ pictures → pictures - (place_after f groups).display < full_at f (place_after f groups) → whole_groups f pictures ≡ (place_after f groups).display
whole_is f groups pictures there few =
    let h = exact f groups pictures first_place pictures (omega arith) (omega (arith, there)) (omega (arith, few)) in
    omega (arith, h)
