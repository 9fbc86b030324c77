-- Whole groups: how many pictures they have, and the numbers of their reference pictures.
use Rattle.std.proofs.Common.{◌≡◌, ◌≤◌, ◌<◌, ◌+◌, ◌-◌, ◌*◌, ◌%◌, ◌⊎◌, inl, inr, min, max, ℕ, zero, suc, Bool, true, false, cond, refl, sym, ap, subst, ◌∙◌, arith}
use Rattle.std.specs.Prelude.{◌==◌, nat_lt}
use Rattle.std.proofs.lemmas.Bool.Decides.{nat_tests}
use Rattle.std.proofs.lemmas.Bool.{cases_lt}
use Rattle.std.proofs.Math.Nat.{add-mul-mod_self_right, mod-eq_of_lt}
use Rattle.spec_plan.specs.Plan.{fixed, group_size}
use Rattle.spec_plan.proofs.Follow.{in_period, at_end}
use Rattle.spec_session.specs.Settings.{SessionSettings}
use Rattle.spec_session.specs.Groups.{Place, first_place, place_behind, full_at, place_from, place_after, whole_from, IsCut}
use Rattle.spec_session.proofs.Placing.{size_some, size_full}
use Rattle.spec_session.proofs.Grouping.{place_more}

-- ---- the whole groups of so many pictures

record Cut (f : SessionSettings) (groups : ℕ) (p : Place) (left : ℕ) : Type 0 where
  count : ℕ
  is : (place_from f count p).display ≡ p.display + whole_from (fixed f.bframes) f.idr groups p.display left
  most : whole_from (fixed f.bframes) f.idr groups p.display left ≤ left
  rest : left - whole_from (fixed f.bframes) f.idr groups p.display left < full_at f (place_from f count p)

cut : (f : SessionSettings) (groups : ℕ) (p : Place) (left : ℕ) → left ≤ groups → Cut f groups p left
unfolding whole_from place_from
cut f zero p left h =
    let some : 1 ≤ full_at f p = size_some (fixed f.bframes) f.idr p.display (fixed f.bframes p.display) in
    record { count = 0; is = omega arith; most = omega arith; rest = omega (arith, h, some) }
cut f (suc g) p left h = by (nat_lt left (full_at f p)) refl (λ q l. cut f g q l)
  where
    less : (a b : ℕ) → nat_lt a b ≡ true → a < b
    less a b e = grind (arith, nat_tests)

    not_less : (a b : ℕ) → nat_lt a b ≡ false → b ≤ a
    not_less a b e = grind (arith, nat_tests)

    none : nat_lt left (full_at f p) ≡ true → whole_from (fixed f.bframes) f.idr (suc g) p.display left ≡ 0
    none e = ap (λ b. cond b 0 (full_at f p + whole_from (fixed f.bframes) f.idr g (p.display + full_at f p) (left - full_at f p))) e

    one : nat_lt left (full_at f p) ≡ false → whole_from (fixed f.bframes) f.idr (suc g) p.display left ≡ full_at f p + whole_from (fixed f.bframes) f.idr g (p.display + full_at f p) (left - full_at f p)
    one e = ap (λ b. cond b 0 (full_at f p + whole_from (fixed f.bframes) f.idr g (p.display + full_at f p) (left - full_at f p))) e

    by : (b : Bool) → nat_lt left (full_at f p) ≡ b → ((q : Place) (l : ℕ) → l ≤ g → Cut f g q l) → Cut f (suc g) p left
    by true e ih =
        let n = none e in
        let l = less left (full_at f p) e in
        record { count = 0; is = omega (arith, n); most = omega (arith, n); rest = omega (arith, n, l) }
    by false e ih =
        let some : 1 ≤ full_at f p = size_some (fixed f.bframes) f.idr p.display (fixed f.bframes p.display) in
        let there = not_less left (full_at f p) e in
        let n = one e in
        let c = ih (place_behind f p (full_at f p)) (left - full_at f p) (omega (arith, h, some)) in
        let is = c.is in
        let most = c.most in
        let rest = c.rest in
        record { count = suc c.count; is = omega (arith, is, n); most = omega (arith, most, n, there); rest = omega (arith, rest, n) }

pub is_cut : (f : SessionSettings) (pictures : ℕ) → IsCut f pictures
is_cut f pictures =
    let c = cut f pictures first_place pictures (omega arith) in
    let is = c.is in
    record { groups = c.count; display_is = omega (arith, is); most = c.most; rest = c.rest }

-- ---- the number of a group's reference picture: at most how far its place is behind the last IDR picture

record Inside (f : SessionSettings) (p : Place) : Type 0 where
  period : ℕ
  far : ℕ
  at : p.display ≡ period * f.idr + far
  near : far ≤ f.idr
  few : p.number ≤ far

unfoldable size_by : ℕ → ℕ → ℕ → ℕ
size_by wanted idr d = max 1 (min wanted (min (idr - d) wanted))

size_near : (wanted idr d : ℕ) → d < idr → d + size_by wanted idr d ≤ idr
unfolding size_by
size_near wanted idr d h = omega (arith, h)

size_least : (wanted idr d : ℕ) → 1 ≤ size_by wanted idr d
unfolding size_by
size_least wanted idr d = omega arith

-- behind an IDR picture
behind_idr : (f : SessionSettings) (p : Place) → 1 ≤ f.idr → Inside f p → (p.display % f.idr == 0) ≡ true → Inside f (record { display = p.display + 1; number = 1 })
behind_idr f p some i e = by (cases_lt 0 i.far)
  where
    by : (0 < i.far) ⊎ (i.far ≤ 0) → Inside f (record { display = p.display + 1; number = 1 })
    by (inr none) = let at = i.at in record { period = i.period; far = 1; at = omega (arith, at, none); near = some; few = omega arith }
    by (inl far) =
        let at = i.at in
        let whole : i.far ≡ f.idr = at_end f.idr i.period i.far far i.near (sym (ap (λ n. n % f.idr == 0) i.at) ∙ e) in
        let turn : (i.period + 1) * f.idr ≡ i.period * f.idr + f.idr = grind arith in
        record { period = i.period + 1; far = 1; at = omega (arith, at, whole, turn); near = some; few = omega arith }

-- behind another group
behind_other : (f : SessionSettings) (p : Place) → 1 ≤ f.idr → Inside f p → (p.display % f.idr == 0) ≡ false → Inside f (record { display = p.display + size_by (f.bframes + 1) f.idr (p.display % f.idr); number = p.number + 1 })
behind_other f p some i e = by (cases_lt i.far f.idr)
  where
    last : (n idr q j : ℕ) → n ≡ q * idr + j → j ≡ idr → n ≡ 0 + (q + 1) * idr
    last n idr q j at same = let turn : (q + 1) * idr ≡ q * idr + idr = grind arith in omega (arith, at, same, turn)

    by : (i.far < f.idr) ⊎ (f.idr ≤ i.far) → Inside f (record { display = p.display + size_by (f.bframes + 1) f.idr (p.display % f.idr); number = p.number + 1 })
    by (inl less) =
        let at = i.at in
        let few = i.few in
        let d : p.display % f.idr ≡ i.far = ap (λ n. n % f.idr) i.at ∙ in_period f.idr i.period i.far less in
        let near : p.display % f.idr + size_by (f.bframes + 1) f.idr (p.display % f.idr) ≤ f.idr = size_near (f.bframes + 1) f.idr (p.display % f.idr) (omega (arith, d, less)) in
        let least = size_least (f.bframes + 1) f.idr (p.display % f.idr) in
        record { period = i.period; far = i.far + size_by (f.bframes + 1) f.idr (p.display % f.idr); at = omega (arith, at); near = omega (arith, near, d); few = omega (arith, few, least) }
    by (inr all) = absurd (no (p.display % f.idr) (none i.near) e)
      where
        no : (n : ℕ) → n ≡ 0 → (n == 0) ≡ false → ⊥
        no n z e = grind (arith, nat_tests)

        none : i.far ≤ f.idr → p.display % f.idr ≡ 0
        none near =
            let same : i.far ≡ f.idr = omega (arith, near, all) in
            ap (λ n. n % f.idr) (last p.display f.idr i.period i.far i.at same) ∙ add-mul-mod_self_right 0 (i.period + 1) f.idr ∙ mod-eq_of_lt some

abbrev behind_by : SessionSettings → Place → Bool → Place
behind_by f p at_idr = record { display = p.display + cond at_idr 1 (max 1 (min (f.bframes + 1) (min (f.idr - p.display % f.idr) (f.bframes + 1)))); number = cond at_idr 1 (p.number + 1) }

inside_by : (f : SessionSettings) (p : Place) → 1 ≤ f.idr → Inside f p → (b : Bool) → (p.display % f.idr == 0) ≡ b → Inside f (behind_by f p b)
unfolding size_by
inside_by f p some i true e = behind_idr f p some i e
inside_by f p some i false e = behind_other f p some i e

inside_next : (f : SessionSettings) (p : Place) → 1 ≤ f.idr → Inside f p → Inside f (place_behind f p (full_at f p))
inside_next f p some i = inside_by f p some i (p.display % f.idr == 0) refl

inside : (f : SessionSettings) (groups : ℕ) → 1 ≤ f.idr → Inside f (place_after f groups)
unfolding place_from
inside f zero some = record { period = 0; far = 0; at = omega arith; near = omega arith; few = omega arith }
inside f (suc k) some = subst (λ (p : Place). Inside f p) (sym (place_more f k first_place)) (inside_next f (place_after f k) some (inside f k some))

pub numbers_fit : (f : SessionSettings) (groups : ℕ) → 1 ≤ f.idr → (place_after f groups).number ≤ f.idr
numbers_fit f groups some =
    let i = inside f groups some in
    let few = i.few in
    let near = i.near in
    omega (arith, few, near)

-- ---- how many pictures a group is to have: as many as it has where the film goes on

pub wanted_is : (f : SessionSettings) (p : Place) (wanted : ℕ) → 1 ≤ wanted → ((left : ℕ) → 1 ≤ left → group_size (fixed f.bframes) f.idr p.display left ≡ min wanted left) → full_at f p ≡ wanted
wanted_is f p wanted some h =
    let one = h (f.bframes + 1) (omega arith) in
    let more = h (wanted + (f.bframes + 1)) (omega arith) in
    let full : group_size (fixed f.bframes) f.idr p.display (wanted + (f.bframes + 1)) ≡ full_at f p = size_full (fixed f.bframes) f.idr p.display (wanted + (f.bframes + 1)) (omega (arith, one)) in
    omega (arith, one, more, full)
