-- A plan from a place on, in parts: whole groups, and what follows them.
use Rattle.std.proofs.Common.{◌≡◌, ◌≤◌, ◌<◌, ◌+◌, ◌-◌, ◌%◌, min, max, ℕ, zero, suc, Bool, true, false, cond, List, [], ◌∷◌, ◌++◌, refl, sym, ap, ◌∙◌, arith, append-nil}
use Rattle.std.specs.Prelude.{◌==◌}
use Rattle.std.specs.List.{AllByRecursion}
use Rattle.std.proofs.lemmas.Bool.Decides.{nat_tests}
use Rattle.enc_tables.specs.declared.records.PlanStep.{PlanStep}
use Rattle.spec_plan.specs.Plan.{idr_step, p_step, b_steps, group, group_size, next_number, plan}
use Rattle.spec_session.specs.Groups.{full_size}

-- ---- sizes of groups

abbrev size_by : Bool → ℕ → ℕ → ℕ → ℕ
size_by at_idr wanted room left = cond at_idr 1 (max 1 (min wanted (min room left)))

some_by : (at_idr : Bool) (wanted room left : ℕ) → 1 ≤ size_by at_idr wanted room left
some_by true wanted room left = omega arith
some_by false wanted room left = omega arith

within_by : (at_idr : Bool) (wanted room left : ℕ) → 1 ≤ left → size_by at_idr wanted room left ≤ left
within_by true wanted room left some = some
within_by false wanted room left some = omega (arith, some)

full_by : (at_idr : Bool) (wanted room left : ℕ) → size_by at_idr wanted room wanted ≤ left → size_by at_idr wanted room left ≡ size_by at_idr wanted room wanted
full_by true wanted room left h = refl
full_by false wanted room left h = omega (arith, h)

last_by : (at_idr : Bool) (wanted room left : ℕ) → 1 ≤ left → left ≤ size_by at_idr wanted room wanted → size_by at_idr wanted room left ≡ left
last_by true wanted room left some h = omega (arith, some, h)
last_by false wanted room left some h = omega (arith, some, h)

pub size_some : (wanted : ℕ → ℕ) (idr display left : ℕ) → 1 ≤ group_size wanted idr display left
size_some wanted idr display left = some_by (display % idr == 0) (wanted display) (idr - display % idr) left

pub size_within : (wanted : ℕ → ℕ) (idr display left : ℕ) → 1 ≤ left → group_size wanted idr display left ≤ left
size_within wanted idr display left some = within_by (display % idr == 0) (wanted display) (idr - display % idr) left some

-- of a group that isn't the last one, and of the last one
pub size_full : (wanted : ℕ → ℕ) (idr display left : ℕ) → full_size wanted idr display ≤ left → group_size wanted idr display left ≡ full_size wanted idr display
size_full wanted idr display left h = full_by (display % idr == 0) (wanted display) (idr - display % idr) left h

pub size_last : (wanted : ℕ → ℕ) (idr display left : ℕ) → 1 ≤ left → left ≤ full_size wanted idr display → group_size wanted idr display left ≡ left
size_last wanted idr display left some h = last_by (display % idr == 0) (wanted display) (idr - display % idr) left some h

-- ---- a plan doesn't depend on how many groups it may have at most

is_none : (n : ℕ) → (n == 0) ≡ true → n ≡ 0
is_none n e = grind (arith, nat_tests)

is_some : (n : ℕ) → (n == 0) ≡ false → 1 ≤ n
is_some n e = grind (arith, nat_tests)

pub plan_none : (wanted : ℕ → ℕ) (idr groups display number : ℕ) → plan wanted idr groups display number 0 ≡ []
unfolding plan
plan_none wanted idr zero display number = refl
plan_none wanted idr (suc groups) display number = refl

-- the first group, and the others
pub plan_next : (wanted : ℕ → ℕ) (idr groups display number left : ℕ) → 1 ≤ left
    → plan wanted idr (suc groups) display number left
    ≡ group display (group_size wanted idr display left) idr number ++ plan wanted idr groups (display + group_size wanted idr display left) (next_number idr display number) (left - group_size wanted idr display left)
unfolding plan
plan_next wanted idr groups display number left some =
    ap (λ none. cond none [] (group display (group_size wanted idr display left) idr number ++ plan wanted idr groups (display + group_size wanted idr display left) (next_number idr display number) (left - group_size wanted idr display left)))
    (not_none left some)
  where
    not_none : (n : ℕ) → 1 ≤ n → (n == 0) ≡ false
    not_none n some = grind (arith, nat_tests)

pub same_plan : (wanted : ℕ → ℕ) (idr g k display number left : ℕ) → left ≤ g → left ≤ k → plan wanted idr g display number left ≡ plan wanted idr k display number left
same_plan wanted idr g k display number zero h l = plan_none wanted idr g display number ∙ sym (plan_none wanted idr k display number)
same_plan wanted idr zero k display number (suc left) h l = absurd (omega (arith, h))
same_plan wanted idr (suc g) zero display number (suc left) h l = absurd (omega (arith, l))
same_plan wanted idr (suc g) (suc k) display number (suc left) h l =
    let size : ℕ = group_size wanted idr display (suc left) in
    let some : 1 ≤ size = size_some wanted idr display (suc left) in
    plan_next wanted idr g display number (suc left) (omega arith)
    ∙ ap (λ sts. group display size idr number ++ sts) (same_plan wanted idr g k (display + size) (next_number idr display number) (suc left - size) (omega (arith, h, some)) (omega (arith, l, some)))
    ∙ sym (plan_next wanted idr k display number (suc left) (omega arith))

-- a group that is whole, and what follows it
pub plan_full : (wanted : ℕ → ℕ) (idr groups display number left : ℕ) → full_size wanted idr display + left ≤ suc groups
    → plan wanted idr (suc groups) display number (full_size wanted idr display + left)
    ≡ group display (full_size wanted idr display) idr number ++ plan wanted idr groups (display + full_size wanted idr display) (next_number idr display number) left
plan_full wanted idr groups display number left h =
    let full : ℕ = full_size wanted idr display in
    let some : 1 ≤ full = size_some wanted idr display (wanted display) in
    let is : group_size wanted idr display (full + left) ≡ full = size_full wanted idr display (full + left) (omega arith) in
    let rest : full + left - full ≡ left = omega arith in
    plan_next wanted idr groups display number (full + left) (omega (arith, some))
    ∙ ap (λ n. group display n idr number ++ plan wanted idr groups (display + n) (next_number idr display number) (full + left - n)) is
    ∙ ap (λ n. group display full idr number ++ plan wanted idr groups (display + full) (next_number idr display number) n) rest

-- the last group
pub plan_last : (wanted : ℕ → ℕ) (idr groups display number left : ℕ) → 1 ≤ left → left ≤ full_size wanted idr display → plan wanted idr (suc groups) display number left ≡ group display left idr number
plan_last wanted idr groups display number left some h =
    let is : group_size wanted idr display left ≡ left = size_last wanted idr display left some h in
    let rest : left - left ≡ 0 = omega arith in
    plan_next wanted idr groups display number left some
    ∙ ap (λ n. group display n idr number ++ plan wanted idr groups (display + n) (next_number idr display number) (left - n)) is
    ∙ ap (λ n. group display left idr number ++ plan wanted idr groups (display + left) (next_number idr display number) n) rest
    ∙ ap (λ sts. group display left idr number ++ sts) (plan_none wanted idr groups (display + left) (next_number idr display number))
    ∙ append-nil (group display left idr number)

-- ---- where the pictures of groups and plans stand

pub record Stands (low high : ℕ) (st : PlanStep) : Type 0 where
  pub from : low ≤ st.display
  pub to : st.display < high

wider : (low high a b : ℕ) (sts : List PlanStep) → a ≤ low → high ≤ b → AllByRecursion (Stands low high) sts → AllByRecursion (Stands a b) sts
wider low high a b [] h l all = tt
wider low high a b (st ∷ sts) h l all =
    let from = all.0.from in
    let to = all.0.to in
    (record { from = omega (arith, h, from); to = omega (arith, l, to) }, wider low high a b sts h l all.1)

both : (low high : ℕ) (xs ys : List PlanStep) → AllByRecursion (Stands low high) xs → AllByRecursion (Stands low high) ys → AllByRecursion (Stands low high) (xs ++ ys)
both low high [] ys h g = g
both low high (x ∷ xs) ys h g = (h.0, both low high xs ys h.1 g)

b_stand : (idr number k display : ℕ) → AllByRecursion (Stands display (display + k)) (b_steps idr display number k)
unfolding b_steps
b_stand idr number zero display = tt
b_stand idr number (suc k) display =
    (record { from = omega arith; to = omega arith }, wider (display + 1) (display + 1 + k) display (display + suc k) (b_steps idr (display + 1) number k) (omega arith) (omega arith) (b_stand idr number k (display + 1)))

by_kind : (at_idr : Bool) (idr number display got : ℕ) → 1 ≤ got → AllByRecursion (Stands display (display + got)) (cond at_idr (idr_step display ∷ []) (p_step idr (display + (got - 1)) number ∷ b_steps idr display number (got - 1)))
by_kind true idr number display got some = (record { from = omega arith; to = omega (arith, some) }, tt)
by_kind false idr number display got some =
    (record { from = omega arith; to = omega (arith, some) }, wider display (display + (got - 1)) display (display + got) (b_steps idr display number (got - 1)) (omega arith) (omega arith) (b_stand idr number (got - 1) display))

pub group_stands : (idr number display got : ℕ) → 1 ≤ got → AllByRecursion (Stands display (display + got)) (group display got idr number)
unfolding group
group_stands idr number display got some = by_kind (display % idr == 0) idr number display got some

pub plan_stands : (wanted : ℕ → ℕ) (idr groups display number left : ℕ) → AllByRecursion (Stands display (display + left)) (plan wanted idr groups display number left)
unfolding plan
plan_stands wanted idr zero display number left = tt
plan_stands wanted idr (suc groups) display number left = by (left == 0) refl (plan_stands wanted idr groups)
  where
    by : (none : Bool) → (left == 0) ≡ none → ((d n l : ℕ) → AllByRecursion (Stands d (d + l)) (plan wanted idr groups d n l))
        → AllByRecursion (Stands display (display + left)) (cond none [] (group display (group_size wanted idr display left) idr number ++ plan wanted idr groups (display + group_size wanted idr display left) (next_number idr display number) (left - group_size wanted idr display left)))
    by true e ih = tt
    by false e ih =
        let size : ℕ = group_size wanted idr display left in
        let some : 1 ≤ left = is_some left e in
        let least : 1 ≤ size = size_some wanted idr display left in
        let most : size ≤ left = size_within wanted idr display left some in
        both display (display + left) (group display size idr number) (plan wanted idr groups (display + size) (next_number idr display number) (left - size))
        (wider display (display + size) display (display + left) (group display size idr number) (omega arith) (omega (arith, most)) (group_stands idr number display size least))
        (wider (display + size) (display + size + (left - size)) display (display + left) (plan wanted idr groups (display + size) (next_number idr display number) (left - size)) (omega arith) (omega (arith, most)) (ih (display + size) (next_number idr display number) (left - size)))
