-- The steps of a plan follow one another.
use Rattle.std.proofs.Common.{◌⊎◌, inl, inr, ℕ, zero, suc, ◌+◌, ◌-◌, ◌*◌, ◌%◌, ◌≡◌, ◌≤◌, ◌<◌, min, max, Bool, true, false, cond, List, [], ◌∷◌, ◌++◌, length, refl, sym, ap, subst, ◌∙◌, arith, le_refl, length-append, lit<}
use Rattle.std.specs.Prelude.{◌==◌}
use Rattle.std.proofs.lemmas.Bool.Decides.{nat_tests}
use Rattle.std.proofs.lemmas.Bool.{cases_lt}
use Rattle.std.proofs.Math.Nat.{add-mul-mod_self_right, mod-eq_of_lt}
use Rattle.enc_tables.specs.declared.records.PlanStep.{PlanStep}
use Rattle.spec_pictures.specs.Accesses.{Follows}
use Rattle.spec_plan.specs.Plan.{idr_step, p_step, b_steps, group, plan, plan_of}

-- Places in the period of the IDR picture at q·idr
pub in_period : (idr q j : ℕ) → j < idr → (q * idr + j) % idr ≡ j
in_period idr q j h =
    let turn : q * idr + j ≡ j + q * idr = omega arith in
    ap (λ n. n % idr) turn ∙ add-mul-mod_self_right j q idr ∙ mod-eq_of_lt h

-- B pictures below the top move nothing
b_steps_follow : (idr q number top k j : ℕ) (rest : List PlanStep) → j + k < idr → q * idr + j + k ≤ top → idr ≤ 16384 → number + 1 < 65536 → Follows true (q * idr) top (number + 1) rest
    → Follows true (q * idr) top (number + 1) (b_steps idr (q * idr + j) number k ++ rest)
unfolding b_steps
b_steps_follow idr q number top zero j rest h l small few f = f
b_steps_follow idr q number top (suc k) j rest h l small few f =
    let same : max top (q * idr + j + 1) ≡ top = omega (arith, l) in
    let e : q * idr + j + 1 ≡ q * idr + (j + 1) = omega arith in
    let m : (q * idr + j) % idr ≡ j = in_period idr q j (omega (arith, h)) in
    let d : q * idr + j - q * idr ≡ j = omega arith in
    let poc : 2 * ((q * idr + j) % idr) ≡ 2 * (q * idr + j - q * idr) = ap (λ n. 2 * n) (m ∙ sym d) in
    let low : 2 * ((q * idr + j) % idr) < 32768 = omega (arith, m, h, small) in
    ((refl, omega arith, poc, low, refl, few), rw (same, e) (b_steps_follow idr q number top k (j + 1) rest (omega (arith, h)) (omega (arith, l)) small few f))

-- a group behind the IDR picture
group_follows : (idr q number j got : ℕ) (rest : List PlanStep) → j + got ≤ idr → 1 ≤ got → idr ≤ 16384 → number ≤ idr → Follows true (q * idr) (q * idr + (j + got)) (number + 1) rest
    → Follows true (q * idr) (q * idr + j) number (p_step idr (q * idr + j + (got - 1)) number ∷ (b_steps idr (q * idr + j) number (got - 1) ++ rest))
group_follows idr q number j got rest h some small few f =
    let d : ℕ = q * idr + j + (got - 1) in
    let at : d ≡ q * idr + (j + (got - 1)) = omega arith in
    let m : d % idr ≡ j + (got - 1) = ap (λ n. n % idr) at ∙ in_period idr q (j + (got - 1)) (omega (arith, h, some)) in
    let back : d - q * idr ≡ j + (got - 1) = omega arith in
    let poc : 2 * (d % idr) ≡ 2 * (d - q * idr) = ap (λ n. 2 * n) (m ∙ sym back) in
    let low : 2 * (d % idr) < 32768 = omega (arith, m, h, some, small) in
    let top : max (q * idr + j) (d + 1) ≡ q * idr + (j + got) = omega (arith, some) in
    ((refl, omega arith, poc, low, refl, omega (arith, few, small)), rw top (b_steps_follow idr q number (q * idr + (j + got)) (got - 1) j rest (omega (arith, h, some)) (omega (arith, some)) small (omega (arith, few, small)) f))

-- the IDR picture behind a whole period
idr_follows : (idr q number : ℕ) (rest : List PlanStep) → Follows true ((q + 1) * idr) ((q + 1) * idr + 1) 1 rest → Follows true (q * idr) (q * idr + idr) number (idr_step (q * idr + idr) ∷ rest)
idr_follows idr q number rest f =
    let e : q * idr + idr ≡ (q + 1) * idr = grind arith in
    let top : max (q * idr + idr) (q * idr + idr + 1) ≡ q * idr + idr + 1 = omega arith in
    ((le_refl (q * idr + idr), refl, refl, refl), rw top (subst (λ n. Follows true n (n + 1) 1 rest) (sym e) f))

-- of a group's size: d is how far its place is behind the IDR picture
unfoldable pub size_of : ℕ → ℕ → ℕ → ℕ → ℕ
size_of wanted idr d left = max 1 (min wanted (min (idr - d) left))

pub size_some : (wanted idr d left : ℕ) → 1 ≤ size_of wanted idr d left
unfolding size_of
size_some wanted idr d left = omega arith

pub size_inside : (wanted idr d left : ℕ) → d < idr → d + size_of wanted idr d left ≤ idr
unfolding size_of
size_inside wanted idr d left h = omega (arith, h)

pub size_left : (wanted idr d left : ℕ) → 0 < left → size_of wanted idr d left ≤ left
unfolding size_of
size_left wanted idr d left h = omega (arith, h)

-- the place behind a whole period is that of an IDR picture, and no other place in it is
ends_at : (idr q j : ℕ) → 0 < j → ((q * idr + j) % idr == 0) ≡ true → (j < idr) ⊎ (idr ≤ j) → j ≤ idr → j ≡ idr
ends_at idr q j h f (inl lt) l = let m : (q * idr + j) % idr ≡ j = in_period idr q j lt in let z : (j == 0) ≡ true = ap (λ n. n == 0) (sym m) ∙ f in absurd (no j h z)
  where
    no : (j : ℕ) → 0 < j → (j == 0) ≡ true → ⊥
    no j h z = grind (arith, nat_tests)
ends_at idr q j h f (inr le) l = omega arith

pub at_end : (idr q j : ℕ) → 0 < j → j ≤ idr → ((q * idr + j) % idr == 0) ≡ true → j ≡ idr
at_end idr q j h l f = ends_at idr q j h f (cases_lt j idr) l

whole_period : (idr q : ℕ) → 0 < idr → (q * idr + idr) % idr ≡ 0
whole_period idr q pos =
    let e : q * idr + idr ≡ 0 + (q + 1) * idr = grind arith in
    ap (λ n. n % idr) e ∙ add-mul-mod_self_right 0 (q + 1) idr ∙ mod-eq_of_lt pos

stays : (idr q j : ℕ) → 0 < idr → ((q * idr + j) % idr == 0) ≡ false → (j < idr) ⊎ (idr ≤ j) → j ≤ idr → j < idr
stays idr q j pos f (inl lt) l = lt
stays idr q j pos f (inr le) l =
    let e : j ≡ idr = omega arith in
    let z : (0 == 0) ≡ false = ap (λ n. n == 0) (sym (whole_period idr q pos)) ∙ ap (λ n. (q * idr + n) % idr == 0) (sym e) ∙ f in
    absurd cc

pub within : (idr q j : ℕ) → 0 < idr → j ≤ idr → ((q * idr + j) % idr == 0) ≡ false → j < idr
within idr q j pos l f = stays idr q j pos f (cases_lt j idr) l

-- the plan, where groups behind this one follow
abbrev Rest : (ℕ → ℕ) → ℕ → ℕ → Type 0
Rest wanted idr groups = (q j number left : ℕ) → 0 < j → j ≤ idr → 1 ≤ number → number ≤ j → Follows true (q * idr) (q * idr + j) number (plan wanted idr groups (q * idr + j) number left)

by_tests : (wanted : ℕ → ℕ) (idr groups : ℕ) → 0 < idr → idr ≤ 16384 → Rest wanted idr groups → (q j number left : ℕ) → 0 < j → j ≤ idr → 1 ≤ number → number ≤ j
    → (none at_idr : Bool) → (left == 0) ≡ none → ((q * idr + j) % idr == 0) ≡ at_idr
    → Follows true (q * idr) (q * idr + j) number (cond none [] (cond at_idr (idr_step (q * idr + j) ∷ []) (p_step idr (q * idr + j + (cond at_idr 1 (size_of (wanted (q * idr + j)) idr ((q * idr + j) % idr) left) - 1)) number ∷ b_steps idr (q * idr + j) number (cond at_idr 1 (size_of (wanted (q * idr + j)) idr ((q * idr + j) % idr) left) - 1))
    ++ plan wanted idr groups (q * idr + j + cond at_idr 1 (size_of (wanted (q * idr + j)) idr ((q * idr + j) % idr) left)) (cond at_idr 1 (number + 1)) (left - cond at_idr 1 (size_of (wanted (q * idr + j)) idr ((q * idr + j) % idr) left))))
by_tests wanted idr groups pos small rest q j number left h l some n true at_idr e f = tt
by_tests wanted idr groups pos small rest q j number left h l some n false true e f =
    let last : j ≡ idr = at_end idr q j h l f in
    let d : q * idr + j ≡ q * idr + idr = ap (λ k. q * idr + k) last in
    let next : q * idr + idr + 1 ≡ (q + 1) * idr + 1 = grind arith in
    subst (λ k. Follows true (q * idr) k number (idr_step k ∷ plan wanted idr groups (k + 1) 1 (left - 1))) (sym d)
    (idr_follows idr q number _ (subst (λ k. Follows true ((q + 1) * idr) ((q + 1) * idr + 1) 1 (plan wanted idr groups k 1 (left - 1))) (sym next) (rest (q + 1) 1 1 (left - 1) (lit< tt) pos (le_refl 1) (le_refl 1))))
by_tests wanted idr groups pos small rest q j number left h l some n false false e f =
    let inside : j < idr = within idr q j pos l f in
    let m : (q * idr + j) % idr ≡ j = in_period idr q j inside in
    let got : ℕ = size_of (wanted (q * idr + j)) idr ((q * idr + j) % idr) left in
    let ends : j + got ≤ idr = subst (λ d. d + size_of (wanted (q * idr + j)) idr ((q * idr + j) % idr) left ≤ idr) m (size_inside (wanted (q * idr + j)) idr ((q * idr + j) % idr) left (omega (arith, m, inside))) in
    let at : q * idr + j + got ≡ q * idr + (j + got) = omega arith in
    let more : 1 ≤ got = size_some (wanted (q * idr + j)) idr ((q * idr + j) % idr) left in
    group_follows idr q number j got _ ends more small (omega (arith, n, l))
    (subst (λ k. Follows true (q * idr) (q * idr + (j + got)) (number + 1) (plan wanted idr groups k (number + 1) (left - got))) (sym at) (rest q (j + got) (number + 1) (left - got) (omega (arith, h)) ends (omega arith) (omega (arith, n, more))))

follows_on : (wanted : ℕ → ℕ) (idr groups : ℕ) → 0 < idr → idr ≤ 16384 → Rest wanted idr groups
unfolding plan group size_of
follows_on wanted idr zero pos small q j number left h l some n = tt
follows_on wanted idr (suc groups) pos small q j number left h l some n =
    by_tests wanted idr groups pos small (λ q j number left a b c d. follows_on wanted idr groups pos small q j number left a b c d) q j number left h l some n (left == 0) ((q * idr + j) % idr == 0) refl refl

-- the first picture is an IDR picture
pub plans_follow : (wanted : ℕ → ℕ) (idr pictures : ℕ) → 0 < idr → idr ≤ 16384 → Follows false 0 0 0 (plan_of wanted idr pictures)
unfolding plan group
plans_follow wanted idr zero pos small = tt
plans_follow wanted idr (suc k) pos small =
    let z : 0 % idr ≡ 0 = mod-eq_of_lt pos in
    let go : Follows true (0 * idr) (0 * idr + 1) 1 (plan wanted idr k (0 * idr + 1) 1 (suc k - 1)) = follows_on wanted idr k pos small 0 1 1 (suc k - 1) (lit< tt) pos (le_refl 1) (le_refl 1) in
    let e : (suc k == 0) ≡ false = grind (arith, nat_tests) in
    let b : 0 * idr ≡ 0 = omega arith in
    let on : Follows true 0 1 1 (plan wanted idr k 1 1 (suc k - 1)) = subst (λ n. Follows true n (n + 1) 1 (plan wanted idr k (n + 1) 1 (suc k - 1))) b go in
    rw (z, e) ((le_refl 0, refl, refl, refl), on)

-- ---- a step for each picture

length-b_steps : (idr display number k : ℕ) → length (b_steps idr display number k) ≡ k
unfolding b_steps
length-b_steps idr display number zero = refl
length-b_steps idr display number (suc k) = ap suc (length-b_steps idr (display + 1) number k)

abbrev Counts : (ℕ → ℕ) → ℕ → ℕ → Type 0
Counts wanted idr groups = (display number left : ℕ) → left ≤ groups → length (plan wanted idr groups display number left) ≡ left

count_by : (wanted : ℕ → ℕ) (idr groups display number left : ℕ) → Counts wanted idr groups → left ≤ suc groups → (none at_idr : Bool) → (left == 0) ≡ none → (display % idr == 0) ≡ at_idr
    → length (cond none [] (cond at_idr (idr_step display ∷ []) (p_step idr (display + (cond at_idr 1 (size_of (wanted display) idr (display % idr) left) - 1)) number ∷ b_steps idr display number (cond at_idr 1 (size_of (wanted display) idr (display % idr) left) - 1))
    ++ plan wanted idr groups (display + cond at_idr 1 (size_of (wanted display) idr (display % idr) left)) (cond at_idr 1 (number + 1)) (left - cond at_idr 1 (size_of (wanted display) idr (display % idr) left)))) ≡ left
count_by wanted idr groups display number left ih h true at_idr e f = grind (arith, nat_tests)
count_by wanted idr groups display number left ih h false true e f =
    let some : 0 < left = grind (arith, nat_tests) in
    let rest = ih (display + 1) 1 (left - 1) (omega (arith, h, some)) in
    ap suc rest ∙ omega (arith, some)
count_by wanted idr groups display number left ih h false false e f =
    let some : 0 < left = grind (arith, nat_tests) in
    let got : ℕ = size_of (wanted display) idr (display % idr) left in
    let least : 1 ≤ got = size_some (wanted display) idr (display % idr) left in
    let most : got ≤ left = size_left (wanted display) idr (display % idr) left some in
    let rest = ih (display + got) (number + 1) (left - got) (omega (arith, h, least)) in
    let bs = length-b_steps idr display number (got - 1) in
    let all = length-append (b_steps idr display number (got - 1)) (plan wanted idr groups (display + got) (number + 1) (left - got)) in
    omega (arith, rest, bs, all, least, most)

counts : (wanted : ℕ → ℕ) (idr groups : ℕ) → Counts wanted idr groups
unfolding plan group size_of
counts wanted idr zero display number left h = omega (arith, h)
counts wanted idr (suc groups) display number left h =
    count_by wanted idr groups display number left (λ d m l k. counts wanted idr groups d m l k) h (left == 0) (display % idr == 0) refl refl

pub a_step_each : (wanted : ℕ → ℕ) (idr pictures : ℕ) → length (plan_of wanted idr pictures) ≡ pictures
a_step_each wanted idr pictures = counts wanted idr pictures 0 0 pictures (le_refl pictures)
