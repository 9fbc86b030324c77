-- Every place in display order stands in a plan once.
use Rattle.std.proofs.Common.{◌⊎◌, inl, inr, ℕ, zero, suc, ◌+◌, ◌-◌, ◌%◌, ◌≡◌, ◌≤◌, ◌<◌, Bool, true, false, cond, List, [], ◌∷◌, ◌++◌, refl, sym, subst, arith, le_refl}
use Rattle.std.specs.Prelude.{◌==◌, nat_eq}
use Rattle.std.specs.List.{AllByRecursion, IsDistinct}
use Rattle.std.proofs.lemmas.Bool.Decides.{nat_tests}
use Rattle.std.proofs.lemmas.Bool.{cases_lt}
use Rattle.enc_tables.specs.declared.records.PlanStep.{PlanStep}
use Rattle.spec_plan.specs.Plan.{idr_step, p_step, b_steps, group, plan, plan_of, displays, times}
use Rattle.spec_plan.proofs.Follow.{size_of, size_some, size_left}

-- n is how often place k stands among m places from d on, each of which stands there once
record Run (d m k n : ℕ) : Type 0 where
  inside : d ≤ k → k < d + m → n ≡ 1
  below : k < d → n ≡ 0
  above : d + m ≤ k → n ≡ 0

none : (d k : ℕ) → Run d 0 k 0
none d k = record { inside = λ h l. absurd (omega (arith, h, l)); below = λ h. refl; above = λ h. refl }

is_one : (d k : ℕ) (b : Bool) → (d == k) ≡ b → Run d 1 k (cond b 1 0)
is_one d k true e = let same : d ≡ k = grind (arith, nat_tests) in record { inside = λ h l. refl; below = λ h. absurd (omega (arith, same, h)); above = λ h. absurd (omega (arith, same, h)) }
is_one d k false e = record { inside = λ h l. absurd (other d k e h l); below = λ h. refl; above = λ h. refl }
  where
    other : (d k : ℕ) → (d == k) ≡ false → d ≤ k → k < d + 1 → ⊥
    other d k e h l = let same : d ≡ k = omega (arith, h, l) in grind (arith, nat_tests)

single : (d k : ℕ) → Run d 1 k (cond (d == k) 1 0)
single d k = is_one d k (d == k) refl

joined : (d m l k a b : ℕ) → Run d m k a → Run (d + m) l k b → Run d (m + l) k (a + b)
joined d m l k a b r s = record {
  inside = λ h t. by h t (cases_lt k (d + m));
  below = λ h. let x = r.below h in let y = s.below (omega (arith, h)) in omega (arith, x, y);
  above = λ h. let x = r.above (omega (arith, h)) in let y = s.above (omega (arith, h)) in omega (arith, x, y);
}
  where
    by : d ≤ k → k < d + (m + l) → (k < d + m) ⊎ (d + m ≤ k) → a + b ≡ 1
    by h t (inl less) = let x = r.inside h less in let y = s.below less in omega (arith, x, y)
    by h t (inr more) = let x = r.above more in let y = s.inside more (omega (arith, t)) in omega (arith, x, y)

same_run : (d m n k a b : ℕ) → m ≡ n → a ≡ b → Run d m k a → Run d n k b
same_run d m n k a b e f r = subst (λ x. Run d x k b) e (subst (λ x. Run d m k x) f r)

times-append : (k : ℕ) (xs ys : List PlanStep) → times k (displays (xs ++ ys)) ≡ times k (displays xs) + times k (displays ys)
unfolding times
times-append k [] ys = omega arith
times-append k (x ∷ xs) ys = let ih = times-append k xs ys in omega (arith, ih)

-- ---- B pictures, a group, a plan

b_run : (idr number k m d : ℕ) → Run d m k (times k (displays (b_steps idr d number m)))
unfolding b_steps times
b_run idr number k zero d = none d k
b_run idr number k (suc m) d = same_run d (1 + m) (suc m) k _ _ (omega arith) refl (joined d 1 m k _ _ (single d k) (b_run idr number k m (d + 1)))

-- the P picture stands behind the others, and is coded first
group_run : (idr number k d got : ℕ) → 1 ≤ got → Run d got k (times k (displays (p_step idr (d + (got - 1)) number ∷ b_steps idr d number (got - 1))))
unfolding times
group_run idr number k d got some =
    let b : ℕ = times k (displays (b_steps idr d number (got - 1))) in
    let p : ℕ = cond (d + (got - 1) == k) 1 0 in
    same_run d (got - 1 + 1) got k (b + p) (p + b) (omega (arith, some)) (omega arith)
    (joined d (got - 1) 1 k b p (b_run idr number k (got - 1) d) (single (d + (got - 1)) k))

abbrev Runs : (ℕ → ℕ) → ℕ → ℕ → ℕ → Type 0
Runs wanted idr groups k = (display number left : ℕ) → left ≤ groups → Run display left k (times k (displays (plan wanted idr groups display number left)))

abbrev size : (ℕ → ℕ) → ℕ → ℕ → ℕ → Bool → ℕ
size wanted idr display left at_idr = cond at_idr 1 (size_of (wanted display) idr (display % idr) left)

run_by : (wanted : ℕ → ℕ) (idr groups k display number left : ℕ) → Runs wanted idr groups k → left ≤ suc groups → (none at_idr : Bool) → (left == 0) ≡ none
    → Run display left k (times k (displays (cond none [] (cond at_idr (idr_step display ∷ []) (p_step idr (display + (size wanted idr display left at_idr - 1)) number ∷ b_steps idr display number (size wanted idr display left at_idr - 1))
    ++ plan wanted idr groups (display + size wanted idr display left at_idr) (cond at_idr 1 (number + 1)) (left - size wanted idr display left at_idr)))))
unfolding times
run_by wanted idr groups k display number left ih h true at_idr e =
    let z : 0 ≡ left = grind (arith, nat_tests) in same_run display 0 left k 0 0 z refl (none_of display k)
  where
    none_of : (d k : ℕ) → Run d 0 k 0
    none_of d k = none d k
run_by wanted idr groups k display number left ih h false true e =
    let some : 0 < left = grind (arith, nat_tests) in
    same_run display (1 + (left - 1)) left k _ _ (omega (arith, some)) refl
    (joined display 1 (left - 1) k _ _ (single display k) (ih (display + 1) 1 (left - 1) (omega (arith, h, some))))
run_by wanted idr groups k display number left ih h false false e =
    let some : 0 < left = grind (arith, nat_tests) in
    let got : ℕ = size_of (wanted display) idr (display % idr) left in
    let least : 1 ≤ got = size_some (wanted display) idr (display % idr) left in
    let most : got ≤ left = size_left (wanted display) idr (display % idr) left some in
    let xs : List PlanStep = p_step idr (display + (got - 1)) number ∷ b_steps idr display number (got - 1) in
    let ys : List PlanStep = plan wanted idr groups (display + got) (number + 1) (left - got) in
    same_run display (got + (left - got)) left k (times k (displays xs) + times k (displays ys)) _ (omega (arith, most)) (sym (times-append k xs ys))
    (joined display got (left - got) k _ _ (group_run idr number k display got least) (ih (display + got) (number + 1) (left - got) (omega (arith, h, least))))

runs : (wanted : ℕ → ℕ) (idr k groups : ℕ) → Runs wanted idr groups k
unfolding plan group size_of times
runs wanted idr k zero display number left h =
    let z : 0 ≡ left = omega (arith, h) in same_run display 0 left k 0 0 z refl (none display k)
runs wanted idr k (suc groups) display number left h =
    run_by wanted idr groups k display number left (λ d m l g. runs wanted idr k groups d m l g) h (left == 0) (display % idr == 0) refl

pub once : (wanted : ℕ → ℕ) (idr pictures k : ℕ) → k < pictures → times k (displays (plan_of wanted idr pictures)) ≡ 1
once wanted idr pictures k h = (runs wanted idr k pictures 0 0 pictures (le_refl pictures)).inside (omega arith) (omega (arith, h))

pub no_other : (wanted : ℕ → ℕ) (idr pictures k : ℕ) → pictures ≤ k → times k (displays (plan_of wanted idr pictures)) ≡ 0
no_other wanted idr pictures k h = (runs wanted idr k pictures 0 0 pictures (le_refl pictures)).above (omega (arith, h))

-- ---- so no two are the same

few_by : (m n : ℕ) (b : Bool) → nat_eq n m ≡ b → cond {A = ℕ} (m == n) 1 0 ≡ cond {A = ℕ} b 1 0
few_by m n true e = grind (arith, nat_tests)
few_by m n false e = grind (arith, nat_tests)

absent : (n : ℕ) (xs : List ℕ) → times n xs ≡ 0 → AllByRecursion (λ m. nat_eq n m ≡ false) xs
unfolding times
absent n [] h = tt
absent n (x ∷ xs) h = by (nat_eq n x) refl (absent n xs)
  where
    by : (b : Bool) → nat_eq n x ≡ b → (times n xs ≡ 0 → AllByRecursion (λ m. nat_eq n m ≡ false) xs) → (nat_eq n x ≡ false) × AllByRecursion (λ m. nat_eq n m ≡ false) xs
    by true e ih = let f = few_by x n true e in absurd (omega (arith, h, f))
    by false e ih = let f = few_by x n false e in (e, ih (omega (arith, h, f)))

distinct_by : (xs : List ℕ) → ((k : ℕ) → times k xs ≤ 1) → IsDistinct nat_eq xs
unfolding times IsDistinct
distinct_by [] h = tt
distinct_by (x ∷ xs) h =
    let own : cond {A = ℕ} (x == x) 1 0 ≡ 1 = grind (arith, nat_tests) in
    (absent x xs (let f = h x in omega (arith, f, own)), distinct_by xs (λ k. let f = h k in omega (arith, f)))

pub places_differ : (wanted : ℕ → ℕ) (idr pictures : ℕ) → IsDistinct nat_eq (displays (plan_of wanted idr pictures))
places_differ wanted idr pictures = distinct_by (displays (plan_of wanted idr pictures)) (λ k. by k (cases_lt k pictures))
  where
    by : (k : ℕ) → (k < pictures) ⊎ (pictures ≤ k) → times k (displays (plan_of wanted idr pictures)) ≤ 1
    by k (inl less) = let f = once wanted idr pictures k less in omega (arith, f)
    by k (inr more) = let f = no_other wanted idr pictures k more in omega (arith, f)
