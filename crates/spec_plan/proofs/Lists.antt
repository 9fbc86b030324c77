-- Each step of a plan has its lists.
use Rattle.std.proofs.Common.{◌⊎◌, inl, inr, ℕ, zero, suc, ◌+◌, ◌-◌, ◌*◌, ◌%◌, ◌≡◌, ◌≤◌, ◌<◌, min, Bool, true, false, cond, List, [], ◌∷◌, ◌++◌, length, take, refl, sym, ap, subst, ◌∙◌, arith, lit<, lit≤}
use Rattle.std.specs.Prelude.{◌==◌}
use Rattle.std.specs.List.{AllByRecursion}
use Rattle.std.proofs.lemmas.Bool.Decides.{nat_tests}
use Rattle.std.proofs.lemmas.Grind.{common_steps}
use Rattle.std.proofs.Math.Nat.{mod-eq_of_lt}
use Rattle.enc_tables.specs.declared.records.PlanStep.{PlanStep}
use Rattle.spec_plan.specs.Plan.{idr_step, p_step, b_steps, group, plan, plan_of}
use Rattle.spec_plan.specs.Marks.{marks_slid, Falls, HasLists, HasRoom}
use Rattle.spec_plan.proofs.Follow.{in_period, at_end, within, size_of, size_some, size_inside}

-- ---- fronts of what is held

all_taken : (F : ℕ × ℕ → Type 0) (n : ℕ) (ms : List (ℕ × ℕ)) → AllByRecursion F ms → AllByRecursion F (take n ms)
all_taken F zero ms h = tt
all_taken F (suc n) [] h = tt
all_taken F (suc n) (m ∷ ms) h = (h.0, all_taken F n ms h.1)

falls_taken : (n : ℕ) (ms : List (ℕ × ℕ)) → Falls ms → Falls (take n ms)
falls_taken zero ms h = tt
falls_taken (suc n) [] h = tt
falls_taken (suc n) (m ∷ ms) h = (all_taken (λ k. (k.0 < m.0) × (k.1 < m.1)) n ms h.0, falls_taken n ms h.1)

length_taken : (n : ℕ) (ms : List (ℕ × ℕ)) → length (take n ms) ≡ min n (length ms)
length_taken n ms = grind (arith, common_steps)

weaker : (F G : ℕ × ℕ → Type 0) (ms : List (ℕ × ℕ)) → ((m : ℕ × ℕ) → F m → G m) → AllByRecursion F ms → AllByRecursion G ms
weaker F G [] f h = tt
weaker F G (m ∷ ms) f h = (f m h.0, weaker F G ms f h.1)

-- what is held where a group begins, j places behind the IDR picture
record Inside (places j number : ℕ) (ms : List (ℕ × ℕ)) : Type 0 where
  pub some : 1 ≤ length ms
  pub few : length ms ≤ places
  pub falls : Falls ms
  pub below : AllByRecursion (λ m. (m.0 < 2 * j) × (m.1 < number)) ms

-- ---- B pictures: what is held stays
b_steps_have : (places idr q number k j : ℕ) (new : ℕ × ℕ) (ms : List (ℕ × ℕ)) (rest : List PlanStep) → j + k < idr → new.0 ≡ 2 * (j + k) → (k ≡ 0) ⊎ (1 ≤ length ms) → AllByRecursion (λ m. m.0 < 2 * j) ms → Falls (new ∷ ms) → length (new ∷ ms) ≤ places
    → HasLists places (new ∷ ms) rest → HasLists places (new ∷ ms) (b_steps idr (q * idr + j) number k ++ rest)
unfolding b_steps
b_steps_have places idr q number zero j new ms rest h e some low falls few f = f
b_steps_have places idr q number (suc k) j new ms rest h e (inl z) low falls few f = absurd (none k z)
  where
    none : (k : ℕ) → suc k ≡ 0 → ⊥
    none k z = omega (arith, z)
b_steps_have places idr q number (suc k) j new ms rest h e (inr some) low falls few f =
    let at : q * idr + j + 1 ≡ q * idr + (j + 1) = omega arith in
    let m : (q * idr + j) % idr ≡ j = in_period idr q j (omega (arith, h)) in
    let poc : 2 * j ≡ 2 * ((q * idr + j) % idr) = ap (λ n. 2 * n) (sym m) in
    let late : 2 * ((q * idr + j) % idr) < new.0 = omega (arith, e, m) in (
      (some, late, subst (λ n. AllByRecursion (λ m. m.0 < n) ms) poc low),
      falls,
      few,
      rw at (b_steps_have places idr q number k (j + 1) new ms rest (omega (arith, h)) (omega (arith, e)) (inr some) (weaker (λ m. m.0 < 2 * j) (λ m. m.0 < 2 * (j + 1)) ms (λ m h. omega (arith, h)) low) falls few f),
    )

-- what is held behind the P picture of a group
new_front : (places poc number : ℕ) (ms : List (ℕ × ℕ)) → 1 ≤ places → marks_slid places (poc, number) ms ≡ (poc, number) ∷ take (places - 1) ms
unfolding marks_slid
new_front zero poc number ms h = absurd (omega (arith, h))
new_front (suc n) poc number ms h = let e : suc n - 1 ≡ n = omega arith in rw e refl

group_has : (places idr q number j got : ℕ) (ms : List (ℕ × ℕ)) (rest : List PlanStep) → 1 ≤ places → (2 ≤ places) ⊎ (got ≡ 1) → j + got ≤ idr → 1 ≤ got → Inside places j number ms
    → ((ns : List (ℕ × ℕ)) → Inside places (j + got) (number + 1) ns → HasLists places ns rest)
    → HasLists places ms (p_step idr (q * idr + j + (got - 1)) number ∷ (b_steps idr (q * idr + j) number (got - 1) ++ rest))
group_has places idr q number j got ms rest one two h some is more =
    let d : ℕ = q * idr + j + (got - 1) in
    let at : d ≡ q * idr + (j + (got - 1)) = omega arith in
    let m : d % idr ≡ j + (got - 1) = ap (λ n. n % idr) at ∙ in_period idr q (j + (got - 1)) (omega (arith, h, some)) in
    let poc : ℕ = 2 * (d % idr) in
    let rs : List (ℕ × ℕ) = take (places - 1) ms in
    let new : ℕ × ℕ = (poc, number) in
    let long = length_taken (places - 1) ms in
    let own : AllByRecursion (λ m. (m.0 < poc) × (m.1 < number)) ms = weaker (λ m. (m.0 < 2 * j) × (m.1 < number)) (λ m. (m.0 < poc) × (m.1 < number)) ms (λ k h. (omega (arith, h.0, m), h.1)) is.below in
    let low : AllByRecursion (λ m. m.0 < 2 * j) rs = all_taken (λ m. m.0 < 2 * j) (places - 1) ms (weaker (λ m. (m.0 < 2 * j) × (m.1 < number)) (λ m. m.0 < 2 * j) ms (λ k h. h.0) is.below) in
    let falls : Falls (new ∷ rs) = (all_taken (λ m. (m.0 < poc) × (m.1 < number)) (places - 1) ms own, falls_taken (places - 1) ms is.falls) in
    let few : length (new ∷ rs) ≤ places = fits (length rs) (length ms) places long one in
    let next : Inside places (j + got) (number + 1) (new ∷ rs) = record {
      some = omega arith;
      few = few;
      falls = falls;
      below = (
        (omega (arith, m, some), omega arith),
        weaker (λ m. (m.0 < poc) × (m.1 < number)) (λ m. (m.0 < 2 * (j + got)) × (m.1 < number + 1)) rs (λ k h. (omega (arith, h.0, m, some), omega (arith, h.1))) (all_taken (λ m. (m.0 < poc) × (m.1 < number)) (places - 1) ms own),
      );
    } in (
      (is.some, own),
      is.falls,
      is.few,
      subst (λ ns. HasLists places ns (b_steps idr (q * idr + j) number (got - 1) ++ rest)) (sym (new_front places poc number ms one))
          (b_steps_have places idr q number (got - 1) j new rs rest (omega (arith, h, some)) (ap (λ n. 2 * n) m) (others (length rs) (length ms) places got long two is.some) low falls few (more (new ∷ rs) next)),
    )
  where
    fits : (l k places : ℕ) → l ≡ min (places - 1) k → 1 ≤ places → suc l ≤ places
    fits l k places e h = omega (arith, e, h)

    others : (l k places got : ℕ) → l ≡ min (places - 1) k → (2 ≤ places) ⊎ (got ≡ 1) → 1 ≤ k → (got - 1 ≡ 0) ⊎ (1 ≤ l)
    others l k places got e (inl h) g = inr (omega (arith, e, h, g))
    others l k places got e (inr h) g = inl (omega (arith, h))

none_taken : (n : ℕ) → take {A = ℕ × ℕ} n [] ≡ []
none_taken zero = refl
none_taken (suc n) = refl

alone : (places : ℕ) → 1 ≤ places → marks_slid places (0, 0) [] ≡ (0, 0) ∷ []
unfolding marks_slid
alone zero h = absurd (omega (arith, h))
alone (suc n) h = let z : ℕ × ℕ = (0, 0) in ap (λ (ms : List (ℕ × ℕ)). z ∷ ms) (none_taken n)

-- an IDR picture gives up all others
idr_has : (places display : ℕ) (ms : List (ℕ × ℕ)) (rest : List PlanStep) → 1 ≤ places → Falls ms → length ms ≤ places → ((ns : List (ℕ × ℕ)) → Inside places 1 1 ns → HasLists places ns rest) → HasLists places ms (idr_step display ∷ rest)
idr_has places display ms rest two falls few more = (
  tt,
  falls,
  few,
  subst (λ ns. HasLists places ns rest) (sym (alone places two))
      (more ((0, 0) ∷ []) (record { some = lit≤ tt; few = two; falls = (tt, tt); below = ((lit< tt, lit< tt), tt) })),
)

abbrev Rest : (ℕ → ℕ) → ℕ → ℕ → ℕ → Type 0
Rest wanted idr places groups = (q j number left : ℕ) (ms : List (ℕ × ℕ)) → 0 < j → j ≤ idr → Inside places j number ms → HasLists places ms (plan wanted idr groups (q * idr + j) number left)

-- there is room for a second reference, or no group has B pictures
has_room : (wanted : ℕ → ℕ) (places idr display d left : ℕ) → HasRoom wanted places → (2 ≤ places) ⊎ (size_of (wanted display) idr d left ≡ 1)
unfolding size_of
has_room wanted places idr display d left (inl h) = inl h
has_room wanted places idr display d left (inr h) = let few = h display in inr (omega (arith, few))

by_tests : (wanted : ℕ → ℕ) (idr places groups : ℕ) → 0 < idr → 1 ≤ places → HasRoom wanted places → Rest wanted idr places groups → (q j number left : ℕ) (ms : List (ℕ × ℕ)) → 0 < j → j ≤ idr → Inside places j number ms
    → (none at_idr : Bool) → (left == 0) ≡ none → ((q * idr + j) % idr == 0) ≡ at_idr
    → HasLists places ms (cond none [] (cond at_idr (idr_step (q * idr + j) ∷ []) (p_step idr (q * idr + j + (cond at_idr 1 (size_of (wanted (q * idr + j)) idr ((q * idr + j) % idr) left) - 1)) number ∷ b_steps idr (q * idr + j) number (cond at_idr 1 (size_of (wanted (q * idr + j)) idr ((q * idr + j) % idr) left) - 1))
    ++ plan wanted idr groups (q * idr + j + cond at_idr 1 (size_of (wanted (q * idr + j)) idr ((q * idr + j) % idr) left)) (cond at_idr 1 (number + 1)) (left - cond at_idr 1 (size_of (wanted (q * idr + j)) idr ((q * idr + j) % idr) left))))
by_tests wanted idr places groups pos one room rest q j number left ms h l is true at_idr e f = tt
by_tests wanted idr places groups pos one room rest q j number left ms h l is false true e f =
    let last : j ≡ idr = at_end idr q j h l f in
    let next : q * idr + j + 1 ≡ (q + 1) * idr + 1 = ap (λ n. q * idr + n + 1) last ∙ turned idr q in
    idr_has places (q * idr + j) ms _ one is.falls is.few
    (λ ns k. subst (λ n. HasLists places ns (plan wanted idr groups n 1 (left - 1))) (sym next) (rest (q + 1) 1 1 (left - 1) ns (lit< tt) pos k))
  where
    turned : (idr q : ℕ) → q * idr + idr + 1 ≡ (q + 1) * idr + 1
    turned idr q = grind arith
by_tests wanted idr places groups pos one room rest q j number left ms h l is false false e f =
    let inside : j < idr = within idr q j pos l f in
    let m : (q * idr + j) % idr ≡ j = in_period idr q j inside in
    let got : ℕ = size_of (wanted (q * idr + j)) idr ((q * idr + j) % idr) left in
    let ends : j + got ≤ idr = subst (λ d. d + size_of (wanted (q * idr + j)) idr ((q * idr + j) % idr) left ≤ idr) m (size_inside (wanted (q * idr + j)) idr ((q * idr + j) % idr) left (omega (arith, m, inside))) in
    let at : q * idr + j + got ≡ q * idr + (j + got) = omega arith in
    let more : 1 ≤ got = size_some (wanted (q * idr + j)) idr ((q * idr + j) % idr) left in
    group_has places idr q number j got ms _ one (has_room wanted places idr (q * idr + j) ((q * idr + j) % idr) left room) ends more is
    (λ ns k. subst (λ n. HasLists places ns (plan wanted idr groups n (number + 1) (left - got))) (sym at) (rest q (j + got) (number + 1) (left - got) ns (omega (arith, h)) ends k))

has_on : (wanted : ℕ → ℕ) (idr places groups : ℕ) → 0 < idr → 1 ≤ places → HasRoom wanted places → Rest wanted idr places groups
unfolding plan group size_of
has_on wanted idr places zero pos one room q j number left ms h l is = tt
has_on wanted idr places (suc groups) pos one room q j number left ms h l is =
    by_tests wanted idr places groups pos one room (λ q j number left ms a b c. has_on wanted idr places groups pos one room q j number left ms a b c) q j number left ms h l is (left == 0) ((q * idr + j) % idr == 0) refl refl

pub plans_have_lists : (wanted : ℕ → ℕ) (idr places pictures : ℕ) → 0 < idr → 1 ≤ places → HasRoom wanted places → HasLists places [] (plan_of wanted idr pictures)
unfolding plan group
plans_have_lists wanted idr places zero pos one room = tt
plans_have_lists wanted idr places (suc k) pos one room =
    let z : 0 % idr ≡ 0 = mod-eq_of_lt pos in
    let e : (suc k == 0) ≡ false = grind (arith, nat_tests) in
    let b : 0 * idr ≡ 0 = omega arith in
    let go : (ns : List (ℕ × ℕ)) → Inside places 1 1 ns → HasLists places ns (plan wanted idr k 1 1 (suc k - 1)) = λ ns i. subst (λ n. HasLists places ns (plan wanted idr k (n + 1) 1 (suc k - 1))) b (has_on wanted idr places k pos one room 0 1 1 (suc k - 1) ns (lit< tt) pos i) in
    rw (z, e) (idr_has places 0 [] (plan wanted idr k 1 1 (suc k - 1)) one tt (omega arith) go)
