-- The steps of a film, group by group, with their pictures.
use Rattle.std.proofs.Common.{◌≡◌, ◌≤◌, ◌<◌, ◌+◌, ◌-◌, ℕ, zero, suc, List, [], ◌∷◌, ◌++◌, length, map, refl, sym, ap, ap₂, subst, ◌∙◌, arith, append_assoc, length-append}
use Rattle.std.specs.List.{AllByRecursion}
use Rattle.std.proofs.lemmas.List.{map-append}
use Rattle.enc_tables.specs.declared.records.PlanStep.{PlanStep}
use Rattle.spec_film.specs.Films.{Planes}
use Rattle.spec_plan.specs.Plan.{fixed, group, plan, plan_of}
use Rattle.spec_film_coder.specs.Sound.{planned_steps}
use Rattle.spec_session.specs.Settings.{SessionSettings}
use Rattle.spec_session.specs.Encodings.{picture_at, film_steps}
use Rattle.spec_session.specs.Groups.{Place, first_place, place_behind, with_pictures, group_steps, steps_from, full_at, place_from, place_after}
use Rattle.spec_session.proofs.Placing.{Stands, plan_stands, plan_none, plan_full, plan_last, same_plan, size_some}

-- ---- a plan behind whole groups

abbrev wanted_by : SessionSettings → ℕ → ℕ
wanted_by f = fixed f.bframes

-- how many pictures so many whole groups have
count_from : SessionSettings → ℕ → Place → ℕ
count_from f zero p = 0
count_from f (suc k) p = full_at f p + count_from f k (place_behind f p (full_at f p))

goes_up : (f : SessionSettings) (k : ℕ) (p : Place) → (place_from f k p).display ≡ p.display + count_from f k p
unfolding place_from count_from
goes_up f zero p = omega arith
goes_up f (suc k) p = let more = goes_up f k (place_behind f p (full_at f p)) in omega (arith, more)

plan_parts : (f : SessionSettings) (k : ℕ) (p : Place) (groups left : ℕ) → count_from f k p + left ≤ groups
    → plan (wanted_by f) f.idr groups p.display p.number (count_from f k p + left)
    ≡ plan (wanted_by f) f.idr groups p.display p.number (count_from f k p) ++ plan (wanted_by f) f.idr groups (place_from f k p).display (place_from f k p).number left
unfolding place_from count_from
plan_parts f zero p groups left h =
    let all : 0 + left ≡ left = omega arith in
    ap (λ n. plan (wanted_by f) f.idr groups p.display p.number n) all
    ∙ ap (λ sts. sts ++ plan (wanted_by f) f.idr groups p.display p.number left) (sym (plan_none (wanted_by f) f.idr groups p.display p.number))
plan_parts f (suc k) p zero left h = let some = size_some (wanted_by f) f.idr p.display (wanted_by f p.display) in absurd (omega (arith, h, some))
plan_parts f (suc k) p (suc g) left h =
    let full : ℕ = full_at f p in
    let next : Place = place_behind f p full in
    let count : ℕ = count_from f k next in
    let last : Place = place_from f k next in
    let some : 1 ≤ full = size_some (wanted_by f) f.idr p.display (wanted_by f p.display) in
    let turn : full + count + left ≡ full + (count + left) = omega arith in
    ap (λ n. plan (wanted_by f) f.idr (suc g) p.display p.number n) turn
    ∙ plan_full (wanted_by f) f.idr g p.display p.number (count + left) (omega (arith, h))
    ∙ ap (λ sts. group p.display full f.idr p.number ++ sts) (plan_parts f k next g left (omega (arith, h, some)))
    ∙ sym (append_assoc (group p.display full f.idr p.number) (plan (wanted_by f) f.idr g next.display next.number count) (plan (wanted_by f) f.idr g last.display last.number left))
    ∙ ap₂ (λ a b. a ++ b) (sym (plan_full (wanted_by f) f.idr g p.display p.number count (omega (arith, h)))) (same_plan (wanted_by f) f.idr g (suc g) last.display last.number left (omega (arith, h, some)) (omega (arith, h, some)))

-- ---- pictures at their places

at_front : (xs ys : List Planes) (i : ℕ) → i < length xs → picture_at (xs ++ ys) i ≡ picture_at xs i
at_front [] ys i less = absurd (omega (arith, less))
at_front (x ∷ xs) ys zero less = refl
at_front (x ∷ xs) ys (suc i) less = at_front xs ys i (omega (arith, less))

at_back : (xs ys : List Planes) (i : ℕ) → picture_at (xs ++ ys) (length xs + i) ≡ picture_at ys i
at_back [] ys i = let e : 0 + i ≡ i = omega arith in ap (λ n. picture_at ys n) e
at_back (x ∷ xs) ys i = let e : suc (length xs) + i ≡ suc (length xs + i) = omega arith in ap (λ n. picture_at (x ∷ (xs ++ ys)) n) e ∙ at_back xs ys i

-- a pair's second part
with_picture : (st : PlanStep) (a b : Planes) → a ≡ b → (let x : PlanStep × Planes = (st, a) in let y : PlanStep × Planes = (st, b) in x ≡ y)
with_picture st a b e = ap (λ p. let x : PlanStep × Planes = (st, p) in x) e

fronts_same : (base : ℕ) (xs ys : List Planes) (sts : List PlanStep) → AllByRecursion (Stands base (base + length xs)) sts → with_pictures base (xs ++ ys) sts ≡ with_pictures base xs sts
fronts_same base xs ys [] all = refl
fronts_same base xs ys (st ∷ sts) all =
    let from = all.0.from in
    let to = all.0.to in
    ap₂ (λ a b. a ∷ b) (with_picture st _ _ (at_front xs ys (st.display - base) (omega (arith, from, to)))) (fronts_same base xs ys sts all.1)

backs_same : (base high : ℕ) (xs ys : List Planes) (sts : List PlanStep) → AllByRecursion (Stands (base + length xs) high) sts → with_pictures base (xs ++ ys) sts ≡ with_pictures (base + length xs) ys sts
backs_same base high xs ys [] all = refl
backs_same base high xs ys (st ∷ sts) all =
    let from = all.0.from in
    let e : st.display - base ≡ length xs + (st.display - (base + length xs)) = omega (arith, from) in
    ap₂ (λ a b. a ∷ b) (with_picture st _ _ (ap (λ n. picture_at (xs ++ ys) n) e ∙ at_back xs ys (st.display - (base + length xs)))) (backs_same base high xs ys sts all.1)

-- ---- the steps of a film, whole groups and what follows them

unshifted : (pictures : List Planes) (sts : List PlanStep) → map (λ st. let x : PlanStep × Planes = (st, picture_at pictures st.display) in x) sts ≡ with_pictures 0 pictures sts
unshifted pictures [] = refl
unshifted pictures (st ∷ sts) = let e : st.display ≡ st.display - 0 = omega arith in ap₂ (λ a b. a ∷ b) (with_picture st _ _ (ap (λ n. picture_at pictures n) e)) (unshifted pictures sts)

pub film_from_start : (f : SessionSettings) (pictures : List Planes) → film_steps f pictures ≡ steps_from f first_place pictures
unfolding planned_steps
film_from_start f pictures = unshifted pictures (plan_of (fixed f.bframes) f.idr (length pictures))

pub steps_behind : (f : SessionSettings) (groups : ℕ) (read more : List Planes) → length read ≡ (place_after f groups).display
    → steps_from f first_place (read ++ more) ≡ steps_from f first_place read ++ steps_from f (place_after f groups) more
steps_behind f groups read more e =
    let w : ℕ → ℕ = wanted_by f in
    let p : Place = place_after f groups in
    let count : ℕ = count_from f groups first_place in
    let up : p.display ≡ 0 + count = goes_up f groups first_place in
    let is : length read ≡ count = omega (arith, e, up) in
    let all : length (read ++ more) ≡ count + length more = length-append read more ∙ ap (λ n. n + length more) is in
    let here : 0 + length read ≡ p.display = omega (arith, e) in
    let front : List PlanStep = plan w f.idr (length read) 0 0 (length read) in
    let back : List PlanStep = plan w f.idr (length more) p.display p.number (length more) in
    let parts : plan w f.idr (length (read ++ more)) 0 0 (length (read ++ more)) ≡ front ++ back =
    ap (λ n. plan w f.idr n 0 0 n) all
    ∙ plan_parts f groups first_place (count + length more) (length more) (omega arith)
    ∙ ap₂ (λ a b. a ++ b)
    (same_plan w f.idr (count + length more) count 0 0 count (omega arith) (omega arith) ∙ ap (λ n. plan w f.idr n 0 0 n) (sym is))
    (same_plan w f.idr (count + length more) (length more) p.display p.number (length more) (omega arith) (omega arith))
    in
    ap (λ sts. with_pictures 0 (read ++ more) sts) parts
    ∙ map-append (λ st. let x : PlanStep × Planes = (st, picture_at (read ++ more) (st.display - 0)) in x) front back
    ∙ ap₂ (λ a b. a ++ b)
    (fronts_same 0 read more front (plan_stands w f.idr (length read) 0 0 (length read)))
    (backs_same 0 (p.display + length more) read more back (subst (λ n. AllByRecursion (Stands n (p.display + length more)) back) (sym here) (plan_stands w f.idr (length more) p.display p.number (length more)))
    ∙ ap (λ n. with_pictures n more back) here)

-- what follows is one group, where no more pictures are left than one has
pub last_group : (f : SessionSettings) (p : Place) (more : List Planes) → 1 ≤ length more → length more ≤ full_at f p → steps_from f p more ≡ group_steps f p more
last_group f p [] some few = absurd (omega (arith, some))
last_group f p (x ∷ xs) some few = ap (λ sts. with_pictures p.display (x ∷ xs) sts) (plan_last (wanted_by f) f.idr (length xs) p.display p.number (length (x ∷ xs)) some few)

pub film_behind : (f : SessionSettings) (groups : ℕ) (read more : List Planes) → length read ≡ (place_after f groups).display → film_steps f (read ++ more) ≡ film_steps f read ++ steps_from f (place_after f groups) more
film_behind f groups read more e = film_from_start f (read ++ more) ∙ steps_behind f groups read more e ∙ ap (λ xs. xs ++ steps_from f (place_after f groups) more) (sym (film_from_start f read))

-- ---- the place behind one group more

pub place_more : (f : SessionSettings) (k : ℕ) (p : Place) → place_from f (suc k) p ≡ place_behind f (place_from f k p) (full_at f (place_from f k p))
unfolding place_from
place_more f zero p = refl
place_more f (suc k) p = place_more f k (place_behind f p (full_at f p))

pub place_behind_all : (f : SessionSettings) (groups : ℕ) (p : Place) → place_from f (groups + 1) p ≡ place_behind f (place_from f groups p) (full_at f (place_from f groups p))
place_behind_all f groups p = let e : groups + 1 ≡ suc groups = omega arith in ap (λ n. place_from f n p) e ∙ place_more f groups p
