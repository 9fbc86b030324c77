-- The steps of a plan with the pictures of a film are sound, so the film's encoding decodes.
use Rattle.std.proofs.Common.{◌≡◌, ◌≤◌, ◌<◌, ◌+◌, ◌-◌, ◌%◌, ◌++◌, ◌⊎◌, inl, inr, ℕ, zero, suc, Bool, true, false, cond, List, [], ◌∷◌, length, map, Some, None, refl, sym, ap, subst, ◌∙◌, arith}
use Rattle.std.specs.Prelude.{◌==◌, nat_eq, if◌then◌else◌}
use Rattle.std.specs.List.{AllByRecursion, IsDistinct}
use Rattle.std.proofs.lemmas.Bool.{cases_lt}
use Rattle.std.proofs.lemmas.Bool.Decides.{nat_tests}
use Rattle.std.proofs.lemmas.List.{length-map}
use Rattle.enc_tables.specs.declared.records.PlanStep.{PlanStep}
use Rattle.enc_tables.specs.declared.records.SliceKind.{SliceKind}
use Rattle.enc_tables.specs.declared.records.SliceKind.TheVariants.{I}
use Rattle.spec_film.specs.Films.{Planes}
use Rattle.spec_record_laws.specs.Coded.{PlanesFit}
use Rattle.spec_buffer.specs.Buffer.{Rate, BufferHolds, IsRate}
use Rattle.spec_buffer.specs.Ledger.{sizes_of}
use Rattle.spec_decoder.specs.Frames.{frames, decode, slices_read}
use Rattle.spec_pictures.specs.Accesses.{IsPlaced, Follows, slices_of_accesses}
use Rattle.spec_plan.specs.Plan.{idr_step, p_step, b_steps, group, plan, plan_of, displays, times}
use Rattle.spec_plan.specs.Marks.{HasLists}
use Rattle.spec_plan.proofs.Follow.{plans_follow, a_step_each}
use Rattle.spec_plan.proofs.Lists.{plans_have_lists}
use Rattle.spec_plan.proofs.Places.{no_other, places_differ}
use Rattle.spec_coding.specs.Encoding.{accesses_of}
use Rattle.spec_coding.specs.Trials.{choice_of}
use Rattle.spec_coding.specs.Laws.{steps_of, places, spendings}
use Rattle.spec_coding.proofs.Choosing.{the_buffer_holds}
use Rattle.spec_coding.proofs.Groups.{one_for_each}
use Rattle.spec_film_coder.specs.Pictures.{CoderSettings, film_coder, film_of, film_encoded, film_bytes, film_shown}
use Rattle.spec_film_coder.specs.Sound.{InterFits, StepFits, IsStep, IsSound, planned_steps, first_state, IsFilm}
use Rattle.spec_film_coder.proofs.Films.{shows, reads}

-- ---- the kinds of a plan's steps

abbrev KindWith : Bool → SliceKind → Type 0
KindWith true kind = kind ≡ I
KindWith false kind = InterFits kind

abbrev HasKind : PlanStep → Type 0
HasKind st = KindWith st.idr st.kind

both : (xs ys : List PlanStep) → AllByRecursion HasKind xs → AllByRecursion HasKind ys → AllByRecursion HasKind (xs ++ ys)
both [] ys h g = g
both (x ∷ xs) ys h g = (h.0, both xs ys h.1 g)

either : (b : Bool) (xs ys : List PlanStep) → AllByRecursion HasKind xs → AllByRecursion HasKind ys → AllByRecursion HasKind (if b then xs else ys)
either true xs ys h g = h
either false xs ys h g = g

b_kinds : (idr display number k : ℕ) → AllByRecursion HasKind (b_steps idr display number k)
unfolding b_steps
b_kinds idr display number zero = tt
b_kinds idr display number (suc k) = (tt, b_kinds idr (display + 1) number k)

group_kinds : (display got idr number : ℕ) → AllByRecursion HasKind (group display got idr number)
unfolding group
group_kinds display got idr number = either (display % idr == 0) (idr_step display ∷ []) (p_step idr (display + (got - 1)) number ∷ b_steps idr display number (got - 1)) (refl, tt) (tt, b_kinds idr display number (got - 1))

plan_kinds : (wanted : ℕ → ℕ) (idr groups display number left : ℕ) → AllByRecursion HasKind (plan wanted idr groups display number left)
unfolding plan
plan_kinds wanted idr zero display number left = tt
plan_kinds wanted idr (suc groups) display number left = either (left == 0) [] _ tt (both _ _ (group_kinds display _ idr number) (plan_kinds wanted idr groups _ _ _))

-- ---- their numbers

abbrev NumbersWith : Bool → PlanStep → Type 0
NumbersWith true st = (st.frame_num ≡ 0) × (st.poc ≡ 0)
NumbersWith false st = (st.frame_num < 65536) × (st.poc < 65536)

abbrev HasNumbers : PlanStep → Type 0
HasNumbers st = NumbersWith st.idr st

placed_so : (idr begun : Bool) (base top next : ℕ) (st : PlanStep) → IsPlaced idr begun base top next st → NumbersWith idr st
placed_so true begun base top next st h = (h.2, h.1)
placed_so false begun base top next st h = let number = h.4 in let small = h.5 in let poc = h.3 in (omega (arith, number, small), omega (arith, poc))

follow_numbers : (begun : Bool) (base top next : ℕ) (sts : List PlanStep) → Follows begun base top next sts → AllByRecursion HasNumbers sts
follow_numbers begun base top next [] f = tt
follow_numbers begun base top next (st ∷ sts) f = (placed_so st.idr begun base top next st f.0, follow_numbers true _ _ _ sts f.1)

-- ---- their places

chosen : (b : Bool) (t : ℕ) → b ≡ true → cond b 1 0 + t ≡ 0 → ⊥
chosen true t e h = omega (arith, h)
chosen false t e h = absurd cc

own_once : (d t : ℕ) → cond (d == d) 1 0 + t ≡ 0 → ⊥
own_once d t e = chosen (d == d) t (equal d) e
  where
    equal : (n : ℕ) → (n == n) ≡ true
    equal n = grind (arith, nat_tests)

rest_none : (a t : ℕ) → a + t ≡ 0 → t ≡ 0
rest_none a t e = omega (arith, e)

below : (n : ℕ) (sts : List PlanStep) → ((k : ℕ) → n ≤ k → times k (displays sts) ≡ 0) → AllByRecursion (λ st. st.display < n) sts
unfolding times
below n [] h = tt
below n (st ∷ sts) h = (inside (cases_lt st.display n), below n sts (λ k more. rest_none (cond (st.display == k) 1 0) (times k (displays sts)) (h k more)))
  where
    inside : (st.display < n) ⊎ (n ≤ st.display) → st.display < n
    inside (inl less) = less
    inside (inr more) = absurd (own_once st.display (times st.display (displays sts)) (h st.display more))

-- ---- with their pictures

one_fits : (idr : Bool) (kind : SliceKind) (st : PlanStep) → KindWith idr kind → NumbersWith idr st → StepFits idr kind st
one_fits true kind st k n = (k, n.0, n.1)
one_fits false kind st k n = (k, n.0, n.1)

all_steps : (n : ℕ) (source : ℕ → Planes) (sts : List PlanStep) → n ≤ 4000000 → ((d : ℕ) → d < n → PlanesFit (source d)) → AllByRecursion HasKind sts → AllByRecursion HasNumbers sts → AllByRecursion (λ st. st.display < n) sts
    → AllByRecursion IsStep (map (λ st. (st, source st.display)) sts)
all_steps n source [] few fit k m d = tt
all_steps n source (st ∷ sts) few fit k m d =
    let inside : st.display < n = d.0 in
    (record { fits = one_fits st.idr st.kind st k.0 m.0; display = omega (arith, few, inside); source = fit st.display inside }, all_steps n source sts few fit k.1 m.1 d.1)

steps_are : (source : ℕ → Planes) (sts : List PlanStep) → steps_of (map (λ st. (st, source st.display)) sts) ≡ sts
steps_are source [] = refl
steps_are source (st ∷ sts) = ap (λ (xs : List PlanStep). st ∷ xs) (steps_are source sts)

places_are : (source : ℕ → Planes) (sts : List PlanStep) → places (map (λ st. (st, source st.display)) sts) ≡ displays sts
places_are source [] = refl
places_are source (st ∷ sts) = ap (λ (xs : List ℕ). st.display ∷ xs) (places_are source sts)

module _ (c : CoderSettings) (rate : Rate) (wanted : ℕ → ℕ) (idr pictures : ℕ) (source : ℕ → Planes) (film : IsFilm c rate wanted idr pictures source) where
  follows : Follows false 0 0 0 (steps_of (planned_steps wanted idr pictures source))
  unfolding planned_steps
  follows = subst (λ (sts : List PlanStep). Follows false 0 0 0 sts) (sym (steps_are source (plan_of wanted idr pictures))) (plans_follow wanted idr pictures film.idr_some film.idr_most)

  distinct : IsDistinct nat_eq (places (planned_steps wanted idr pictures source))
  unfolding planned_steps
  distinct = subst (λ (ds : List ℕ). IsDistinct nat_eq ds) (sym (places_are source (plan_of wanted idr pictures))) (places_differ wanted idr pictures)

  sound : (qp : ℕ) → IsSound c rate (first_state qp) (planned_steps wanted idr pictures source)
  unfolding planned_steps
  sound qp =
      let few = film.few in
      let with_picture : PlanStep → PlanStep × Planes = λ st. (st, source st.display) in
      let long : length (map with_picture (plan_of wanted idr pictures)) ≡ pictures = length-map (plan_of wanted idr pictures) with_picture ∙ a_step_each wanted idr pictures in
      record {
        held = tt;
        lists = subst (λ (sts : List PlanStep). HasLists c.sequence.refs [] sts) (sym (steps_are source (plan_of wanted idr pictures)))
            (plans_have_lists wanted idr c.sequence.refs pictures film.idr_some film.settings.sequence.refs_from film.room);
        steps = all_steps pictures source (plan_of wanted idr pictures) film.few film.fit (plan_kinds wanted idr pictures 0 0 pictures)
            (follow_numbers false 0 0 0 (plan_of wanted idr pictures) (plans_follow wanted idr pictures film.idr_some film.idr_most)) (below pictures (plan_of wanted idr pictures) (λ k more. no_other wanted idr pictures k more));
        few = omega (arith, long, few);
        some_delay = film.some_delay;
        delay = film.delay;
      }

  pub film_decodes : (reorders : Bool) (qp : ℕ) → decode (film_bytes c rate reorders (first_state qp) (planned_steps wanted idr pictures source)) ≡ Some (film_shown c rate reorders (first_state qp) (planned_steps wanted idr pictures source))
  film_decodes reorders qp = shows c rate reorders (first_state qp) (planned_steps wanted idr pictures source) film.settings film.level refl (sound qp) follows distinct

  pub film_is_read : (reorders : Bool) (qp : ℕ) → slices_read (film_bytes c rate reorders (first_state qp) (planned_steps wanted idr pictures source))
      ≡ Some (slices_of_accesses (accesses_of (film_encoded c rate reorders (first_state qp) (planned_steps wanted idr pictures source)).done))
  film_is_read reorders qp = reads c rate reorders (first_state qp) (planned_steps wanted idr pictures source) film.settings film.level refl (sound qp) follows distinct

  pub film_is_whole : (reorders : Bool) (qp : ℕ) → (film_encoded c rate reorders (first_state qp) (planned_steps wanted idr pictures source)).refused ≡ None → length (film_shown c rate reorders (first_state qp) (planned_steps wanted idr pictures source)) ≡ pictures
  unfolding film_encoded planned_steps
  film_is_whole reorders qp none =
      let with_picture : PlanStep → PlanStep × Planes = λ st. (st, source st.display) in
      one_for_each frames c.sequence (choice_of (film_of c rate reorders) (film_coder c)) (planned_steps wanted idr pictures source) (first_state qp) none
      ∙ length-map (plan_of wanted idr pictures) with_picture ∙ a_step_each wanted idr pictures

  pub film_keeps_the_buffer : (reorders : Bool) (qp : ℕ) → IsRate rate → BufferHolds rate (sizes_of (spendings (film_encoded c rate reorders (first_state qp) (planned_steps wanted idr pictures source)).done))
  unfolding film_encoded
  film_keeps_the_buffer reorders qp is = the_buffer_holds frames c.sequence (film_of c rate reorders) (film_coder c) qp (first_state qp) (planned_steps wanted idr pictures source) is refl
