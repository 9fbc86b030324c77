-- The pictures of a group in display order, and what the whole group leaves.
use Rattle.std.proofs.Common.{ℕ, zero, suc, ◌+◌, ◌-◌, ◌%◌, ◌≡◌, ◌≤◌, ◌<◌, ◌==◌, Bool, true, false, cond, List, [], ◌∷◌, ◌++◌, length, map, take, drop, get_or, slice_set, Some, Result, Ok, Err, refl, ap, ap₂, sym, subst, ◌∙◌, arith, append-nil, append_assoc}
use Rattle.std.specs.Prelude.{nat_lt, if◌then◌else◌}
use Rattle.std.specs.List.{AllByRecursion}
use Rattle.std.proofs.lemmas.Bool.Decides.{nat_tests}
use Rattle.std.proofs.lemmas.List.{map-append}
use Rattle.enc_edge.specs.declared.studio.Out.{Out}
use Rattle.enc_edge.specs.declared.studio.Out.TheVariants.{Stream, Report}
use Rattle.enc_edge.specs.declared.studio.Place.TheVariants.{Output}
use Rattle.enc_edge.specs.Seen.{Seen}
use Rattle.enc_edge.specs.Calls.{wrote}
use Rattle.enc_tables.specs.declared.records.PlanStep.{PlanStep}
use Rattle.picture_planes.specs.declared.picture.Picture.{Picture}
use Rattle.picture_planes.specs.Pictures.{planes_of}
use Rattle.spec_film.specs.Films.{Planes}
use Rattle.spec_film.specs.Cropping.{shown}
use Rattle.spec_headers.specs.declared.heads.SeqHead.{SeqHead}
use Rattle.spec_lists.specs.References.{Reference as Shown, kept, slid}
use Rattle.spec_lists.specs.Heads.{is_referred}
use Rattle.spec_decoder.specs.Frames.{frames}
use Rattle.spec_decoder.specs.Macroblocks.{Slice as Read}
use Rattle.spec_decoder.specs.Output.{placed, pictures_in}
use Rattle.spec_decoder.specs.Pictures.{shown_planes}
use Rattle.spec_pictures.specs.Accesses.{accesses_bytes, held_after}
use Rattle.spec_plan.specs.Plan.{group, idr_step, p_step, b_step, b_steps}
use Rattle.spec_coding.specs.Encoding.{State, Picked, Coded, Went, Fits, Refused, after, behind, coded, shown_at, placed_all, in_order}
use Rattle.spec_coding.specs.Report.{picture_lines}
use Rattle.spec_session.specs.Settings.{SessionSettings}
use Rattle.spec_session.specs.Encodings.{encoding_from, picture_at, sequence_of, stream_of}
use Rattle.spec_session.specs.Groups.{with_pictures}
use Rattle.enc_session.specs.declared.ends.GroupEnd.{GroupEnd}
use Rattle.enc_session.specs.declared.ends.GroupEnd.TheVariants.{Buffer, Write}
use Rattle.enc_session.specs.Going.{paired, spoken, EndedBy, BetweenLeft}
use Rattle.enc_session.specs.Grouped.{StepsLeft}
use Rattle.enc_session.specs.Showing.{coded_planes}
use Rattle.enc_session.specs.Stepping.{unit_of, line_in, picture_in, StepCut, StepLeft}
use Rattle.enc_session.specs.Steps.{choice_in}
use Rattle.enc_session.proofs.Growing.{from_fits, from_refused, cut_behind, spoken_none, spoken_more, spoken_one, stream_more, stream_one, lines_more, lines_one, picture_planes, step_of, units_after, paired_steps, map_set, no_planes}

-- ---- pictures in order

less : (a b : ℕ) → a < b → nat_lt a b ≡ true
less a b h = grind (arith, nat_tests)

not_less : (a b : ℕ) → b ≤ a → nat_lt a b ≡ false
not_less a b h = grind (arith, nat_tests)

placed_between : (x last : ℕ × Planes) (early : List (ℕ × Planes)) → AllByRecursion (λ (y : ℕ × Planes). y.0 ≤ x.0) early → x.0 < last.0 → placed x (early ++ last ∷ []) ≡ (early ++ x ∷ []) ++ last ∷ []
unfolding placed
placed_between x last [] h k = ap (λ (b : Bool). cond b (x ∷ last ∷ []) (last ∷ x ∷ [])) (less x.0 last.0 k)
placed_between x last (y ∷ ys) h k =
    ap (λ (b : Bool). cond b (x ∷ y ∷ ys ++ last ∷ []) (y ∷ placed x (ys ++ last ∷ []))) (not_less x.0 y.0 h.0)
    ∙ ap (λ (zs : List (ℕ × Planes)). y ∷ zs) (placed_between x last ys h.1 k)

-- they stand in display order, before the one that was coded first
abbrev Rises : ℕ → ℕ → List (Coded Read) → Type 0
Rises low top [] = Unit {0}
Rises low top (d ∷ ds) = (low ≤ d.access.step.display) × (d.access.step.display < top) × Rises (d.access.step.display + 1) top ds

early_more : (n m : ℕ) (x : ℕ × Planes) (early : List (ℕ × Planes)) → n ≤ m → x.0 ≤ m → AllByRecursion (λ (y : ℕ × Planes). y.0 ≤ n) early → AllByRecursion (λ (y : ℕ × Planes). y.0 ≤ m) (early ++ x ∷ [])
early_more n m x [] le h k = (h, tt)
early_more n m x (y ∷ ys) le h k = let a = k.0 in (omega (arith, a, le), early_more n m x ys le h k.1)

early_most : (n m : ℕ) (early : List (ℕ × Planes)) → n ≤ m → AllByRecursion (λ (y : ℕ × Planes). y.0 ≤ n) early → AllByRecursion (λ (y : ℕ × Planes). y.0 ≤ m) early
early_most n m [] le k = tt
early_most n m (y ∷ ys) le k = let a = k.0 in (omega (arith, a, le), early_most n m ys le k.1)

placed_rising : (q : SeqHead) (low : ℕ) (last : ℕ × Planes) (early : List (ℕ × Planes)) (ds : List (Coded Read)) → AllByRecursion (λ (y : ℕ × Planes). y.0 ≤ low) early → Rises low last.0 ds → placed_all q (early ++ last ∷ []) ds ≡ (early ++ map (shown_at q) ds) ++ last ∷ []
unfolding placed_all
placed_rising q low last early [] h r = ap (λ (xs : List (ℕ × Planes)). xs ++ last ∷ []) (sym (append-nil early))
placed_rising q low last early (d ∷ ds) h r =
    let x : ℕ × Planes = shown_at q d in
    let from = r.0 in
    ap (λ (ps : List (ℕ × Planes)). placed_all q ps ds) (placed_between x last early (early_most low x.0 early from h) r.1)
    ∙ placed_rising q (x.0 + 1) last (early ++ x ∷ []) ds (early_more low (x.0 + 1) x early (omega (arith, from)) (omega arith) h) r.2
    ∙ ap (λ (xs : List (ℕ × Planes)). xs ++ last ∷ []) (append_assoc early (x ∷ []) (map (shown_at q) ds))

pictures_split : (xs : List (ℕ × Planes)) (y : ℕ × Planes) → pictures_in (xs ++ y ∷ []) ≡ pictures_in xs ++ y.1 ∷ []
pictures_split [] y = refl
pictures_split (x ∷ xs) y = ap (λ (ps : List Planes). x.1 ∷ ps) (pictures_split xs y)

shown_each : (q : SeqHead) (ds : List (Coded Read)) → pictures_in (map (shown_at q) ds) ≡ map (shown_planes q) (map (λ (d : Coded Read). d.picture.planes) ds)
shown_each q [] = refl
shown_each q (d ∷ ds) = ap (λ (ps : List Planes). shown_planes q d.picture.planes ∷ ps) (shown_each q ds)

ordered : (q : SeqHead) (d : Coded Read) (ds : List (Coded Read)) → Rises 0 d.access.step.display ds → in_order q (d ∷ ds) ≡ map (shown_planes q) (map (λ (x : Coded Read). x.picture.planes) ds ++ d.picture.planes ∷ [])
unfolding placed_all placed
ordered q d ds r =
    ap (λ (ps : List (ℕ × Planes)). pictures_in ps) (placed_rising q 0 (shown_at q d) [] ds tt r)
    ∙ pictures_split (map (shown_at q) ds) (shown_at q d)
    ∙ ap (λ (ps : List Planes). ps ++ shown_planes q d.picture.planes ∷ []) (shown_each q ds)
    ∙ sym (map-append (shown_planes q) (map (λ (x : Coded Read). x.picture.planes) ds) (d.picture.planes ∷ []))

-- by the steps
abbrev pub StepsRise : ℕ → ℕ → List PlanStep → Type 0
StepsRise low top [] = Unit {0}
StepsRise low top (st ∷ sts) = (low ≤ st.display) × (st.display < top) × StepsRise (st.display + 1) top sts

rises_by : (low top : ℕ) (ds : List (Coded Read)) → StepsRise low top (map (λ (d : Coded Read). d.access.step) ds) → Rises low top ds
rises_by low top [] h = tt
rises_by low top (d ∷ ds) h = (h.0, h.1, rises_by (d.access.step.display + 1) top ds h.2)

b_rise : (idr d number top low k m : ℕ) → low ≤ d → d + k ≤ top → StepsRise low top (take m (b_steps idr d number k))
unfolding b_steps
b_rise idr d number top low zero zero h t = tt
b_rise idr d number top low zero (suc m) h t = tt
b_rise idr d number top low (suc k) zero h t = tt
b_rise idr d number top low (suc k) (suc m) h t = (h, omega (arith, t), b_rise idr (d + 1) number top (d + 1) k m (omega arith) (omega (arith, t)))

none_rise : (low top m : ℕ) → StepsRise low top (take m [])
none_rise low top zero = tt
none_rise low top (suc m) = tt

group_rise_by : (b : Bool) (d n idr number m : ℕ) (e : PlanStep) → (d % idr == 0) ≡ b → StepsRise 0 (get_or (group d n idr number) 0 e).display (take m (drop 1 (group d n idr number)))
unfolding group
group_rise_by true d n idr number m e b =
    subst (λ (xs : List PlanStep). StepsRise 0 (get_or xs 0 e).display (take m (drop 1 xs))) (sym (ap (λ (t : Bool). if t then idr_step d ∷ [] else p_step idr (d + (n - 1)) number ∷ b_steps idr d number (n - 1)) b)) (none_rise 0 d m)
group_rise_by false d n idr number m e b =
    subst (λ (xs : List PlanStep). StepsRise 0 (get_or xs 0 e).display (take m (drop 1 xs))) (sym (ap (λ (t : Bool). if t then idr_step d ∷ [] else p_step idr (d + (n - 1)) number ∷ b_steps idr d number (n - 1)) b))
    (b_rise idr d number (d + (n - 1)) 0 (n - 1) m (omega arith) (omega arith))

pub group_rise : (d n idr number m : ℕ) (e : PlanStep) → StepsRise 0 (get_or (group d n idr number) 0 e).display (take m (drop 1 (group d n idr number)))
group_rise d n idr number m e = group_rise_by (d % idr == 0) d n idr number m e refl

-- ---- the steps with their pictures

dropped : (ps : List Planes) (j : ℕ) (e : Planes) → j < length ps → drop j ps ≡ get_or ps j e ∷ drop (suc j) ps
dropped [] j e h = absurd (omega (arith, h))
dropped (p ∷ ps) zero e h = refl
dropped (p ∷ ps) (suc j) e h = dropped ps j e (omega (arith, h))

b_paired : (idr d number : ℕ) (pictures ps : List Planes) (e : Planes) (j k : ℕ) → j + k ≤ length ps → ((i : ℕ) → i < j + k → get_or ps i e ≡ picture_at pictures i) → with_pictures d pictures (b_steps idr (d + j) number k) ≡ paired (b_steps idr (d + j) number k) (drop j ps)
unfolding b_steps
b_paired idr d number pictures ps e j zero few same = refl
b_paired idr d number pictures ps e j (suc k) few same =
    let back : d + j - d ≡ j = omega arith in
    let next : d + j + 1 ≡ d + (j + 1) = omega arith in
    let one : suc j ≡ j + 1 = omega arith in
    ap₂ (λ (p : Planes) (xs : List (PlanStep × Planes)). (b_step idr (d + j) number, p) ∷ xs)
    (ap (λ (i : ℕ). picture_at pictures i) back ∙ sym (same j (omega arith)))
    (ap (λ (x : ℕ). with_pictures d pictures (b_steps idr x number k)) next
    ∙ b_paired idr d number pictures ps e (j + 1) k (omega (arith, few)) (λ i h. same i (omega (arith, h)))
    ∙ ap₂ (λ (x i : ℕ). paired (b_steps idr x number k) (drop i ps)) (sym next) (sym one))
    ∙ sym (ap (λ (xs : List Planes). paired (b_step idr (d + j) number ∷ b_steps idr (d + j + 1) number k) xs) (dropped ps j e (omega (arith, few))))

steps_by : (b : Bool) (d n idr number : ℕ) (pictures ps : List Planes) (st : PlanStep) (source e : Planes) → (d % idr == 0) ≡ b → 1 ≤ n → (b ≡ true → n ≡ 1) → n - 1 ≤ length ps → ((i : ℕ) → i < n - 1 → get_or ps i e ≡ picture_at pictures i) → source ≡ picture_at pictures (n - 1) → st ≡ get_or (group d n idr number) 0 st
    → with_pictures d pictures (group d n idr number) ≡ (st, source) ∷ paired (drop 1 (group d n idr number)) ps
unfolding group
steps_by true d n idr number pictures ps st source e b one alone few same last first =
    let g : group d n idr number ≡ idr_step d ∷ [] = ap (λ (t : Bool). if t then idr_step d ∷ [] else p_step idr (d + (n - 1)) number ∷ b_steps idr d number (n - 1)) b in
    let zero_place : d - d ≡ n - 1 = let a = alone refl in omega (arith, a) in
    subst (λ (xs : List PlanStep). st ≡ get_or xs 0 st → with_pictures d pictures xs ≡ (st, source) ∷ paired (drop 1 xs) ps) (sym g)
    (λ f. ap₂ (λ (x : PlanStep) (p : Planes). (x, p) ∷ []) (sym f) (ap (λ (i : ℕ). picture_at pictures i) zero_place ∙ sym last)) first
steps_by false d n idr number pictures ps st source e b one alone few same last first =
    let g : group d n idr number ≡ p_step idr (d + (n - 1)) number ∷ b_steps idr d number (n - 1) = ap (λ (t : Bool). if t then idr_step d ∷ [] else p_step idr (d + (n - 1)) number ∷ b_steps idr d number (n - 1)) b in
    let back : d + (n - 1) - d ≡ n - 1 = omega arith in
    let zero_place : d ≡ d + 0 = omega arith in
    subst (λ (xs : List PlanStep). st ≡ get_or xs 0 st → with_pictures d pictures xs ≡ (st, source) ∷ paired (drop 1 xs) ps) (sym g)
    (λ f.
    ap₂ (λ (x : PlanStep) (p : Planes). (x, p) ∷ with_pictures d pictures (b_steps idr d number (n - 1))) (sym f) (ap (λ (i : ℕ). picture_at pictures i) back ∙ sym last)
    ∙ ap (λ (xs : List (PlanStep × Planes)). (st, source) ∷ xs)
    (ap (λ (x : ℕ). with_pictures d pictures (b_steps idr x number (n - 1))) zero_place ∙ b_paired idr d number pictures ps e 0 (n - 1) (omega (arith, few)) (λ i h. same i (omega (arith, h))) ∙ ap (λ (x : ℕ). paired (b_steps idr x number (n - 1)) ps) (sym zero_place))) first

pub steps_are : (d n idr number : ℕ) (pictures ps : List Planes) (st : PlanStep) (source e : Planes) → 1 ≤ n → ((d % idr == 0) ≡ true → n ≡ 1) → n - 1 ≤ length ps → ((i : ℕ) → i < n - 1 → get_or ps i e ≡ picture_at pictures i) → source ≡ picture_at pictures (n - 1) → st ≡ get_or (group d n idr number) 0 st
    → with_pictures d pictures (group d n idr number) ≡ (st, source) ∷ paired (drop 1 (group d n idr number)) ps
steps_are d n idr number pictures ps st source e one alone few same last first = steps_by (d % idr == 0) d n idr number pictures ps st source e refl one (λ b. alone b) few same last first

-- ---- the newest reference

newest_slid : (refs : ℕ) (r : Shown) (held : List Shown) → 1 ≤ refs → take 1 (map (λ (x : Shown). x.planes) (slid refs r held)) ≡ r.planes ∷ []
unfolding slid
newest_slid zero r held h = absurd (omega (arith, h))
newest_slid (suc n) r held h = refl

pub newest_held : (f : SessionSettings) (s : State) (st : PlanStep) (p : Picked Read) (t : State) → 1 ≤ f.refs → is_referred st.kind ≡ true → t ≡ after frames (sequence_of f) (choice_in f) s st p → take 1 (map (λ (x : Shown). x.planes) t.held) ≡ (picture_in f s st p).planes ∷ []
unfolding after held_after
newest_held f s st p t refs referred e =
    ap (λ (x : State). take 1 (map (λ (y : Shown). y.planes) x.held)) e
    ∙ ap (λ (b : Bool). take 1 (map (λ (y : Shown). y.planes) (if b then slid f.refs (picture_in f s st p) (kept st.idr s.held) else kept st.idr s.held))) referred
    ∙ newest_slid f.refs (picture_in f s st p) (kept st.idr s.held) refs

-- ---- together

behind_first : (f : SessionSettings) (s t : State) (st : PlanStep) (source : Planes) (bs : List (PlanStep × Planes)) (p : Picked Read) → (choice_in f).chosen s st source ≡ Fits p → t ≡ after frames (sequence_of f) (choice_in f) s st p
    → encoding_from f s ((st, source) ∷ bs) ≡ behind (coded frames (sequence_of f) s st p ∷ []) (encoding_from f t bs)
behind_first f s t st source bs p fits e = from_fits f s st source bs p fits ∙ ap (λ (u : State). behind (coded frames (sequence_of f) s st p ∷ []) (encoding_from f u bs)) (sym e)

-- the first and the others
ended_behind : (f : SessionSettings) (s t u : State) (st : PlanStep) (source : Planes) (bs : List (PlanStep × Planes)) (p : Picked Read) (ds : List (Coded Read)) (old mid new : Seen) (r : Result (Unit {0}) GroupEnd) → (choice_in f).chosen s st source ≡ Fits p → t ≡ after frames (sequence_of f) (choice_in f) s st p
    → mid ≡ wrote (Output Report) (line_in f s st p) (wrote (Output Stream) (unit_of f st p) old) → EndedBy f t bs ds mid new u r → EndedBy f s ((st, source) ∷ bs) (coded frames (sequence_of f) s st p ∷ ds) old new u r
ended_behind f s t u st source bs p ds old mid new r fits state seen h = by r h
  where
    units : t.ledger.units ≡ s.ledger.units + 1
    units = ap (λ (v : State). v.ledger.units) state ∙ units_after f s st p

    first : mid ≡ spoken f s.ledger.units (coded frames (sequence_of f) s st p ∷ []) old
    first = seen ∙ spoken_one f s st p s.ledger.units old refl

    whole : encoding_from f s ((st, source) ∷ bs) ≡ behind (coded frames (sequence_of f) s st p ∷ []) (encoding_from f t bs)
    whole = behind_first f s t st source bs p fits state

    more : (es : List (Coded Read)) → spoken f t.ledger.units es mid ≡ spoken f s.ledger.units (coded frames (sequence_of f) s st p ∷ es) old
    more es = ap₂ (λ (n : ℕ) (m : Seen). spoken f n es m) units first ∙ spoken_more f s.ledger.units (coded frames (sequence_of f) s st p ∷ []) es old

    by : (r : Result (Unit {0}) GroupEnd) → EndedBy f t bs ds mid new u r → EndedBy f s ((st, source) ∷ bs) (coded frames (sequence_of f) s st p ∷ ds) old new u r
    by (Ok done) k = (whole ∙ ap (λ (w : Went Read). behind (coded frames (sequence_of f) s st p ∷ []) w) k.0, k.1 ∙ more ds)
    by (Err (Buffer picture need have)) k = ((k.0.0, whole ∙ ap (λ (w : Went Read). behind (coded frames (sequence_of f) s st p ∷ []) w) k.0.1), k.1 ∙ more ds)
    by (Err (Write out)) k =
        cut_behind f s.ledger.units (coded frames (sequence_of f) s st p ∷ []) (encoding_from f s ((st, source) ∷ bs)).done (stream_of f (encoding_from f t bs).done) (picture_lines t.ledger.units (encoding_from f t bs).done) out old mid new first [] [] (
          ap (λ (w : Went Read). stream_of f w.done) whole ∙ stream_more f (coded frames (sequence_of f) s st p ∷ []) (encoding_from f t bs).done ∙ sym (append-nil (stream_of f (coded frames (sequence_of f) s st p ∷ []) ++ stream_of f (encoding_from f t bs).done)),
          ap (λ (w : Went Read). picture_lines s.ledger.units w.done) whole ∙ lines_more s.ledger.units (coded frames (sequence_of f) s st p ∷ []) (encoding_from f t bs).done
              ∙ ap (λ (n : ℕ). picture_lines s.ledger.units (coded frames (sequence_of f) s st p ∷ []) ++ picture_lines n (encoding_from f t bs).done) (sym units)
              ∙ sym (append-nil (picture_lines s.ledger.units (coded frames (sequence_of f) s st p ∷ []) ++ picture_lines t.ledger.units (encoding_from f t bs).done)),
        ) k

coded_some : (slots newest : List Planes) (n : ℕ) → coded_planes (n + 1) slots newest ≡ take n slots ++ newest
coded_some slots newest n = let e : n + 1 ≡ suc n = omega arith in ap (λ (k : ℕ). coded_planes k slots newest) e ∙ by n
  where
    some : (n : ℕ) → (suc n == 0) ≡ false
    some n = grind (arith, nat_tests)

    by : (n : ℕ) → coded_planes (suc n) slots newest ≡ take n slots ++ newest
    by n = let e : suc n - 1 ≡ n = omega arith in ap₂ (λ (b : Bool) (k : ℕ). if b then [] else take k slots ++ newest) (some n) e

pub steps_left : (f : SessionSettings) (s t u : State) (st : PlanStep) (source : Planes) (sts : List PlanStep) (first now newest : List Planes) (p : Picked Read) (old mid new : Seen) (n : ℕ) (r : Result (Unit {0}) GroupEnd) → length sts ≤ length first → newest ≡ (picture_in f s st p).planes ∷ [] → StepsRise 0 st.display (take n sts)
    → (choice_in f).chosen s st source ≡ Fits p → t ≡ after frames (sequence_of f) (choice_in f) s st p → mid ≡ wrote (Output Report) (line_in f s st p) (wrote (Output Stream) (unit_of f st p) old) → BetweenLeft f t (paired sts first) mid new u now n r
    → StepsLeft f s ((st, source) ∷ paired sts first) old new u now newest (n + 1) r
steps_left f s t u st source sts first now newest p old mid new n r few last rise fits state seen b = record {
  done = coded frames (sequence_of f) s st p ∷ b.done;
  order =
      ordered (sequence_of f) (coded frames (sequence_of f) s st p) b.done
      (subst (λ (x : ℕ). Rises 0 x b.done) (ap (λ (y : PlanStep). y.display) (sym (step_of f s st p)))
      (rises_by 0 st.display b.done (subst (λ (xs : List PlanStep). StepsRise 0 st.display xs) (sym (b.steps ∙ ap (λ (xs : List PlanStep). take n xs) (paired_steps sts first few))) rise)))
      ∙ ap₂ (λ (ps qs : List Planes). map (shown f.head) (ps ++ qs)) b.shown (ap (λ (q : Planes). q ∷ []) (picture_planes f s st p) ∙ sym last)
      ∙ ap (λ (ps : List Planes). map (shown f.head) ps) (sym (coded_some now newest n));
  ended = ended_behind f s t u st source (paired sts first) p b.done old mid new r fits state seen b.ended;
}

no_order : (q : SeqHead) → in_order {S = Read} q [] ≡ []
unfolding placed_all
no_order q = refl

no_stream : (f : SessionSettings) (xs : List ℕ) → stream_of f [] ++ xs ≡ xs
unfolding accesses_bytes
no_stream f xs = refl

no_lines : (n : ℕ) (xs : List ℕ) → picture_lines {S = Read} n [] ++ xs ≡ xs
unfolding picture_lines
no_lines n xs = refl

-- the first one was refused, or couldn't be written
pub first_refused : (f : SessionSettings) (s u : State) (st : PlanStep) (source : Planes) (bs : List (PlanStep × Planes)) (now newest : List Planes) (old new : Seen) (picture need have : ℕ) → picture ≡ st.display → (choice_in f).chosen s st source ≡ Refused need have → new ≡ old
    → StepsLeft f s ((st, source) ∷ bs) old new u now newest 0 (Err (Buffer picture need have))
first_refused f s u st source bs now newest old new picture need have display refused same = record {
  done = [];
  order = no_order (sequence_of f);
  ended = (
    (s, from_refused f s st source bs need have refused ∙ ap (λ (n : ℕ). let w : Went Read = record { done = []; end = s; refused = Some (record { picture = n; need = need; have = have }) } in w) (sym display)),
    same ∙ spoken_none f s.ledger.units old,
  );
}

pub first_cut : (f : SessionSettings) (s u : State) (st : PlanStep) (source : Planes) (bs : List (PlanStep × Planes)) (now newest : List Planes) (old new : Seen) (out : Out) (p : Picked Read) → StepCut f s st source out old new p
    → StepsLeft f s ((st, source) ∷ bs) old new u now newest 0 (Err (Write out))
first_cut f s u st source bs now newest old new out p c =
    let x : Coded Read = coded frames (sequence_of f) s st p in
    let t : State = after frames (sequence_of f) (choice_in f) s st p in
    let whole : encoding_from f s ((st, source) ∷ bs) ≡ behind (x ∷ []) (encoding_from f t bs) = from_fits f s st source bs p c.chosen in
    record {
      done = [];
      order = no_order (sequence_of f);
      ended = cut_behind f s.ledger.units [] (encoding_from f s ((st, source) ∷ bs)).done (unit_of f st p) (line_in f s st p) out old old new (spoken_none f s.ledger.units old)
          (stream_of f (encoding_from f t bs).done) (picture_lines (s.ledger.units + 1) (encoding_from f t bs).done) (
            ap (λ (w : Went Read). stream_of f w.done) whole ∙ stream_more f (x ∷ []) (encoding_from f t bs).done ∙ ap (λ (xs : List ℕ). xs ++ stream_of f (encoding_from f t bs).done) (stream_one f s st p ∙ sym (no_stream f (unit_of f st p))),
            ap (λ (w : Went Read). picture_lines s.ledger.units w.done) whole ∙ lines_more s.ledger.units (x ∷ []) (encoding_from f t bs).done ∙ ap (λ (xs : List ℕ). xs ++ picture_lines (s.ledger.units + 1) (encoding_from f t bs).done) (lines_one s.ledger.units x ∙ sym (no_lines s.ledger.units (line_in f s st p))),
          )
          c.cut;
    }

pub first_failed : (f : SessionSettings) (s u : State) (st : PlanStep) (source : Planes) (slot : Picture) (bs : List (PlanStep × Planes)) (now newest : List Planes) (old new : Seen) (end : GroupEnd) → StepLeft f s st source slot old new u (Err end) → StepsLeft f s ((st, source) ∷ bs) old new u now newest 0 (Err end)
first_failed f s u st source slot bs now newest old new (Buffer picture need have) left = first_refused f s u st source bs now newest old new picture need have left.0 left.1 left.2
first_failed f s u st source slot bs now newest old new (Write out) left = first_cut f s u st source bs now newest old new out left.0 left.1

-- ---- the group's steps with what stands in the slots

length-taken : (ps : List Planes) (n : ℕ) → n ≤ length ps → length (take n ps) ≡ n
length-taken ps zero h = refl
length-taken [] (suc n) h = absurd (omega (arith, h))
length-taken (p ∷ ps) (suc n) h = ap suc (length-taken ps n (omega (arith, h)))

get_taken : (ps : List Planes) (n i : ℕ) (e : Planes) → i < n → get_or (take n ps) i e ≡ get_or ps i e
get_taken ps zero i e h = absurd (omega (arith, h))
get_taken [] (suc n) i e h = refl
get_taken (p ∷ ps) (suc n) zero e h = refl
get_taken (p ∷ ps) (suc n) (suc i) e h = get_taken ps n i e (omega (arith, h))

pub group_is : (d idr number : ℕ) (steps : List PlanStep) (planes ps : List Planes) (st : PlanStep) (source : Planes) → steps ≡ group d (length steps) idr number → 1 ≤ length steps → ((d % idr == 0) ≡ true → length steps ≡ 1) → length steps ≤ length planes → length steps ≤ length ps
    → ((i : ℕ) → i < length steps - 1 → get_or ps i no_planes ≡ get_or planes i no_planes) → source ≡ get_or planes (length steps - 1) no_planes → st ≡ get_or steps 0 st
    → with_pictures d (take (length steps) planes) (group d (length (take (length steps) planes)) idr number) ≡ (st, source) ∷ paired (drop 1 steps) ps
group_is d idr number steps planes ps st source is one alone few room same last first =
    let n : ℕ = length steps in
    ap (λ (k : ℕ). with_pictures d (take n planes) (group d k idr number)) (length-taken planes n few)
    ∙ steps_are d n idr number (take n planes) ps st source no_planes one alone (omega (arith, room)) (λ i h. same i h ∙ sym (get_taken planes n i no_planes (omega (arith, h))))
    (last ∙ sym (get_taken planes n (n - 1) no_planes (omega (arith, one)))) (first ∙ ap (λ (xs : List PlanStep). get_or xs 0 st) is)
    ∙ ap (λ (xs : List PlanStep). (st, source) ∷ paired (drop 1 xs) ps) (sym is)

set_other : (xs : List Planes) (k : ℕ) (v : Planes) (i : ℕ) (e : Planes) → i < k → get_or (slice_set xs k v) i e ≡ get_or xs i e
set_other [] k v i e h = refl
set_other (x ∷ xs) zero v i e h = absurd (omega (arith, h))
set_other (x ∷ xs) (suc k) v zero e h = refl
set_other (x ∷ xs) (suc k) v (suc i) e h = set_other xs k v i e (omega (arith, h))

-- another slot's picture changes nothing of the first ones
pub others_same : (slots : List Picture) (k : ℕ) (p : Picture) (i : ℕ) → i < k → get_or (map planes_of (slice_set slots k p)) i no_planes ≡ get_or (map planes_of slots) i no_planes
others_same slots k p i h = ap (λ (ps : List Planes). get_or ps i no_planes) (map_set planes_of slots k p) ∙ set_other (map planes_of slots) k (planes_of p) i no_planes h
