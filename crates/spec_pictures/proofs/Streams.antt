-- What a decoder shows of a stream of pictures that are coded one after another.
use Rattle.std.proofs.Common.{ℕ, zero, suc, ◌+◌, ◌-◌, ◌*◌, ◌≡◌, ◌≤◌, ◌<◌, max, List, [], ◌∷◌, ◌++◌, map, length, Bool, true, false, cond, Some, None, refl, ap, ap₂, sym, subst, ◌∙◌, arith, le_refl, append_assoc, append-nil, Option}
use Rattle.std.specs.Prelude.{nat_lt, ◌==◌, ◌&&◌, ◌%◌, option_and_then, nat_eq, not}
use Rattle.std.specs.List.{AllByRecursion, list_all, IsDistinct}
use Rattle.std.proofs.lemmas.Bool.Decides.{nat_tests}
use Rattle.enc_tables.specs.declared.records.PlanStep.{PlanStep}
use Rattle.enc_tables.specs.declared.records.SliceKind.{SliceKind}
use Rattle.enc_tables.specs.declared.records.SliceKind.TheVariants.{I, P, B}
use Rattle.spec_film.specs.Films.{Planes}
use Rattle.spec_headers.specs.declared.heads.SeqHead.{SeqHead}
use Rattle.spec_headers.specs.Allowed.{IsSeqHead}
use Rattle.spec_bits.specs.Units.{Nal}
use Rattle.spec_decoder.specs.Output.{placed, pictures_in}
use Rattle.spec_lists.specs.References.{Reference, kept, slid}
use Rattle.spec_lists.specs.Heads.{is_referred, is_numbered, newest_number, idr_id_of, is_other}
use Rattle.spec_decoder.specs.Pictures.{Reading, Decoder, start, made, shown_planes, held_behind, shown, steps, all_shown, all_read, behind, decode_by, read_by, may_follow}
use Rattle.spec_pictures.specs.Coded.{slices_in}
use Rattle.spec_pictures.specs.Accesses.{Access, set_nals, slice_nals, access_nals, accesses_bytes, Covers, IsAccess, picture_of, held_after, AllCoded, IsPlaced, base_after, next_after, Follows, shown_from, pictures_shown, slices_of_accesses, id_in, AreOthers, places_of}
use Rattle.spec_pictures.proofs.Order.{unshift, AtMost, AtLeast, Below, placed-append, placed_last, placed_shift, all_placed, all_weaker, pictures_shift, pictures-append, IsNew, AreNew, still_new, new_behind, none_equal}
use Rattle.spec_pictures.proofs.Units.{all_units, units_are}
use Rattle.spec_pictures.proofs.Steps.{steps-append, idle, with_sets, sets_read, all_passed, amid, slices_read, id_by_lead}

-- ---- one picture

-- a decoder behind the parameter sets of a picture, where it has any
ready : {S : Type 0} → SeqHead → Bool × Bool → Bool → Decoder S → Decoder S
ready s flags idr d = record d { sequence_set = Some s; picture_set = Some flags; sets_before = idr; held = kept idr d.held; begun = [] }

-- the parameter sets were read, or they stand before the IDR picture
abbrev HasSets : {S : Type 0} → SeqHead → Bool × Bool → Decoder S → Type 0
HasSets s flags d = (d.sequence_set ≡ Some s) × (d.picture_set ≡ Some flags) × (d.sets_before ≡ false)

is_ready : {S : Type 0} (r : Reading S) (s : SeqHead) (flags : Bool × Bool) (idr : Bool) (d : Decoder S) → IsSeqHead s → s.level < 256 → d.begun ≡ [] → (idr ≡ false → HasSets s flags d)
    → steps r (Some d) (set_nals s flags idr) ≡ Some (ready s flags idr d)
unfolding steps ready idle with_sets
is_ready r s flags true d is level none has =
    ap (λ b. steps r (Some (record d { begun = b })) (set_nals s flags true)) none ∙ sets_read r s flags d is level
is_ready r s flags false d is level none has =
    ap (λ b. Some (record d { begun = b })) none ∙ ap₂ (λ a b. Some (record (idle d) { sequence_set = a; picture_set = b })) (has refl).0 (has refl).1
    ∙ ap (λ c. Some (record (idle d) { sequence_set = Some s; picture_set = Some flags; sets_before = c })) (has refl).2

kept_twice : (idr : Bool) (held : List Reference) → kept idr (kept idr held) ≡ kept idr held
kept_twice true held = refl
kept_twice false held = refl

numbered_still : (idr : Bool) (frame_num poc : ℕ) (held : List Reference) → is_numbered idr frame_num poc held ≡ true → is_numbered idr frame_num poc (kept idr held) ≡ true
numbered_still true frame_num poc held e = e
numbered_still false frame_num poc held e = e

-- the parameter sets of an IDR picture don't stand in its way
follows_still : {S : Type 0} (s : SeqHead) (flags : Bool × Bool) (d : Decoder S) (idr : Bool) (idr_id poc : ℕ) → may_follow (record d { sets_before = false }) idr idr_id poc ≡ true → may_follow (ready s flags idr d) idr idr_id poc ≡ true
unfolding ready
follows_still s flags d true idr_id poc e = e
follows_still s flags d false idr_id poc e = e

-- what the decoder is behind a picture
after : {S : Type 0} → Reading S → SeqHead → Bool × Bool → PlanStep → ℕ → List S → Decoder S → Decoder S
after r s flags st idr_id slices d = shown r s (is_referred st.kind) st.idr idr_id st.frame_num st.poc slices (ready s flags st.idr d)

access_read : {S : Type 0} (r : Reading S) (s : SeqHead) (flags : Bool × Bool) (d : Decoder S) (a : Access S)
    → IsSeqHead s → s.level < 256 → d.begun ≡ [] → (a.step.idr ≡ false → HasSets s flags d)
    → is_numbered a.step.idr a.step.frame_num a.step.poc d.held ≡ true
    → (coded : IsAccess r s flags (kept a.step.idr d.held) a) → may_follow (record d { sets_before = false }) a.step.idr coded.lead.idr_id a.step.poc ≡ true
    → steps r (Some d) (access_nals s flags a) ≡ Some (after r s flags a.step coded.lead.idr_id (slices_in a.slices) d)
unfolding access_nals after ready amid shown idle
access_read r s flags d a is level none has number coded next =
    let st : PlanStep = a.step in
    let e : Decoder _ = ready s flags st.idr d in
    let slices : List Nal = slice_nals st a.slices in
    let covers : Covers r s flags (kept st.idr (kept st.idr d.held)) coded.lead st 0 a.slices = subst (λ h. Covers r s flags h coded.lead st 0 a.slices) (sym (kept_twice st.idr d.held)) coded.covers in
    steps-append r (Some d) (set_nals s flags st.idr) (a.before ++ (slices ++ a.behind))
    ∙ ap (λ o. steps r o (a.before ++ (slices ++ a.behind))) (is_ready r s flags st.idr d is level none has)
    ∙ steps-append r (Some e) a.before (slices ++ a.behind)
    ∙ ap (λ o. steps r o (slices ++ a.behind)) (all_passed r e a.before coded.before)
    ∙ steps-append r (Some e) slices a.behind
    ∙ ap (λ o. steps r o a.behind) (slices_read r s flags e coded.lead st a.slices is (numbered_still st.idr st.frame_num st.poc d.held number) (follows_still s flags d st.idr coded.lead.idr_id st.poc next) covers)
    ∙ all_passed r (after r s flags st coded.lead.idr_id (slices_in a.slices) d) a.behind coded.behind

-- ---- the decoder's state is tied to what was coded, and to the pictures so far by their places in display order

record Tied {S : Type 0} (s : SeqHead) (flags : Bool × Bool) (begun : Bool) (base top next : ℕ) (last : Option ℕ) (d : Decoder S) (held : List Reference) (sh : List (ℕ × Planes)) (rd : List (List S)) : Type 0 where
  pub read : d.read ≡ rd
  pub no_sets : d.sets_before ≡ false
  pub last_is : d.idr_before ≡ last
  pub held_are : d.held ≡ held
  pub none : d.begun ≡ []
  pub sets : begun ≡ true → HasSets s flags d
  pub number : begun ≡ true → newest_number held + 1 ≡ next
  pub early : List (ℕ × Planes)
  pub late : List (ℕ × Planes)
  pub split : sh ≡ early ++ late
  pub out : d.out ≡ pictures_in early
  pub period : d.period ≡ map (unshift base) late
  pub early_low : AllByRecursion (AtMost base) early
  pub late_high : AllByRecursion (AtLeast base) late
  pub below : AllByRecursion (Below top) sh

slid_newest : (places : ℕ) (new : Reference) (held : List Reference) → 1 ≤ places → newest_number (slid places new held) ≡ new.frame_num
unfolding slid
slid_newest zero new held h = absurd (omega (arith, h))
slid_newest (suc n) new held h = refl

number_after : {S : Type 0} (r : Reading S) (s : SeqHead) (begun : Bool) (base top next display : ℕ) (kind : SliceKind) (idr : Bool) (frame_num poc : ℕ) (held : List Reference) (new : Reference) → 1 ≤ s.refs → new.frame_num ≡ frame_num
    → IsPlaced idr begun base top next (record { display = display; kind = kind; idr = idr; frame_num = frame_num; poc = poc }) → (begun ≡ true → newest_number held + 1 ≡ next)
    → newest_number (held_behind s (is_referred kind) new (kept idr held)) + 1 ≡ next_after idr (is_referred kind) next
number_after r s begun base top next display kind true frame_num poc held new some e place number =
    ap (λ k. newest_number (held_behind s (is_referred k) new []) + 1) place.3
    ∙ (let n = slid_newest s.refs new [] some in let z = place.2 in omega (arith, n, z, e))
number_after r s begun base top next display I false frame_num poc held new some e place number =
    let n = slid_newest s.refs new held some in let z = place.4 in omega (arith, n, z, e)
number_after r s begun base top next display P false frame_num poc held new some e place number =
    let n = slid_newest s.refs new held some in let z = place.4 in omega (arith, n, z, e)
number_after r s begun base top next display B false frame_num poc held new some e place number = number place.0

-- the step keeps the tie
tied_on : {S : Type 0} (r : Reading S) (s : SeqHead) (flags : Bool × Bool) (begun : Bool) (base top next : ℕ) (last : Option ℕ) (d : Decoder S) (held : List Reference) (sh : List (ℕ × Planes)) (rd : List (List S))
    (display : ℕ) (kind : SliceKind) (idr : Bool) (idr_id frame_num poc : ℕ) (slices : List S)
    → 1 ≤ s.refs → Tied s flags begun base top next last d held sh rd
    → (let st : PlanStep = record { display = display; kind = kind; idr = idr; frame_num = frame_num; poc = poc } in
    let new : Reference = made r s frame_num poc (kept idr held) slices in
    IsPlaced idr begun base top next st
    → Tied s flags true (base_after idr base display) (max top (display + 1)) (next_after idr (is_referred kind) next) (idr_id_of idr idr_id) (after r s flags st idr_id slices d) (held_behind s (is_referred kind) new (kept idr held)) (placed (display, shown_planes s new.planes) sh) (rd ++ slices ∷ []))
unfolding after ready shown made placed
tied_on r s flags begun base top next last d held sh rd display kind true idr_id frame_num poc slices some t h =
    let new : Reference = made r s frame_num poc [] slices in
    let key : ℕ × Planes = (display, shown_planes s new.planes) in
    let low : AllByRecursion (AtMost display) sh = all_weaker (Below top) (AtMost display) sh (λ x k. omega (arith, h.0)) t.below in
    let sorted : placed key sh ≡ sh ++ key ∷ [] = placed_last key sh low in
    let below : AllByRecursion (Below (max top (display + 1))) sh = all_weaker (Below top) (Below (max top (display + 1))) sh (λ x k. omega arith) t.below in
    let own : display < max top (display + 1) = omega arith in
    let zeroed : poc ≡ 2 * (display - display) = omega (arith, h.1) in
    let gone : d.out ++ pictures_in d.period ≡ pictures_in sh =
    ap₂ (λ (xs ys : List Planes). xs ++ ys) t.out (ap (λ ps. pictures_in ps) t.period ∙ pictures_shift base t.late) ∙ sym (pictures-append t.early t.late) ∙ ap (λ ps. pictures_in ps) (sym t.split) in
    record {
      read = ap (λ (rs : List (List _)). rs ++ slices ∷ []) t.read;
      held_are = refl;
      no_sets = refl;
      last_is = refl;
      none = refl;
      sets = λ _. (refl, refl, refl);
      number = λ _. number_after r s begun base top next display kind true frame_num poc held new some refl h t.number;
      early = sh;
      late = key ∷ [];
      split = sorted;
      out = gone;
      period = ap (λ (n : ℕ). let e : ℕ × Planes = (n, shown_planes s new.planes) in e ∷ []) zeroed;
      early_low = low;
      late_high = (le_refl display, tt);
      below = all_placed (Below (max top (display + 1))) key sh own below;
    }
tied_on r s flags begun base top next last d held sh rd display kind false idr_id frame_num poc slices some t h =
    let new : Reference = made r s frame_num poc held slices in
    let same : made r s frame_num poc d.held slices ≡ new = ap (λ hs. made r s frame_num poc hs slices) t.held_are in
    let key : ℕ × Planes = (display, shown_planes s new.planes) in
    let low : AllByRecursion (AtMost display) t.early = all_weaker (AtMost base) (AtMost display) t.early (λ x k. omega (arith, h.1)) t.early_low in
    let below : AllByRecursion (Below (max top (display + 1))) sh = all_weaker (Below top) (Below (max top (display + 1))) sh (λ x k. omega arith) t.below in
    let own : display < max top (display + 1) = omega arith in
    record {
      read = ap (λ (rs : List (List _)). rs ++ slices ∷ []) t.read;
      held_are = ap (λ (hs : List Reference). held_behind s (is_referred kind) (made r s frame_num poc hs slices) hs) t.held_are;
      no_sets = refl;
      last_is = refl;
      none = refl;
      sets = λ _. (refl, refl, refl);
      number = λ _. number_after r s begun base top next display kind false frame_num poc held new some refl h t.number;
      early = t.early;
      late = placed key t.late;
      split = ap (λ ps. placed key ps) t.split ∙ placed-append key t.early t.late low;
      out = t.out;
      period = ap₂ (λ (n : ℕ) (q : Reference). placed (n, shown_planes s q.planes) d.period) h.2 same ∙ ap (λ ps. placed (unshift base key) ps) t.period ∙ placed_shift base key t.late h.1 t.late_high;
      early_low = t.early_low;
      late_high = all_placed (AtLeast base) key t.late h.1 t.late_high;
      below = all_placed (Below (max top (display + 1))) key sh own below;
    }

-- what the numbers of a step are
is_so_numbered : (begun : Bool) (base top next : ℕ) (st : PlanStep) (idr : Bool) (held : List Reference) → IsPlaced idr begun base top next st → (begun ≡ true → newest_number held + 1 ≡ next) → is_numbered idr st.frame_num st.poc held ≡ true
is_so_numbered begun base top next st true held h number = rw (h.1, h.2) refl
is_so_numbered begun base top next st false held h number =
    both (st.frame_num == (newest_number held + 1) % 65536) (nat_lt st.poc 32768) (by st.frame_num (newest_number held + 1) next h.4 (number h.0) h.5) (less st.poc h.3)
  where
    both : (p q : Bool) → p ≡ true → q ≡ true → (p && q) ≡ true
    both p q h k = rw (h, k) refl

    by : (f n next : ℕ) → f ≡ next → n ≡ next → next < 65536 → (f == n % 65536) ≡ true
    by f n next e g small = grind (arith, nat_tests)

    less : (n : ℕ) → n < 32768 → nat_lt n 32768 ≡ true
    less n h = grind (arith, nat_tests)

-- the step may follow those before it
may_go : {S : Type 0} (s : SeqHead) (flags : Bool × Bool) (begun : Bool) (base top next : ℕ) (last : Option ℕ) (d : Decoder S) (held : List Reference) (sh : List (ℕ × Planes)) (rd : List (List S)) → Tied s flags begun base top next last d held sh rd
    → (idr : Bool) (idr_id : ℕ) (st : PlanStep) (own : Option ℕ) → IsPlaced idr begun base top next st → IsNew st.display sh → own ≡ idr_id_of idr idr_id → is_other own last ≡ true → may_follow (record d { sets_before = false }) idr idr_id st.poc ≡ true
may_go s flags begun base top next last d held sh rd t true idr_id st own h new e other = ap₂ (λ a b. is_other a b) (sym e) t.last_is ∙ other
may_go s flags begun base top next last d held sh rd t false idr_id st own h new e other =
    ap₂ (λ (ps : List (ℕ × Planes)) (n : ℕ). list_all (λ p. not (p.0 == n)) ps) t.period h.2
    ∙ none_equal base st.display t.late h.1 t.late_high (new_behind st.display t.early t.late (subst (λ xs. IsNew st.display xs) t.split new))

begun_before : (idr begun : Bool) (base top next : ℕ) (st : PlanStep) → IsPlaced idr begun base top next st → idr ≡ false → begun ≡ true
begun_before true begun base top next st h e = absurd cc
begun_before false begun base top next st h e = h.0

-- ---- all pictures

-- where a decoder stands behind them, and what it has shown and read
record Goes {S : Type 0} (r : Reading S) (s : SeqHead) (flags : Bool × Bool) (d : Decoder S) (held : List Reference) (sh : List (ℕ × Planes)) (rd : List (List S)) (accesses : List (Access S)) : Type 0 where
  pub last : Decoder S
  pub steps_are : steps r (Some d) (all_units s flags accesses) ≡ Some last
  pub shows : all_shown last ≡ Some (pictures_in (shown_from r s held sh accesses))
  pub reads : all_read last ≡ Some (rd ++ slices_of_accesses accesses)

ended : {S : Type 0} (r : Reading S) (s : SeqHead) (flags : Bool × Bool) (begun : Bool) (base top next : ℕ) (last : Option ℕ) (d : Decoder S) (held : List Reference) (sh : List (ℕ × Planes)) (rd : List (List S)) → Tied s flags begun base top next last d held sh rd → Goes r s flags d held sh rd []
unfolding shown_from all_units steps
ended r s flags begun base top next last d held sh rd t = record {
  last = d;
  steps_are = refl;
  shows =
      ap (λ (c : Bool). cond ((length d.begun == 0) && not c) (Some (d.out ++ pictures_in d.period)) None) t.no_sets
      ∙ ap₂ (λ (b : List _) (ps : List Planes). cond ((length b == 0) && true) (Some ps) None) t.none
      (ap₂ (λ (xs ys : List Planes). xs ++ ys) t.out (ap (λ ps. pictures_in ps) t.period ∙ pictures_shift base t.late) ∙ sym (pictures-append t.early t.late) ∙ ap (λ ps. pictures_in ps) (sym t.split));
  reads = ap (λ (c : Bool). cond ((length d.begun == 0) && not c) (Some d.read) None) t.no_sets ∙ ap₂ (λ (b : List _) (rs : List (List _)). cond ((length b == 0) && true) (Some rs) None) t.none (t.read ∙ sym (append-nil rd));
}

by_rest : {S : Type 0} (r : Reading S) (s : SeqHead) (flags : Bool × Bool) (a : Access S) (rest : List (Access S)) (d : Decoder S) (held : List Reference) (sh : List (ℕ × Planes)) (rd : List (List S)) (now : Decoder S)
    → steps r (Some d) (access_nals s flags a) ≡ Some now
    → Goes r s flags now (held_after r s held a) (placed (a.step.display, shown_planes s (picture_of r s held a).planes) sh) (rd ++ slices_in a.slices ∷ []) rest
    → Goes r s flags d held sh rd (a ∷ rest)
unfolding shown_from all_units
by_rest r s flags a rest d held sh rd now first g = record {
  last = g.last;
  steps_are = steps-append r (Some d) (access_nals s flags a) (all_units s flags rest) ∙ ap (λ o. steps r o (all_units s flags rest)) first ∙ g.steps_are;
  shows = g.shows;
  reads = g.reads ∙ ap (λ (rs : List (List _)). Some rs) (append_assoc rd (slices_in a.slices ∷ []) (slices_of_accesses rest));
}

go : {S : Type 0} (r : Reading S) (s : SeqHead) (flags : Bool × Bool) (accesses : List (Access S)) (begun : Bool) (base top next : ℕ) (last : Option ℕ) (d : Decoder S) (held : List Reference) (sh : List (ℕ × Planes)) (rd : List (List S))
    → IsSeqHead s → s.level < 256 → Tied s flags begun base top next last d held sh rd → AllCoded r s flags held accesses → Follows begun base top next (map (λ a. a.step) accesses)
    → IsDistinct nat_eq (places_of accesses) → AreNew sh (places_of accesses) → AreOthers r last (slices_of_accesses accesses) → Goes r s flags d held sh rd accesses
unfolding held_after IsDistinct
go r s flags [] begun base top next last d held sh rd is level t coded f distinct new others = ended r s flags begun base top next last d held sh rd t
go r s flags (a ∷ rest) begun base top next last d held sh rd is level t coded f distinct new others =
    let st : PlanStep = a.step in
    let slices : List _ = slices_in a.slices in
    let fits : IsAccess r s flags (kept st.idr d.held) a = subst (λ h. IsAccess r s flags (kept st.idr h) a) (sym t.held_are) coded.0 in
    let idr_id : ℕ = fits.lead.idr_id in
    let own : id_in r slices ≡ idr_id_of st.idr idr_id = id_by_lead r s flags (kept st.idr d.held) fits.lead st a.slices is fits.covers in
    let now : Decoder _ = after r s flags st idr_id slices d in
    let made_now : Reference = made r s st.frame_num st.poc (kept st.idr held) slices in
    let still : Tied s flags true (base_after st.idr base st.display) (max top (st.display + 1)) (next_after st.idr (is_referred st.kind) next) (idr_id_of st.idr idr_id) now (held_behind s (is_referred st.kind) made_now (kept st.idr held)) (placed (st.display, shown_planes s made_now.planes) sh) (rd ++ slices ∷ []) =
    tied_on r s flags begun base top next last d held sh rd st.display st.kind st.idr idr_id st.frame_num st.poc slices is.refs_from t f.0 in
    let number : is_numbered st.idr st.frame_num st.poc d.held ≡ true = subst (λ h. is_numbered st.idr st.frame_num st.poc h ≡ true) (sym t.held_are) (is_so_numbered begun base top next st st.idr held f.0 t.number) in
    let first : steps r (Some d) (access_nals s flags a) ≡ Some now = access_read r s flags d a is level t.none (λ e. t.sets (begun_before st.idr begun base top next st f.0 e)) number fits
    (may_go s flags begun base top next last d held sh rd t st.idr idr_id st (id_in r slices) f.0 new.0 own others.0) in
    by_rest r s flags a rest d held sh rd now first
    (go r s flags rest true (base_after st.idr base st.display) (max top (st.display + 1)) (next_after st.idr (is_referred st.kind) next) (idr_id_of st.idr idr_id) now (held_behind s (is_referred st.kind) made_now (kept st.idr held)) (placed (st.display, shown_planes s made_now.planes) sh) (rd ++ slices ∷ []) is level still coded.1 f.1
    distinct.1 (still_new (st.display, shown_planes s made_now.planes) sh (places_of rest) distinct.0 new.1) (subst (λ o. AreOthers r o (slices_of_accesses rest)) own others.1))

-- a decoder that has read nothing
nothing_read : {S : Type 0} (s : SeqHead) (flags : Bool × Bool) → Tied {S = S} s flags false 0 0 0 None start [] [] []
nothing_read s flags = record { read = refl; no_sets = refl; last_is = refl; held_are = refl; none = refl; sets = λ e. absurd cc; number = λ e. absurd cc; early = []; late = []; split = refl; out = refl; period = refl; early_low = tt; late_high = tt; below = tt }

from_start : {S : Type 0} (r : Reading S) (s : SeqHead) (flags : Bool × Bool) (accesses : List (Access S)) → IsSeqHead s → s.level < 256 → AllCoded r s flags [] accesses → Follows false 0 0 0 (map (λ a. a.step) accesses) → IsDistinct nat_eq (places_of accesses) → AreOthers r None (slices_of_accesses accesses)
    → Goes r s flags start [] [] [] accesses
from_start r s flags accesses is level coded f distinct others =
    go r s flags accesses false 0 0 0 None start [] [] [] is level (nothing_read s flags) coded f distinct (none_there (places_of accesses)) others
  where
    none_there : (ns : List ℕ) → AreNew [] ns
    none_there [] = tt
    none_there (n ∷ ns) = (tt, none_there ns)

behind_is : {S : Type 0} (r : Reading S) (s : SeqHead) (flags : Bool × Bool) (accesses : List (Access S)) → AllCoded r s flags [] accesses → behind r (accesses_bytes s flags accesses) ≡ steps r (Some start) (all_units s flags accesses)
behind_is r s flags accesses coded = ap (λ o. option_and_then (steps r (Some start)) o) (units_are r s flags [] accesses coded)

pub streams_decode : {S : Type 0} (r : Reading S) (s : SeqHead) (flags : Bool × Bool) (accesses : List (Access S)) → IsSeqHead s → s.level < 256 → AllCoded r s flags [] accesses → Follows false 0 0 0 (map (λ a. a.step) accesses) → IsDistinct nat_eq (places_of accesses) → AreOthers r None (slices_of_accesses accesses)
    → decode_by r (accesses_bytes s flags accesses) ≡ Some (pictures_shown r s accesses)
unfolding decode_by
streams_decode r s flags accesses is level coded f distinct others =
    let g = from_start r s flags accesses is level coded f distinct others in
    ap (λ o. option_and_then all_shown o) (behind_is r s flags accesses coded ∙ g.steps_are) ∙ g.shows

pub streams_are_read : {S : Type 0} (r : Reading S) (s : SeqHead) (flags : Bool × Bool) (accesses : List (Access S)) → IsSeqHead s → s.level < 256 → AllCoded r s flags [] accesses → Follows false 0 0 0 (map (λ a. a.step) accesses) → IsDistinct nat_eq (places_of accesses) → AreOthers r None (slices_of_accesses accesses)
    → read_by r (accesses_bytes s flags accesses) ≡ Some (slices_of_accesses accesses)
unfolding read_by
streams_are_read r s flags accesses is level coded f distinct others =
    let g = from_start r s flags accesses is level coded f distinct others in
    ap (λ o. option_and_then all_read o) (behind_is r s flags accesses coded ∙ g.steps_are) ∙ g.reads
