-- Encodings, step by step.
use Rattle.std.proofs.Common.{ℕ, ◌+◌, ◌≡◌, ◌<◌, List, [], ◌∷◌, map, Bool, true, false, Option, Some, None, refl, ap, sym, subst, ◌∙◌, arith}
use Rattle.std.specs.Prelude.{nat_eq, ◌%◌, ◌==◌, not, if◌then◌else◌}
use Rattle.std.specs.List.{AllByRecursion, IsDistinct}
use Rattle.enc_tables.specs.declared.records.PlanStep.{PlanStep}
use Rattle.spec_film.specs.Films.{Planes}
use Rattle.spec_headers.specs.declared.heads.SeqHead.{SeqHead}
use Rattle.spec_headers.specs.Allowed.{IsSeqHead}
use Rattle.spec_decoder.specs.Output.{placed, pictures_in}
use Rattle.spec_lists.specs.References.{kept}
use Rattle.spec_lists.specs.Heads.{idr_id_of, is_other}
use Rattle.spec_decoder.specs.Pictures.{Reading, shown_planes, decode_by, read_by}
use Rattle.std.proofs.lemmas.Bool.Decides.{nat_tests}
use Rattle.spec_pictures.specs.Coded.{slices_in}
use Rattle.spec_pictures.specs.Accesses.{IsAccess, AllCoded, picture_of, Follows, shown_from, slices_of_accesses, id_in, AreOthers, places_of}
use Rattle.spec_pictures.proofs.Streams.{streams_decode, streams_are_read}
use Rattle.spec_coding.specs.Laws.{steps_of, places}
use Rattle.spec_coding.specs.Encoding.{State, Picked, Chosen, Fits, Refused, Choice, access_of, coded, after, Went, behind, went_on, encoded, accesses_of, spelled, placed_all, in_order}

-- one step
pub encoded-fits : {S : Type 0} (r : Reading S) (q : SeqHead) (c : Choice S) (s : State) (x : PlanStep × Planes) (xs : List (PlanStep × Planes)) (p : Picked S) → c.chosen s x.0 x.1 ≡ Fits p
    → encoded r q c s (x ∷ xs) ≡ behind (coded r q s x.0 p ∷ []) (encoded r q c (after r q c s x.0 p) xs)
unfolding encoded went_on
encoded-fits r q c s x xs p e = ap (went_on r q c s x.0 (λ t. encoded r q c t xs)) e

abbrev pub refusal : {S : Type 0} → State → PlanStep → ℕ → ℕ → Went S
refusal s st need have = record { done = []; end = s; refused = Some (record { picture = st.display; need = need; have = have }) }

pub encoded-refused : {S : Type 0} (r : Reading S) (q : SeqHead) (c : Choice S) (s : State) (x : PlanStep × Planes) (xs : List (PlanStep × Planes)) (need have : ℕ) → c.chosen s x.0 x.1 ≡ Refused need have
    → encoded r q c s (x ∷ xs) ≡ refusal s x.0 need have
unfolding encoded went_on
encoded-refused r q c s x xs need have e = ap (went_on r q c s x.0 (λ t. encoded r q c t xs)) e

pub encoded-none : {S : Type 0} (r : Reading S) (q : SeqHead) (c : Choice S) (s : State) → encoded r q c s [] ≡ record { done = []; end = s; refused = None }
unfolding encoded
encoded-none r q c s = refl

-- what holds of each step holds of an encoding
by_choice : {S : Type 0} (r : Reading S) (q : SeqHead) (c : Choice S) (Q : State → List (PlanStep × Planes) → Went S → Type 0)
    → ((s : State) (x : PlanStep × Planes) (xs : List (PlanStep × Planes)) (need have : ℕ) → c.chosen s x.0 x.1 ≡ Refused need have → Q s (x ∷ xs) (refusal s x.0 need have))
    → ((s : State) (x : PlanStep × Planes) (xs : List (PlanStep × Planes)) (p : Picked S) (w : Went S) → c.chosen s x.0 x.1 ≡ Fits p → Q (after r q c s x.0 p) xs w → Q s (x ∷ xs) (behind (coded r q s x.0 p ∷ []) w))
    → (s : State) (x : PlanStep × Planes) (xs : List (PlanStep × Planes)) → ((t : State) → Q t xs (encoded r q c t xs)) → (ch : Chosen S) → c.chosen s x.0 x.1 ≡ ch → Q s (x ∷ xs) (encoded r q c s (x ∷ xs))
by_choice r q c Q refused fits s x xs ih (Refused need have) e = subst (Q s (x ∷ xs)) (sym (encoded-refused r q c s x xs need have e)) (refused s x xs need have e)
by_choice r q c Q refused fits s x xs ih (Fits p) e = subst (Q s (x ∷ xs)) (sym (encoded-fits r q c s x xs p e)) (fits s x xs p (encoded r q c (after r q c s x.0 p) xs) e (ih (after r q c s x.0 p)))

pub going : {S : Type 0} (r : Reading S) (q : SeqHead) (c : Choice S) (Q : State → List (PlanStep × Planes) → Went S → Type 0)
    → ((s : State) → Q s [] (record { done = []; end = s; refused = None }))
    → ((s : State) (x : PlanStep × Planes) (xs : List (PlanStep × Planes)) (need have : ℕ) → c.chosen s x.0 x.1 ≡ Refused need have → Q s (x ∷ xs) (refusal s x.0 need have))
    → ((s : State) (x : PlanStep × Planes) (xs : List (PlanStep × Planes)) (p : Picked S) (w : Went S) → c.chosen s x.0 x.1 ≡ Fits p → Q (after r q c s x.0 p) xs w → Q s (x ∷ xs) (behind (coded r q s x.0 p ∷ []) w))
    → (xs : List (PlanStep × Planes)) (s : State) → Q s xs (encoded r q c s xs)
going r q c Q none refused fits [] s = subst (Q s []) (sym (encoded-none r q c s)) (none s)
going r q c Q none refused fits (x ∷ xs) s = by_choice r q c Q refused fits s x xs (λ t. going r q c Q none refused fits xs t) (c.chosen s x.0 x.1) refl

-- ---- what the layers prove of each step, where the state and the steps to come are sound

pub record LayerLaws {S : Type 0} (r : Reading S) (q : SeqHead) (flags : Bool × Bool) (c : Choice S) (Sound : State → List (PlanStep × Planes) → Type 0) : Type 0 where
  pub codes : (s : State) (x : PlanStep × Planes) (xs : List (PlanStep × Planes)) (p : Picked S) → Sound s (x ∷ xs) → c.chosen s x.0 x.1 ≡ Fits p → IsAccess r q flags (kept x.0.idr s.held) (access_of x.0 p)
  pub keeps : (s : State) (x : PlanStep × Planes) (xs : List (PlanStep × Planes)) (p : Picked S) → Sound s (x ∷ xs) → c.chosen s x.0 x.1 ≡ Fits p → Sound (after r q c s x.0 p) xs
  -- an IDR picture has the number of those before it, modulo 2
  pub names : (s : State) (x : PlanStep × Planes) (xs : List (PlanStep × Planes)) (p : Picked S) → Sound s (x ∷ xs) → c.chosen s x.0 x.1 ≡ Fits p → id_in r (slices_in p.slices) ≡ idr_id_of x.0.idr (s.idrs % 2)
  pub counts : (s : State) (x : PlanStep × Planes) (p : Picked S) → (after r q c s x.0 p).idrs ≡ (if x.0.idr then s.idrs + 1 else s.idrs)

pub all_coded : {S : Type 0} (r : Reading S) (q : SeqHead) (flags : Bool × Bool) (c : Choice S) (Sound : State → List (PlanStep × Planes) → Type 0) → LayerLaws r q flags c Sound
    → (xs : List (PlanStep × Planes)) (s : State) → Sound s xs → AllCoded r q flags s.held (accesses_of (encoded r q c s xs).done)
unfolding coded after
all_coded r q flags c Sound laws xs s sound =
    going r q c (λ s xs w. Sound s xs → AllCoded r q flags s.held (accesses_of w.done)) (λ s so. tt) (λ s x xs need have e so. tt)
    (λ s x xs p w e ih so. (laws.codes s x xs p so e, ih (laws.keeps s x xs p so e))) xs s sound

-- the steps that were coded follow one another
pub coded_follow : {S : Type 0} (r : Reading S) (q : SeqHead) (c : Choice S) (xs : List (PlanStep × Planes)) (s : State) (begun : Bool) (base top next : ℕ) → Follows begun base top next (steps_of xs)
    → Follows begun base top next (map (λ a. a.step) (accesses_of (encoded r q c s xs).done))
unfolding coded
coded_follow r q c xs s =
    going r q c (λ s xs w. (begun : Bool) (base top next : ℕ) → Follows begun base top next (steps_of xs) → Follows begun base top next (map (λ a. a.step) (accesses_of w.done)))
    (λ s begun base top next f. tt) (λ s x xs need have e begun base top next f. tt)
    (λ s x xs p w e ih begun base top next f. (f.0, ih _ _ _ _ f.1)) xs s

-- places that are distinct stay so up to a refusal
pub coded_distinct : {S : Type 0} (r : Reading S) (q : SeqHead) (c : Choice S) (xs : List (PlanStep × Planes)) (s : State) → IsDistinct nat_eq (places xs) → IsDistinct nat_eq (places_of (accesses_of (encoded r q c s xs).done))
unfolding coded IsDistinct
coded_distinct r q c xs s h =
    (going r q c
    (λ s xs w. ((n : ℕ) → AllByRecursion (λ m. nat_eq n m ≡ false) (places xs) → AllByRecursion (λ m. nat_eq n m ≡ false) (places_of (accesses_of w.done))) × (IsDistinct nat_eq (places xs) → IsDistinct nat_eq (places_of (accesses_of w.done))))
    (λ s. (λ n h. tt, λ h. tt)) (λ s x xs need have e. (λ n h. tt, λ h. tt))
    (λ s x xs p w e ih. (λ n h. (h.0, ih.0 n h.1), λ h. (ih.0 x.0.display h.0, ih.1 h.1))) xs s).1 h

-- the numbers of IDR pictures, modulo 2, alternate
pub coded_others : {S : Type 0} (r : Reading S) (q : SeqHead) (flags : Bool × Bool) (c : Choice S) (Sound : State → List (PlanStep × Planes) → Type 0) → LayerLaws r q flags c Sound
    → (xs : List (PlanStep × Planes)) (s : State) → Sound s xs → AreOthers r None (slices_of_accesses (accesses_of (encoded r q c s xs).done))
unfolding coded
coded_others r q flags c Sound laws xs s sound =
    going r q c (λ s xs w. Sound s xs → (before : Option ℕ) → is_other (Some (s.idrs % 2)) before ≡ true → AreOthers r before (slices_of_accesses (accesses_of w.done)))
    (λ s so before other. tt) (λ s x xs need have e so before other. tt)
    (λ s x xs p w e ih so before other.
    let own = laws.names s x xs p so e in (
      ap (λ o. is_other o before) own ∙ own_is x.0.idr (s.idrs % 2) before other,
      subst (λ o. AreOthers r o (slices_of_accesses (accesses_of w.done))) (sym own)
          (ih (laws.keeps s x xs p so e) (idr_id_of x.0.idr (s.idrs % 2)) (next_is x.0.idr s.idrs (after r q c s x.0 p).idrs (laws.counts s x p))),
    ))
    xs s sound None refl
  where
    own_is : (idr : Bool) (n : ℕ) (before : Option ℕ) → is_other (Some n) before ≡ true → is_other (idr_id_of idr n) before ≡ true
    own_is true n before h = h
    own_is false n before h = refl

    differ : (n m : ℕ) → m ≡ n + 1 → not (n % 2 == m % 2) ≡ true
    differ n m e = grind (arith, nat_tests, e)

    next_is : (idr : Bool) (n m : ℕ) → m ≡ (if idr then n + 1 else n) → is_other (Some (m % 2)) (idr_id_of idr (n % 2)) ≡ true
    next_is true n m e = differ n m e
    next_is false n m e = refl

-- what a decoder shows of them are the pictures that the encoding keeps
pub shown_same : {S : Type 0} (r : Reading S) (q : SeqHead) (c : Choice S) (xs : List (PlanStep × Planes)) (s : State) (sh : List (ℕ × Planes)) → shown_from r q s.held sh (accesses_of (encoded r q c s xs).done) ≡ placed_all q sh (encoded r q c s xs).done
unfolding shown_from placed_all coded after
shown_same r q c xs s =
    going r q c (λ s xs w. (sh : List (ℕ × Planes)) → shown_from r q s.held sh (accesses_of w.done) ≡ placed_all q sh w.done)
    (λ s sh. refl) (λ s x xs need have e sh. refl)
    (λ s x xs p w e ih sh. ih (placed (x.0.display, shown_planes q (picture_of r q s.held (access_of x.0 p)).planes) sh)) xs s

-- ---- the decoding of an encoding, refused or not, is its pictures in display order, and the slices that are read are its own

pub encodings_decode : {S : Type 0} (r : Reading S) (q : SeqHead) (flags : Bool × Bool) (c : Choice S) (xs : List (PlanStep × Planes)) (s : State) → IsSeqHead q → q.level < 256 → s.held ≡ []
    → AllCoded r q flags s.held (accesses_of (encoded r q c s xs).done) → AreOthers r None (slices_of_accesses (accesses_of (encoded r q c s xs).done)) → Follows false 0 0 0 (steps_of xs) → IsDistinct nat_eq (places xs)
    → decode_by r (spelled q flags (encoded r q c s xs).done) ≡ Some (in_order q (encoded r q c s xs).done)
encodings_decode r q flags c xs s is level none coded others f distinct =
    let done = (encoded r q c s xs).done in
    let are : AllCoded r q flags [] (accesses_of done) = subst (λ h. AllCoded r q flags h (accesses_of done)) none coded in
    let same : shown_from r q [] [] (accesses_of done) ≡ placed_all q [] done = subst (λ h. shown_from r q h [] (accesses_of done) ≡ placed_all q [] done) none (shown_same r q c xs s []) in
    streams_decode r q flags (accesses_of done) is level are (coded_follow r q c xs s false 0 0 0 f) (coded_distinct r q c xs s distinct) others
    ∙ ap (λ ps. Some (pictures_in ps)) same

pub encodings_are_read : {S : Type 0} (r : Reading S) (q : SeqHead) (flags : Bool × Bool) (c : Choice S) (xs : List (PlanStep × Planes)) (s : State) → IsSeqHead q → q.level < 256 → s.held ≡ []
    → AllCoded r q flags s.held (accesses_of (encoded r q c s xs).done) → AreOthers r None (slices_of_accesses (accesses_of (encoded r q c s xs).done)) → Follows false 0 0 0 (steps_of xs) → IsDistinct nat_eq (places xs)
    → read_by r (spelled q flags (encoded r q c s xs).done) ≡ Some (slices_of_accesses (accesses_of (encoded r q c s xs).done))
encodings_are_read r q flags c xs s is level none coded others f distinct =
    let done = (encoded r q c s xs).done in
    let are : AllCoded r q flags [] (accesses_of done) = subst (λ h. AllCoded r q flags h (accesses_of done)) none coded in
    streams_are_read r q flags (accesses_of done) is level are (coded_follow r q c xs s false 0 0 0 f) (coded_distinct r q c xs s distinct) others
