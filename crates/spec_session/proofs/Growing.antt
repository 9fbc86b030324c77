-- Encodings and their outputs grow group by group.
use Rattle.std.proofs.Common.{◌≡◌, ◌≤◌, ◌+◌, ℕ, suc, true, List, [], ◌∷◌, ◌++◌, length, take, drop, Option, Some, None, refl, sym, ap, subst, ◌∙◌, arith, append_assoc, append-nil}
use Rattle.std.specs.List.{AllByRecursion, flat_map}
use Rattle.std.proofs.lemmas.List.{map-append, take-append-drop, length-take-le}
use Rattle.std.proofs.lemmas.Grind.{flat_map-append}
use Rattle.enc_tables.specs.declared.records.PlanStep.{PlanStep}
use Rattle.spec_film.specs.declared.FilmHead.{FilmHead}
use Rattle.spec_film.specs.Films.{Planes, Film, FilmEnd, Ended, Faulty}
use Rattle.spec_film.specs.Written.{head_text, picture_text, film_text}
use Rattle.spec_headers.specs.declared.heads.SeqHead.{SeqHead}
use Rattle.spec_report.specs.Lines.{head_line, picture_line, totals_line}
use Rattle.spec_decoder.specs.Output.{placed, pictures_in}
use Rattle.spec_decoder.specs.Macroblocks.{Slice as Read}
use Rattle.spec_decoder.specs.Frames.{frames}
use Rattle.spec_pictures.specs.Accesses.{access_bytes, accesses_bytes}
use Rattle.spec_pictures.proofs.Order.{AtMost, Below, placed-append, all_placed, all_weaker, pictures-append}
use Rattle.spec_plan.specs.Plan.{fixed, plan}
use Rattle.spec_coding.specs.Encoding.{State, Refusal, Coded, coded, Went, behind, accesses_of, shown_at, placed_all, in_order}
use Rattle.spec_coding.specs.Trials.{choice_of}
use Rattle.spec_coding.specs.Laws.{go_on}
use Rattle.spec_coding.specs.Report.{reported, picture_lines, totals_of}
use Rattle.spec_coding.proofs.Going.{going}
use Rattle.spec_coding.proofs.Groups.{encoded-append}
use Rattle.spec_coding.proofs.Reporting.{totals_add_up}
use Rattle.spec_film_coder.specs.Pictures.{film_coder, film_of, film_encoded}
use Rattle.spec_session.specs.Settings.{SessionSettings}
use Rattle.spec_session.specs.Encodings.{reorders, sequence_of, coder_of, rate_of, report_head, film_steps, start, encoding_from, encoding, stream_of}
use Rattle.spec_session.specs.Groups.{Place, first_place, with_pictures, steps_from, place_after, coded_pictures}
use Rattle.spec_session.specs.Outputs.{Outputs, written_to, group_text, joined, written_by, outputs_of, IsFront, AreFronts}
use Rattle.spec_session.proofs.Placing.{Stands, plan_stands}
use Rattle.spec_session.proofs.Grouping.{film_behind, film_from_start}

-- ---- encodings

pub goes_on : (f : SessionSettings) (s : State) (xs ys : List (PlanStep × Planes)) → encoding_from f s (xs ++ ys) ≡ go_on (λ t. encoding_from f t ys) (encoding_from f s xs) (encoding_from f s xs).refused
unfolding encoding_from film_encoded
goes_on f s xs ys = encoded-append frames (sequence_of f) (choice_of (film_of (coder_of f) (rate_of f) (reorders f)) (film_coder (coder_of f))) xs ys s

pub grows : (f : SessionSettings) (groups : ℕ) (read more : List Planes) → length read ≡ (place_after f groups).display
    → encoding f (read ++ more) ≡ go_on (λ t. encoding_from f t (steps_from f (place_after f groups) more)) (encoding f read) (encoding f read).refused
unfolding encoding
grows f groups read more e = ap (λ xs. encoding_from f (start f) xs) (film_behind f groups read more e) ∙ goes_on f (start f) (film_steps f read) (steps_from f (place_after f groups) more)

-- so it goes on where no picture was refused
pub grows_so : (f : SessionSettings) (groups : ℕ) (read more : List Planes) → length read ≡ (place_after f groups).display → (encoding f read).refused ≡ None
    → encoding f (read ++ more) ≡ behind (encoding f read).done (encoding_from f (encoding f read).end (steps_from f (place_after f groups) more))
grows_so f groups read more e none =
    grows f groups read more e ∙ ap (λ o. go_on (λ t. encoding_from f t (steps_from f (place_after f groups) more)) (encoding f read) o) none

-- ---- where pictures stand

abbrev AllStand : ℕ → ℕ → List (Coded Read) → Type 0
AllStand low high ds = AllByRecursion (λ d. Stands low high d.access.step) ds

abbrev pub StepsStand : ℕ → ℕ → List (PlanStep × Planes) → Type 0
StepsStand low high xs = AllByRecursion (λ x. Stands low high x.0) xs

coded_stand : (f : SessionSettings) (s : State) (xs : List (PlanStep × Planes)) (low high : ℕ) → StepsStand low high xs → AllStand low high (encoding_from f s xs).done
unfolding encoding_from film_encoded coded
coded_stand f s xs low high all =
    going frames (sequence_of f) (choice_of (film_of (coder_of f) (rate_of f) (reorders f)) (film_coder (coder_of f)))
    (λ s xs w. StepsStand low high xs → AllStand low high w.done) (λ s h. tt) (λ s x xs need have e h. tt) (λ s x xs p w e ih h. (h.0, ih h.1)) xs s all

steps_stand : (base : ℕ) (pictures : List Planes) (low high : ℕ) (sts : List PlanStep) → AllByRecursion (Stands low high) sts → StepsStand low high (with_pictures base pictures sts)
steps_stand base pictures low high [] all = tt
steps_stand base pictures low high (st ∷ sts) all = (all.0, steps_stand base pictures low high sts all.1)

pub from_stand : (f : SessionSettings) (p : Place) (pictures : List Planes) → StepsStand p.display (p.display + length pictures) (steps_from f p pictures)
from_stand f p pictures =
    steps_stand p.display pictures p.display (p.display + length pictures) (plan (fixed f.bframes) f.idr (length pictures) p.display p.number (length pictures))
    (plan_stands (fixed f.bframes) f.idr (length pictures) p.display p.number (length pictures))

film_stands : (f : SessionSettings) (pictures : List Planes) → AllStand 0 (0 + length pictures) (encoding f pictures).done
unfolding encoding
film_stands f pictures =
    coded_stand f (start f) (film_steps f pictures) 0 (0 + length pictures)
    (subst (λ xs. StepsStand 0 (0 + length pictures) xs) (sym (film_from_start f pictures)) (from_stand f first_place pictures))

-- ---- the order in which pictures are shown

placed_more : (q : SeqHead) (before : List (ℕ × Planes)) (ds es : List (Coded Read)) → placed_all q before (ds ++ es) ≡ placed_all q (placed_all q before ds) es
unfolding placed_all
placed_more q before [] es = refl
placed_more q before (d ∷ ds) es = placed_more q (placed (shown_at q d) before) ds es

placed_below : (q : SeqHead) (low n : ℕ) (before : List (ℕ × Planes)) (ds : List (Coded Read)) → AllByRecursion (Below n) before → AllStand low n ds → AllByRecursion (Below n) (placed_all q before ds)
unfolding placed_all
placed_below q low n before [] h all = h
placed_below q low n before (d ∷ ds) h all = placed_below q low n (placed (shown_at q d) before) ds (all_placed (Below n) (shown_at q d) before all.0.to h) all.1

placed_behind : (q : SeqHead) (n high : ℕ) (early late : List (ℕ × Planes)) (es : List (Coded Read)) → AllByRecursion (Below n) early → AllStand n high es → placed_all q (early ++ late) es ≡ early ++ placed_all q late es
unfolding placed_all
placed_behind q n high early late [] h all = refl
placed_behind q n high early late (e ∷ es) h all =
    let from = all.0.from in
    let below : AllByRecursion (AtMost e.access.step.display) early = all_weaker (Below n) (AtMost e.access.step.display) early (λ y less. omega (arith, less, from)) h in
    ap (λ ps. placed_all q ps es) (placed-append (shown_at q e) early late below) ∙ placed_behind q n high early (placed (shown_at q e) late) es h all.1

shown_more : (q : SeqHead) (low n high : ℕ) (ds es : List (Coded Read)) → AllStand low n ds → AllStand n high es → in_order q (ds ++ es) ≡ in_order q ds ++ in_order q es
shown_more q low n high ds es small large =
    let early : List (ℕ × Planes) = placed_all q [] ds in
    ap (λ ps. pictures_in ps) (placed_more q [] ds es ∙ ap (λ ps. placed_all q ps es) (sym (append-nil early)) ∙ placed_behind q n high early [] es (placed_below q low n [] ds tt small) large)
    ∙ pictures-append early (placed_all q [] es)

-- ---- the three outputs

stream_more : (f : SessionSettings) (ds es : List (Coded Read)) → stream_of f (ds ++ es) ≡ stream_of f ds ++ stream_of f es
unfolding accesses_bytes
stream_more f ds es =
    ap (λ xs. flat_map (access_bytes (sequence_of f) (true, f.t8x8)) xs) (map-append (λ (d : Coded Read). d.access) ds es)
    ∙ flat_map-append (access_bytes (sequence_of f) (true, f.t8x8)) (accesses_of ds) (accesses_of es)

lines_more : (place : ℕ) (ds es : List (Coded Read)) → picture_lines place (ds ++ es) ≡ picture_lines place ds ++ picture_lines (place + length ds) es
unfolding picture_lines
lines_more place [] es = let e : place ≡ place + 0 = omega arith in ap (λ k. picture_lines k es) e
lines_more place (d ∷ ds) es =
    let e : place + 1 + length ds ≡ place + suc (length ds) = omega arith in
    ap (λ l. picture_line (reported place d) ++ l) (lines_more (place + 1) ds es ∙ ap (λ k. picture_lines (place + 1) ds ++ picture_lines k es) e)
    ∙ sym (append_assoc (picture_line (reported place d)) (picture_lines (place + 1) ds) (picture_lines (place + suc (length ds)) es))

film_more : (h : FilmHead) (ps qs : List Planes) → film_text h (ps ++ qs) ≡ film_text h ps ++ flat_map picture_text qs
unfolding film_text
film_more h ps qs = ap (λ l. head_text h ++ l) (flat_map-append picture_text ps qs) ∙ sym (append_assoc (head_text h) (flat_map picture_text ps) (flat_map picture_text qs))

outputs_are : (a b c x y z : List ℕ) → a ≡ x → b ≡ y → c ≡ z → (let o : Outputs = record { stream = a; recon = b; report = c } in let p : Outputs = record { stream = x; recon = y; report = z } in o ≡ p)
outputs_are a b c x y z e g h = rw (e, g, h) refl

pub written_more : (f : SessionSettings) (low n high coded : ℕ) (ds es : List (Coded Read)) → AllStand low n ds → AllStand n high es → length ds ≡ coded → written_to f (ds ++ es) ≡ joined (written_to f ds) (group_text f coded es)
written_more f low n high coded ds es small large e =
    let place : 0 + length ds ≡ coded = omega (arith, e) in
    outputs_are _ _ _ _ _ _
    (stream_more f ds es)
    (ap (λ ps. film_text f.head ps) (shown_more (sequence_of f) low n high ds es small large) ∙ film_more f.head (in_order (sequence_of f) ds) (in_order (sequence_of f) es))
    (ap (λ l. head_line (report_head f) ++ l) (lines_more 0 ds es ∙ ap (λ k. picture_lines 0 ds ++ picture_lines k es) place)
    ∙ sym (append_assoc (head_line (report_head f)) (picture_lines 0 ds) (picture_lines coded es)))

-- the ledger counts the pictures
pub units_are : (f : SessionSettings) (pictures : List Planes) → length (encoding f pictures).done ≡ (encoding f pictures).end.ledger.units
unfolding encoding encoding_from film_encoded
units_are f pictures =
    ap (λ t. t.pictures) (totals_add_up frames (sequence_of f) (film_of (coder_of f) (rate_of f) (reorders f)) (film_coder (coder_of f)) f.qp (start f) (film_steps f pictures) refl refl)

-- what a group adds
pub outputs_grow : (f : SessionSettings) (groups : ℕ) (read more : List Planes) → length read ≡ (place_after f groups).display → (encoding f read).refused ≡ None
    → written_to f (encoding f (read ++ more)).done
    ≡ joined (written_to f (encoding f read).done) (group_text f (encoding f read).end.ledger.units (encoding_from f (encoding f read).end (steps_from f (place_after f groups) more)).done)
outputs_grow f groups read more e none =
    let p : Place = place_after f groups in
    let w : Went Read = encoding_from f (encoding f read).end (steps_from f p more) in
    let to : 0 + length read ≡ p.display = omega (arith, e) in
    ap (λ v. written_to f v.done) (grows_so f groups read more e none)
    ∙ written_more f 0 p.display (p.display + length more) (encoding f read).end.ledger.units (encoding f read).done w.done
    (subst (λ n. AllStand 0 n (encoding f read).done) to (film_stands f read))
    (coded_stand f (encoding f read).end (steps_from f p more) p.display (p.display + length more) (from_stand f p more))
    (units_are f read)

-- ---- fronts

pub front_same : (xs : List ℕ) → IsFront xs xs
front_same xs = ([], append-nil xs)

pub front_then : (xs ys zs : List ℕ) → IsFront xs ys → IsFront ys zs → IsFront xs zs
front_then xs ys zs h k = (h.0 ++ k.0, sym (append_assoc xs h.0 k.0) ∙ ap (λ l. l ++ k.0) h.1 ∙ k.1)

pub fronts_same : (o : Outputs) → AreFronts o o
fronts_same o = record { stream = front_same o.stream; recon = front_same o.recon; report = front_same o.report }

pub fronts_then : (a b c : Outputs) → AreFronts a b → AreFronts b c → AreFronts a c
fronts_then a b c h k = record {
  stream = front_then a.stream b.stream c.stream h.stream k.stream;
  recon = front_then a.recon b.recon c.recon h.recon k.recon;
  report = front_then a.report b.report c.report h.report k.report;
}

joined_fronts : (a b : Outputs) → AreFronts a (joined a b)
joined_fronts a b = record { stream = (b.stream, refl); recon = (b.recon, refl); report = (b.report, refl) }

pub fronts_grow : (f : SessionSettings) (groups : ℕ) (read more : List Planes) → length read ≡ (place_after f groups).display → (encoding f read).refused ≡ None
    → AreFronts (written_to f (encoding f read).done) (written_to f (encoding f (read ++ more)).done)
fronts_grow f groups read more e none =
    subst (λ o. AreFronts (written_to f (encoding f read).done) o) (sym (outputs_grow f groups read more e none))
    (joined_fronts (written_to f (encoding f read).done) (group_text f (encoding f read).end.ledger.units (encoding_from f (encoding f read).end (steps_from f (place_after f groups) more)).done))

-- with the report's last line or without it
fronts_by : (f : SessionSettings) (refused : Option Refusal) (end : FilmEnd) (ds : List (Coded Read)) → AreFronts (written_to f ds) (written_by f refused end ds)
fronts_by f None Ended ds = record { stream = front_same _; recon = front_same _; report = (totals_line (totals_of ds), refl) }
fronts_by f None (Faulty fault) ds = fronts_same (written_to f ds)
fronts_by f (Some refusal) end ds = fronts_same (written_to f ds)

pub fronts_of_film : (f : SessionSettings) (film : Film) (groups : ℕ) → (place_after f groups).display ≤ length (coded_pictures f film) → (encoding f (take (place_after f groups).display (coded_pictures f film))).refused ≡ None
    → AreFronts (written_to f (encoding f (take (place_after f groups).display (coded_pictures f film))).done) (outputs_of f film)
fronts_of_film f film groups there none =
    let all : List Planes = coded_pictures f film in
    let n : ℕ = (place_after f groups).display in
    let went : Went Read = encoding f all in
    let front : AreFronts (written_to f (encoding f (take n all)).done) (written_to f went.done) =
    subst (λ ps. AreFronts (written_to f (encoding f (take n all)).done) (written_to f (encoding f ps).done)) (take-append-drop n all)
    (fronts_grow f groups (take n all) (drop n all) (length-take-le n all there) none)
    in
    fronts_then (written_to f (encoding f (take n all)).done) (written_to f went.done) (outputs_of f film) front (fronts_by f went.refused film.end went.done)
