-- What the coder of a film owes encodings.
use Rattle.std.proofs.Common.{◌≡◌, ◌≤◌, ◌<◌, ◌+◌, ◌-◌, ◌*◌, ◌%◌, ◌^◌, max, min, ℕ, Bool, true, false, List, [], ◌∷◌, length, map, Some, None, refl, sym, ap, subst, ◌∙◌, arith, le_refl}
use Rattle.std.specs.Prelude.{◌==◌, if◌then◌else◌, IfSome}
use Rattle.std.proofs.lemmas.List.{length-map}
use Rattle.enc_tables.specs.declared.records.PlanStep.{PlanStep}
use Rattle.enc_tables.specs.declared.records.SliceKind.{SliceKind}
use Rattle.spec_film.specs.Films.{Planes}
use Rattle.spec_headers.specs.declared.heads.SeqHead.{SeqHead}
use Rattle.spec_headers.specs.declared.heads.SliceHead.{SliceHead}
use Rattle.spec_headers.specs.MessageReaders.{AreDelays}
use Rattle.spec_lists.specs.References.{Reference, kept, slid}
use Rattle.spec_lists.specs.Heads.{is_referred, idr_id_of}
use Rattle.spec_lists.specs.Lists.{pictures_of}
use Rattle.spec_slice_payload.specs.Layer.{Format, Slice}
use Rattle.spec_record_laws.specs.Coded.{PlanesFit}
use Rattle.spec_record_laws.proofs.Filtered.{filtered_picture_fits}
use Rattle.spec_tasks.specs.Entries.{command_of}
use Rattle.spec_tasks.specs.Given.{PicturesFit}
use Rattle.spec_buffer.specs.Buffer.{Rate}
use Rattle.spec_buffer.specs.Ledger.{initial_delay, spent}
use Rattle.spec_decoder.specs.Sets.{across_of, down_of}
use Rattle.spec_decoder.specs.Pictures.{held_behind, made}
use Rattle.spec_decoder.specs.Macroblocks.{Slice as Read, of_records}
use Rattle.spec_decoder.specs.Frames.{frames, first_lists, all_records, picture_made}
use Rattle.spec_pictures.specs.Coded.{CodedSlice, slices_in}
use Rattle.spec_pictures.specs.Accesses.{Access, Covers, held_after}
use Rattle.spec_pictures.proofs.Steps.{id_by_lead}
use Rattle.spec_plan.specs.Marks.{mark, marks_kept, KindFits, Falls, HasLists}
use Rattle.spec_plan.proofs.Held.{marks_go_on}
use Rattle.spec_coding.specs.Encoding.{State, access_of, after}
use Rattle.spec_coding.specs.Trials.{Trial, delays_of, slices_by, picked_by, moved_by, choice_of}
use Rattle.spec_coding.specs.Laws.{CoderLaws, steps_of}
use Rattle.spec_encoding.specs.Encoding.{with_payload}
use Rattle.spec_encoding.proofs.Coded.{blank_fits, built_fits}
use Rattle.spec_film_coder.specs.Pictures.{CoderSettings, shape, format, plain_head, coarsest_head, plain_rule, coarsest_rule, plain_picture, coarsest_picture, film_coder, film_of}
use Rattle.spec_film_coder.specs.Sound.{AreSettings, StepFits, IsSound}
use Rattle.spec_film_coder.proofs.Moved.{taken}
use Rattle.spec_film_coder.proofs.Heads.{Ready, HeadsFit, heads_fit, none_moves, command_moves}
use Rattle.spec_film_coder.proofs.Pictures.{plain_fits, coarsest_fits, picture_covers}

-- ---- the references of a step

kept_kind : (idr : Bool) (kind : SliceKind) (poc number : ℕ) (held : List Reference) → KindFits kind poc number (marks_kept idr (map mark held)) → KindFits kind poc number (map mark (kept idr held))
kept_kind true kind poc number held h = h
kept_kind false kind poc number held h = h

kept_falls : (idr : Bool) (held : List Reference) → Falls (map mark held) → Falls (map mark (kept idr held))
kept_falls true held h = tt
kept_falls false held h = h

kept_few : (idr : Bool) (held : List Reference) (n : ℕ) → length held ≤ n → length (kept idr held) ≤ n
kept_few true held n h = omega arith
kept_few false held n h = h

kept_fit : (idr : Bool) (held : List Reference) → PicturesFit held → PicturesFit (kept idr held)
kept_fit true held h = tt
kept_fit false held h = h

ready : (c : CoderSettings) (rate : Rate) (s : State) (x : PlanStep × Planes) (xs : List (PlanStep × Planes)) → AreSettings c → IsSound c rate s (x ∷ xs) → Ready x.0.kind x.0 (kept x.0.idr s.held)
ready c rate s x xs set so =
    let few : length (map mark s.held) ≤ c.sequence.refs = so.lists.2 in
    let most = set.sequence.refs_to in
    record {
      marks = kept_kind x.0.idr x.0.kind x.0.poc x.0.frame_num s.held so.lists.0;
      falls = kept_falls x.0.idr s.held so.lists.1;
      few = kept_few x.0.idr s.held 4 (omega (arith, few, most, length-map s.held mark));
      fit = kept_fit x.0.idr s.held so.held;
    }

-- ---- the slices of a trial

abbrev pictures_by : CoderSettings → State → PlanStep → Planes → Trial → List Slice
pictures_by c s st source t = if t.coarsest then coarsest_picture (shape c) (kept st.idr s.held) st s.idrs source else plain_picture (shape c) (kept st.idr s.held) st s.idrs t.qp source

either : {A B : Type 0} (f : A → B) (b : Bool) (xs ys : List A) → (if b then map f xs else map f ys) ≡ map f (if b then xs else ys)
either f true xs ys = refl
either f false xs ys = refl

slices_are : (c : CoderSettings) (s : State) (st : PlanStep) (source : Planes) (t : Trial) → slices_by (film_coder c) s st source t ≡ map (with_payload (format (shape c))) (pictures_by c s st source t)
unfolding slices_by
slices_are c s st source t = either (with_payload (format (shape c))) t.coarsest (coarsest_picture (shape c) (kept st.idr s.held) st s.idrs source) (plain_picture (shape c) (kept st.idr s.held) st s.idrs t.qp source)

-- they cover the picture, and tell the number of an IDR picture
record Told (c : CoderSettings) (held : List Reference) (st : PlanStep) (number : ℕ) (cs : List (CodedSlice Read)) : Type 0 where
  lead : SliceHead
  covers : Covers frames c.sequence (true, c.t8x8) held lead st 0 cs
  id : idr_id_of st.idr lead.idr_id ≡ idr_id_of st.idr (number % 2)

plain_told : (c : CoderSettings) (held : List Reference) (st : PlanStep) (number qp : ℕ) (source : Planes) → AreSettings c → StepFits st.idr st.kind st → PlanesFit source → Ready st.kind st held → qp ≤ 51
    → Told c held st number (map (with_payload (format (shape c))) (plain_picture (shape c) held st number qp source))
unfolding plain_picture
plain_told c held st number qp source set fits g ready small =
    let h : HeadsFit st held number qp (plain_head st held number qp source) =
    heads_fit st.idr st.kind st held number (command_of st.kind st.frame_num source held) qp refl refl fits small ready (command_moves st.idr st.kind st held source fits ready) in
    record {
      lead = plain_head st held number qp source 0;
      covers = picture_covers c st held number qp (plain_head st held number qp source) (plain_rule (shape c) held source) set h (plain_fits c st held number qp (plain_head st held number qp source) source set g small h);
      id = h.id;
    }

coarsest_told : (c : CoderSettings) (held : List Reference) (st : PlanStep) (number : ℕ) (source : Planes) → AreSettings c → StepFits st.idr st.kind st → Ready st.kind st held
    → Told c held st number (map (with_payload (format (shape c))) (coarsest_picture (shape c) held st number source))
unfolding coarsest_picture
coarsest_told c held st number source set fits ready =
    let h : HeadsFit st held number 51 (coarsest_head st held number) = heads_fit st.idr st.kind st held number None 51 refl refl fits (le_refl 51) ready (none_moves st.kind st.frame_num held) in
    record {
      lead = coarsest_head st held number 0;
      covers = picture_covers c st held number 51 (coarsest_head st held number) (coarsest_rule (shape c) held source) set h (coarsest_fits c st held number (coarsest_head st held number) source set h);
      id = h.id;
    }

either_told : (c : CoderSettings) (held : List Reference) (st : PlanStep) (number qp : ℕ) (source : Planes) (b : Bool) → AreSettings c → StepFits st.idr st.kind st → PlanesFit source → Ready st.kind st held → qp ≤ 51
    → Told c held st number (map (with_payload (format (shape c))) (if b then coarsest_picture (shape c) held st number source else plain_picture (shape c) held st number qp source))
either_told c held st number qp source true set fits g ready small = coarsest_told c held st number source set fits ready
either_told c held st number qp source false set fits g ready small = plain_told c held st number qp source set fits g ready small

told : (c : CoderSettings) (rate : Rate) (s : State) (x : PlanStep × Planes) (xs : List (PlanStep × Planes)) (t : Trial) → AreSettings c → t.qp ≤ 51 → IsSound c rate s (x ∷ xs)
    → Told c (kept x.0.idr s.held) x.0 s.idrs (slices_by (film_coder c) s x.0 x.1 t)
told c rate s x xs t set small so =
    subst (λ cs. Told c (kept x.0.idr s.held) x.0 s.idrs cs) (sym (slices_are c s x.0 x.1 t))
    (either_told c (kept x.0.idr s.held) x.0 s.idrs t.qp x.1 t.coarsest set so.steps.0.fits so.steps.0.source (ready c rate s x xs set so) small)

-- ---- the delays

initial_from : (first : Bool) (d e : ℕ) → 1 ≤ d → d < 2 ^ 32 → (let n = if first then d else max 1 (min 4294967295 e) in (1 ≤ n) × (n < 2 ^ 32))
initial_from true d e some few = (some, few)
initial_from false d e some few = (omega arith, omega arith)

initial_some : (idr first : Bool) (d e : ℕ) → 1 ≤ d → d < 2 ^ 32 → IfSome (if idr then Some (if first then d else max 1 (min 4294967295 e)) else None) (λ n. (1 ≤ n) × (n < 2 ^ 32))
initial_some true first d e some few = initial_from first d e some few
initial_some false first d e some few = tt

delays_fit : (c : CoderSettings) (rate : Rate) (reorders : Bool) (s : State) (x : PlanStep × Planes) (xs : List (PlanStep × Planes)) → IsSound c rate s (x ∷ xs) → AreDelays (delays_of (film_of c rate reorders) s x.0)
unfolding initial_delay
delays_fit c rate reorders s x xs so =
    let few : s.ledger.units + length (x ∷ xs) ≤ 4000000 = so.few in
    let display : x.0.display ≤ 4000000 = so.steps.0.display in
    record {
      initial = initial_some x.0.idr (s.ledger.units == 0) rate.delay _ so.some_delay so.delay;
      removal = omega (arith, few);
      output = late reorders x.0.display s.ledger.units display;
    }
  where
    late : (r : Bool) (d u : ℕ) → d ≤ 4000000 → 2 * (d + (if r then 1 else 0) - u) < 2 ^ 24
    late true d u h = omega (arith, h)
    late false d u h = omega (arith, h)

-- ---- what is held behind a picture

read_of : (f : Format) (ss : List Slice) → slices_in (map (with_payload f) ss) ≡ map of_records ss
read_of f [] = refl
read_of f (s ∷ ss) = ap (λ (xs : List Read). of_records s ∷ xs) (read_of f ss)

made_fits : (across down : ℕ) (held : List Reference) (ss : List Slice) → PlanesFit (picture_made across down held (map of_records ss))
unfolding picture_made
made_fits across down held ss =
    filtered_picture_fits (pictures_of (first_lists held (map of_records ss)).list0) (pictures_of (first_lists held (map of_records ss)).list1) (all_records (map of_records ss)) (16 * across) _
    (built_fits across held ss _ (blank_fits across down))

behind_fit : (s : SeqHead) (referred : Bool) (new : Reference) (held : List Reference) → PlanesFit new.planes → PicturesFit held → PicturesFit (held_behind s referred new held)
unfolding slid
behind_fit s true new held n h = taken (λ r. PlanesFit r.planes) s.refs (new ∷ held) (n, h)
behind_fit s false new held n h = h

held_fit : (q : SeqHead) (held : List Reference) (a : Access Read) (ss : List Slice) → slices_in a.slices ≡ map of_records ss → PicturesFit held → PicturesFit (held_after frames q held a)
unfolding held_after made
held_fit q held a ss e h =
    behind_fit q (is_referred a.step.kind) _ (kept a.step.idr held)
    (subst (λ (xs : List Read). PlanesFit (picture_made (across_of q) (down_of q) (kept a.step.idr held) xs)) (sym e) (made_fits (across_of q) (down_of q) (kept a.step.idr held) ss))
    (kept_fit a.step.idr held h)

go_on : (c : CoderSettings) (rate : Rate) (reorders : Bool) (s : State) (x : PlanStep × Planes) (xs : List (PlanStep × Planes)) (t : Trial) → IsSound c rate s (x ∷ xs)
    → IsSound c rate (after frames c.sequence (choice_of (film_of c rate reorders) (film_coder c)) s x.0 (picked_by (film_of c rate reorders) (film_coder c) s x.0 x.1 t)) xs
unfolding after moved_by spent picked_by
go_on c rate reorders s x xs t so =
    let a : Access Read = access_of x.0 (picked_by (film_of c rate reorders) (film_coder c) s x.0 x.1 t) in
    let few : s.ledger.units + length (x ∷ xs) ≤ 4000000 = so.few in
    record {
      held = held_fit c.sequence s.held a (pictures_by c s x.0 x.1 t) (ap (λ (cs : List (CodedSlice Read)). slices_in cs) (slices_are c s x.0 x.1 t) ∙ read_of (format (shape c)) (pictures_by c s x.0 x.1 t)) so.held;
      lists = subst (λ (ms : List (ℕ × ℕ)). HasLists c.sequence.refs ms (steps_of xs)) (sym (marks_go_on frames c.sequence s.held a)) so.lists.3;
      steps = so.steps.1;
      few = omega (arith, few);
      some_delay = so.some_delay;
      delay = so.delay;
    }

-- ---- the laws

pub coder_laws : (c : CoderSettings) (rate : Rate) (reorders : Bool) → AreSettings c → CoderLaws frames c.sequence (film_of c rate reorders) (film_coder c) (IsSound c rate)
coder_laws c rate reorders set = record {
  covers = λ s x xs t small so. let k = told c rate s x xs t set small so in (k.lead, k.covers);
  names = λ s x xs t small so.
      let k = told c rate s x xs t set small so in
      id_by_lead frames c.sequence (true, c.t8x8) (kept x.0.idr s.held) k.lead x.0 (slices_by (film_coder c) s x.0 x.1 t) set.sequence k.covers ∙ k.id;
  delays = λ s x xs so. delays_fit c rate reorders s x xs so;
  keeps = λ s x xs t so. go_on c rate reorders s x xs t so;
}
