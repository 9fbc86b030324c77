-- B pictures of a group, one after another.
use Rattle.std.proofs.Common.{ℕ, zero, suc, ◌+◌, ◌≡◌, ◌≤◌, ◌<◌, Bool, true, List, [], ◌∷◌, ◌++◌, length, map, take, drop, get_or, slice_set, Some, None, Result, Ok, Err, refl, ap, ap₂, sym, subst, ◌∙◌, arith, append_assoc, append-nil}
use Rattle.std.specs.Prelude.{if◌then◌else◌}
use Rattle.std.specs.List.{AllByRecursion, flat_map}
use Rattle.std.proofs.lemmas.List.{map-append}
use Rattle.std.proofs.lemmas.Grind.{flat_map-append}
use Rattle.enc_edge.specs.declared.studio.Out.{Out}
use Rattle.enc_edge.specs.declared.studio.Out.TheVariants.{Stream, Recon, Report}
use Rattle.enc_edge.specs.declared.studio.Place.TheVariants.{Output}
use Rattle.enc_edge.specs.Seen.{Seen}
use Rattle.enc_edge.specs.Calls.{LaterFailed, wrote}
use Rattle.enc_edge.proofs.Spots.{wrote_none, wrote_more}
use Rattle.enc_tables.specs.declared.records.PlanStep.{PlanStep}
use Rattle.enc_tables.specs.declared.records.SliceKind.{SliceKind}
use Rattle.enc_tables.specs.declared.records.SliceKind.TheVariants.{B}
use Rattle.picture_planes.specs.declared.picture.Picture.{Picture}
use Rattle.picture_planes.specs.Pictures.{planes_of}
use Rattle.spec_film.specs.Films.{Planes}
use Rattle.spec_decoder.specs.Frames.{frames}
use Rattle.spec_decoder.specs.Macroblocks.{Slice as Read}
use Rattle.spec_pictures.specs.Accesses.{access_bytes, accesses_bytes}
use Rattle.spec_report.specs.Lines.{picture_line}
use Rattle.spec_coding.specs.Encoding.{State, Picked, Coded, Went, Fits, Refused, accesses_of, coded, after, behind}
use Rattle.spec_coding.specs.Report.{picture_lines, reported}
use Rattle.spec_coding.specs.Trials.{moved_by}
use Rattle.spec_buffer.specs.Ledger.{spent}
use Rattle.spec_coding.proofs.Going.{encoded-fits, encoded-refused, encoded-none, refusal}
use Rattle.spec_film_coder.specs.Pictures.{film_encoded}
use Rattle.spec_session.specs.Settings.{SessionSettings, settled}
use Rattle.spec_film.specs.declared.FilmHead.{FilmHead}
use Rattle.spec_words.specs.declared.command.Settings.{Settings}
use Rattle.enc_session.specs.declared.engine.Engine.{Engine}
use Rattle.enc_session.specs.Ready.{settings_in}
use Rattle.spec_session.specs.Encodings.{encoding_from, sequence_of, stream_of}
use Rattle.spec_session.specs.Outputs.{IsFront}
use Rattle.enc_session.specs.declared.ends.GroupEnd.{GroupEnd}
use Rattle.enc_session.specs.declared.ends.GroupEnd.TheVariants.{Buffer, Write}
use Rattle.enc_session.specs.Left.{added, CutShort, with_line}
use Rattle.enc_session.specs.Steps.{choice_in}
use Rattle.enc_session.specs.Stepping.{unit_of, line_in, picture_in, InSlot, StepCoded, StepCut, StepLeft, SameEngine}
use Rattle.enc_session.specs.Going.{paired, spoken, BetweenLeft, AreLate}

-- ---- lists

pub all_at : {X : Type 0} (F : X → Type 0) (xs : List X) (k : ℕ) (d : X) → AllByRecursion F xs → k < length xs → F (get_or xs k d)
all_at F [] k d h less = absurd (omega (arith, less))
all_at F (x ∷ xs) zero d h less = h.0
all_at F (x ∷ xs) (suc k) d h less = all_at F xs k d h.1 (omega (arith, less))

pub all_set : {X : Type 0} (F : X → Type 0) (xs : List X) (k : ℕ) (v : X) → AllByRecursion F xs → F v → AllByRecursion F (slice_set xs k v)
all_set F [] k v h f = tt
all_set F (x ∷ xs) zero v h f = (f, h.1)
all_set F (x ∷ xs) (suc k) v h f = (h.0, all_set F xs k v h.1 f)

pub map_set : {X Y : Type 0} (g : X → Y) (xs : List X) (k : ℕ) (v : X) → map g (slice_set xs k v) ≡ slice_set (map g xs) k (g v)
map_set g [] k v = refl
map_set g (x ∷ xs) zero v = refl
map_set g (x ∷ xs) (suc k) v = ap (λ ys. g x ∷ ys) (map_set g xs k v)

pub map_at : {X Y : Type 0} (g : X → Y) (xs : List X) (k : ℕ) (d : X) (e : Y) → k < length xs → get_or (map g xs) k e ≡ g (get_or xs k d)
map_at g [] k d e less = absurd (omega (arith, less))
map_at g (x ∷ xs) zero d e less = refl
map_at g (x ∷ xs) (suc k) d e less = map_at g xs k d e (omega (arith, less))

set_taken : {X : Type 0} (xs : List X) (k : ℕ) (v : X) → k < length xs → take (suc k) (slice_set xs k v) ≡ take k xs ++ v ∷ []
set_taken [] k v less = absurd (omega (arith, less))
set_taken (x ∷ xs) zero v less = refl
set_taken (x ∷ xs) (suc k) v less = ap (λ ys. x ∷ ys) (set_taken xs k v (omega (arith, less)))

set_dropped : {X : Type 0} (xs : List X) (k : ℕ) (v : X) → drop (suc k) (slice_set xs k v) ≡ drop (suc k) xs
set_dropped [] k v = refl
set_dropped (x ∷ xs) zero v = refl
set_dropped (x ∷ xs) (suc k) v = set_dropped xs k v

taken_more : {X : Type 0} (xs : List X) (k : ℕ) (d : X) → k < length xs → take (suc k) xs ≡ take k xs ++ get_or xs k d ∷ []
taken_more [] k d less = absurd (omega (arith, less))
taken_more (x ∷ xs) zero d less = refl
taken_more (x ∷ xs) (suc k) d less = ap (λ ys. x ∷ ys) (taken_more xs k d (omega (arith, less)))

drop_more : {X : Type 0} (xs ys : List X) (k : ℕ) → drop k xs ≡ drop k ys → drop (suc k) xs ≡ drop (suc k) ys
drop_more xs ys k e = sym (tail_dropped xs k) ∙ ap (λ zs. drop 1 zs) e ∙ tail_dropped ys k
  where
    tail_dropped : {X : Type 0} (xs : List X) (k : ℕ) → drop 1 (drop k xs) ≡ drop (suc k) xs
    tail_dropped [] zero = refl
    tail_dropped [] (suc k) = refl
    tail_dropped (x ∷ xs) zero = refl
    tail_dropped (x ∷ xs) (suc k) = tail_dropped xs k

drop_same : {X : Type 0} (xs ys : List X) (k : ℕ) (d : X) → drop k xs ≡ drop k ys → get_or xs k d ≡ get_or ys k d
drop_same xs ys k d e = sym (first_dropped xs k d) ∙ ap (λ zs. get_or zs 0 d) e ∙ first_dropped ys k d
  where
    first_dropped : {X : Type 0} (xs : List X) (k : ℕ) (d : X) → get_or (drop k xs) 0 d ≡ get_or xs k d
    first_dropped [] zero d = refl
    first_dropped [] (suc k) d = refl
    first_dropped (x ∷ xs) zero d = refl
    first_dropped (x ∷ xs) (suc k) d = first_dropped xs k d

paired_at : (k : ℕ) (sts : List PlanStep) (ps : List Planes) (d : PlanStep) (e : Planes) → k < length sts → length sts ≤ length ps → drop k (paired sts ps) ≡ (get_or sts k d, get_or ps k e) ∷ drop (suc k) (paired sts ps)
paired_at k [] ps d e less few = absurd (omega (arith, less))
paired_at k (st ∷ sts) [] d e less few = absurd (omega (arith, few))
paired_at zero (st ∷ sts) (p ∷ ps) d e less few = refl
paired_at (suc k) (st ∷ sts) (p ∷ ps) d e less few = paired_at k sts ps d e (omega (arith, less)) (omega (arith, few))

pub paired_steps : (sts : List PlanStep) (ps : List Planes) → length sts ≤ length ps → map (λ (x : PlanStep × Planes). x.0) (paired sts ps) ≡ sts
paired_steps [] ps few = refl
paired_steps (st ∷ sts) [] few = absurd (omega (arith, few))
paired_steps (st ∷ sts) (p ∷ ps) few = ap (λ (ys : List PlanStep). st ∷ ys) (paired_steps sts ps (omega (arith, few)))

paired_end : (sts : List PlanStep) (ps : List Planes) (n : ℕ) → length sts ≤ n → drop n (paired sts ps) ≡ []
paired_end [] ps zero h = refl
paired_end [] ps (suc n) h = refl
paired_end (st ∷ sts) ps zero h = absurd (omega (arith, h))
paired_end (st ∷ sts) [] (suc n) h = refl
paired_end (st ∷ sts) (p ∷ ps) (suc n) h = paired_end sts ps n (omega (arith, h))

pub late_at : (r : Bool) (u : ℕ) (sts : List PlanStep) (k : ℕ) (d : PlanStep) → AreLate r u sts → k < length sts → u + k ≤ (get_or sts k d).display + (if r then 1 else 0)
late_at r u [] k d h less = absurd (omega (arith, less))
late_at r u (st ∷ sts) zero d h less = let a = h.0 in omega (arith, a)
late_at r u (st ∷ sts) (suc k) d h less = let a = late_at r (u + 1) sts k d h.1 (omega (arith, less)) in omega (arith, a)

-- ---- one step of an encoding

pub from_fits : (f : SessionSettings) (s : State) (st : PlanStep) (source : Planes) (xs : List (PlanStep × Planes)) (p : Picked Read) → (choice_in f).chosen s st source ≡ Fits p
    → encoding_from f s ((st, source) ∷ xs) ≡ behind (coded frames (sequence_of f) s st p ∷ []) (encoding_from f (after frames (sequence_of f) (choice_in f) s st p) xs)
unfolding encoding_from film_encoded
from_fits f s st source xs p e = encoded-fits frames (sequence_of f) (choice_in f) s (st, source) xs p e

pub from_refused : (f : SessionSettings) (s : State) (st : PlanStep) (source : Planes) (xs : List (PlanStep × Planes)) (need have : ℕ) → (choice_in f).chosen s st source ≡ Refused need have → encoding_from f s ((st, source) ∷ xs) ≡ refusal s st need have
unfolding encoding_from film_encoded
from_refused f s st source xs need have e = encoded-refused frames (sequence_of f) (choice_in f) s (st, source) xs need have e

pub from_none : (f : SessionSettings) (s : State) → encoding_from f s [] ≡ record { done = []; end = s; refused = None }
unfolding encoding_from film_encoded
from_none f s = encoded-none frames (sequence_of f) (choice_in f) s

behind_then : (ds es : List (Coded Read)) (w : Went Read) → behind ds (behind es w) ≡ behind (ds ++ es) w
behind_then ds es w = ap (λ (done : List (Coded Read)). let v : Went Read = record { done = done; end = w.end; refused = w.refused } in v) (sym (append_assoc ds es w.done))

-- ---- what is written

pub stream_more : (f : SessionSettings) (ds es : List (Coded Read)) → stream_of f (ds ++ es) ≡ stream_of f ds ++ stream_of f es
unfolding accesses_bytes
stream_more f ds es =
    ap (λ xs. flat_map (access_bytes (sequence_of f) (true, f.t8x8)) xs) (map-append (λ (d : Coded Read). d.access) ds es)
    ∙ flat_map-append (access_bytes (sequence_of f) (true, f.t8x8)) (accesses_of ds) (accesses_of es)

pub stream_one : (f : SessionSettings) (s : State) (st : PlanStep) (p : Picked Read) → stream_of f (coded frames (sequence_of f) s st p ∷ []) ≡ unit_of f st p
unfolding accesses_bytes coded
stream_one f s st p = append-nil (unit_of f st p)

pub lines_more : (place : ℕ) (ds es : List (Coded Read)) → picture_lines place (ds ++ es) ≡ picture_lines place ds ++ picture_lines (place + length ds) es
unfolding picture_lines
lines_more place [] es = let e : place ≡ place + 0 = omega arith in ap (λ k. picture_lines k es) e
lines_more place (d ∷ ds) es =
    let e : place + 1 + length ds ≡ place + suc (length ds) = omega arith in
    ap (λ l. picture_line (reported place d) ++ l) (lines_more (place + 1) ds es ∙ ap (λ k. picture_lines (place + 1) ds ++ picture_lines k es) e)
    ∙ sym (append_assoc (picture_line (reported place d)) (picture_lines (place + 1) ds) (picture_lines (place + suc (length ds)) es))

pub lines_one : (place : ℕ) (d : Coded Read) → picture_lines place (d ∷ []) ≡ picture_line (reported place d)
unfolding picture_lines
lines_one place d = append-nil (picture_line (reported place d))

pub spoken_none : (f : SessionSettings) (u : ℕ) (s : Seen) → s ≡ spoken f u [] s
unfolding picture_lines accesses_bytes
spoken_none f u s = sym (wrote_none (Output Report) (wrote (Output Stream) [] s) ∙ wrote_none (Output Stream) s)

pub spoken_more : (f : SessionSettings) (u : ℕ) (ds es : List (Coded Read)) (s : Seen) → spoken f (u + length ds) es (spoken f u ds s) ≡ spoken f u (ds ++ es) s
spoken_more f u ds es s =
    wrote_more (Output Report) (picture_lines u ds) (picture_lines (u + length ds) es) (wrote (Output Stream) (stream_of f es) (wrote (Output Stream) (stream_of f ds) s))
    ∙ ap₂ (λ (l : List ℕ) (t : Seen). wrote (Output Report) l t) (sym (lines_more u ds es)) (wrote_more (Output Stream) (stream_of f ds) (stream_of f es) s ∙ ap (λ (xs : List ℕ). wrote (Output Stream) xs s) (sym (stream_more f ds es)))

pub spoken_one : (f : SessionSettings) (s : State) (st : PlanStep) (p : Picked Read) (u : ℕ) (old : Seen) → u ≡ s.ledger.units → wrote (Output Report) (line_in f s st p) (wrote (Output Stream) (unit_of f st p) old) ≡ spoken f u (coded frames (sequence_of f) s st p ∷ []) old
spoken_one f s st p u old e =
    ap₂ (λ (l u : List ℕ). wrote (Output Report) l (wrote (Output Stream) u old))
    (ap (λ (n : ℕ). picture_line (reported n (coded frames (sequence_of f) s st p))) (sym e) ∙ sym (lines_one u (coded frames (sequence_of f) s st p))) (sym (stream_one f s st p))

-- ---- so many steps

pub record IsGoing (f : SessionSettings) (s0 : State) (xs : List (PlanStep × Planes)) (k : ℕ) (s : State) (old new : Seen) (first now : List Planes) : Type 0 where
  pub done : List (Coded Read)
  pub count : length done ≡ k
  pub shown : map (λ (d : Coded Read). d.picture.planes) done ≡ take k now
  pub steps : map (λ (d : Coded Read). d.access.step) done ≡ take k (map (λ (x : PlanStep × Planes). x.0) xs)
  pub goes : behind done (encoding_from f s (drop k xs)) ≡ encoding_from f s0 xs
  pub seen : new ≡ spoken f s0.ledger.units done old
  pub rest : drop k now ≡ drop k first
  pub units : s.ledger.units ≡ s0.ledger.units + k

pub going_none : (f : SessionSettings) (s : State) (xs : List (PlanStep × Planes)) (old : Seen) (ps : List Planes) → IsGoing f s xs 0 s old old ps ps
going_none f s xs old ps = record {
  done = [];
  count = refl;
  shown = refl;
  steps = refl;
  goes = refl;
  seen = spoken_none f s.ledger.units old;
  rest = refl;
  units = omega arith;
}

one_more : (k : ℕ) → suc k ≡ k + 1
one_more k = omega arith

b_slot : (k : SliceKind) (slot : Picture) (p : Planes) → k ≡ B → InSlot k slot p → planes_of slot ≡ p
b_slot k slot p e h = subst (λ (x : SliceKind). InSlot x slot p) e h

length-snoc : {X : Type 0} (xs : List X) (x : X) → length (xs ++ x ∷ []) ≡ suc (length xs)
length-snoc [] x = refl
length-snoc (y ∷ ys) x = ap suc (length-snoc ys x)

pub units_after : (f : SessionSettings) (s : State) (st : PlanStep) (p : Picked Read) → (after frames (sequence_of f) (choice_in f) s st p).ledger.units ≡ s.ledger.units + 1
unfolding after moved_by spent
units_after f s st p = refl

goes_next : (f : SessionSettings) (s0 : State) (sts : List PlanStep) (first : List Planes) (k : ℕ) (s t : State) (done : List (Coded Read)) (st : PlanStep) (source : Planes) (p : Picked Read) (d : PlanStep) (e : Planes) → k < length sts → length sts ≤ length first → st ≡ get_or sts k d → source ≡ get_or first k e
    → behind done (encoding_from f s (drop k (paired sts first))) ≡ encoding_from f s0 (paired sts first) → (choice_in f).chosen s st source ≡ Fits p → t ≡ after frames (sequence_of f) (choice_in f) s st p
    → behind (done ++ coded frames (sequence_of f) s st p ∷ []) (encoding_from f t (drop (suc k) (paired sts first))) ≡ encoding_from f s0 (paired sts first)
goes_next f s0 sts first k s t done st source p d e less few es eo goes fits et =
    let x : Coded Read = coded frames (sequence_of f) s st p in
    ap (λ (u : State). behind (done ++ x ∷ []) (encoding_from f u (drop (suc k) (paired sts first)))) et
    ∙ sym (behind_then done (x ∷ []) (encoding_from f (after frames (sequence_of f) (choice_in f) s st p) (drop (suc k) (paired sts first))))
    ∙ ap (λ (w : Went Read). behind done w) (sym (from_fits f s st source (drop (suc k) (paired sts first)) p fits))
    ∙ ap₂ (λ (a : PlanStep) (b : Planes). behind done (encoding_from f s ((a, b) ∷ drop (suc k) (paired sts first)))) es eo
    ∙ ap (λ (ys : List (PlanStep × Planes)). behind done (encoding_from f s ys)) (sym (paired_at k sts first d e less few))
    ∙ goes

pub picture_planes : (f : SessionSettings) (s : State) (st : PlanStep) (p : Picked Read) → (coded frames (sequence_of f) s st p).picture.planes ≡ (picture_in f s st p).planes
unfolding coded
picture_planes f s st p = refl

pub step_of : (f : SessionSettings) (s : State) (st : PlanStep) (p : Picked Read) → (coded frames (sequence_of f) s st p).access.step ≡ st
unfolding coded
step_of f s st p = refl

pub going_next : (f : SessionSettings) (s0 : State) (sts : List PlanStep) (first now : List Planes) (k : ℕ) (s t : State) (old mid new : Seen) (st : PlanStep) (source : Planes) (slot : Picture) (d : PlanStep) (e : Planes) → IsGoing f s0 (paired sts first) k s old mid first now
    → k < length sts → length sts ≤ length first → length now ≡ length first → st ≡ get_or sts k d → source ≡ get_or now k e → st.kind ≡ B → ((p : Picked Read) × StepCoded f s st source slot mid new t p) → IsGoing f s0 (paired sts first) (k + 1) t old new first (slice_set now k (planes_of slot))
going_next f s0 sts first now k s t old mid new st source slot d e g less few long es eo kind step =
    let p : Picked Read = step.0 in
    let c = step.1 in
    let x : Coded Read = coded frames (sequence_of f) s st p in
    let within : k < length now = omega (arith, less, few, long) in
    subst (λ (n : ℕ). IsGoing f s0 (paired sts first) n t old new first (slice_set now k (planes_of slot))) (one_more k)
    (record {
      done = g.done ++ x ∷ [];
      count = length-snoc g.done x ∙ ap suc g.count;
      shown = map-append (λ (y : Coded Read). y.picture.planes) g.done (x ∷ []) ∙ ap₂ (λ (a : List Planes) (b : Planes). a ++ b ∷ []) g.shown (picture_planes f s st p ∙ sym (b_slot st.kind slot (picture_in f s st p).planes kind c.shown)) ∙ sym (set_taken now k (planes_of slot) within);
      steps = map-append (λ (y : Coded Read). y.access.step) g.done (x ∷ []) ∙ ap₂ (λ (a : List PlanStep) (b : PlanStep). a ++ b ∷ []) g.steps (step_of f s st p ∙ es)
          ∙ ap (λ (zs : List PlanStep). take k zs ++ get_or sts k d ∷ []) (paired_steps sts first few) ∙ sym (taken_more sts k d less) ∙ ap (λ (zs : List PlanStep). take (suc k) zs) (sym (paired_steps sts first few));
      goes = goes_next f s0 sts first k s t g.done st source p d e less few es (eo ∙ drop_same now first k e g.rest) g.goes c.chosen c.state;
      seen = c.seen ∙ ap (λ (m : Seen). wrote (Output Report) (line_in f s st p) (wrote (Output Stream) (unit_of f st p) m)) g.seen
          ∙ spoken_one f s st p (s0.ledger.units + length g.done) (spoken f s0.ledger.units g.done old) (ap (λ (n : ℕ). s0.ledger.units + n) g.count ∙ sym g.units) ∙ spoken_more f s0.ledger.units g.done (x ∷ []) old;
      rest = set_dropped now k (planes_of slot) ∙ drop_more now first k g.rest;
      units = ap (λ (u : State). u.ledger.units) c.state ∙ units_after f s st p ∙ (let u = g.units in omega (arith, u));
    })

-- ---- how they end

past : {X : Type 0} (xs : List X) (n : ℕ) → length xs ≤ n → drop n xs ≡ []
past [] zero h = refl
past [] (suc n) h = refl
past (x ∷ xs) zero h = absurd (omega (arith, h))
past (x ∷ xs) (suc n) h = past xs n (omega (arith, h))

alone : (ds : List (Coded Read)) (s : State) → behind ds (record { done = []; end = s; refused = None }) ≡ record { done = ds; end = s; refused = None }
alone ds s = ap (λ (xs : List (Coded Read)). let w : Went Read = record { done = xs; end = s; refused = None } in w) (append-nil ds)

-- all were coded
pub going_end : (f : SessionSettings) (s0 : State) (sts : List PlanStep) (first now : List Planes) (k : ℕ) (s : State) (old new : Seen) → IsGoing f s0 (paired sts first) k s old new first now → length sts ≤ k → k ≤ length sts → BetweenLeft f s0 (paired sts first) old new s now (length sts) (Ok tt)
going_end f s0 sts first now k s old new g past_end within =
    let e : k ≡ length sts = omega (arith, past_end, within) in
    subst (λ (n : ℕ). BetweenLeft f s0 (paired sts first) old new s now n (Ok tt)) e
    (record {
      done = g.done;
      count = g.count;
      shown = g.shown;
      steps = g.steps;
      ended = (
        sym g.goes ∙ ap (λ (xs : List (PlanStep × Planes)). behind g.done (encoding_from f s xs)) (paired_end sts first k past_end) ∙ ap (λ (w : Went Read). behind g.done w) (from_none f s) ∙ alone g.done s,
        g.seen,
      );
    })

-- one was refused
pub going_refused : (f : SessionSettings) (s0 : State) (sts : List PlanStep) (first now : List Planes) (k : ℕ) (s t : State) (old mid new : Seen) (st : PlanStep) (source : Planes) (d : PlanStep) (e : Planes) (picture need have : ℕ) → IsGoing f s0 (paired sts first) k s old mid first now
    → k < length sts → length sts ≤ length first → st ≡ get_or sts k d → source ≡ get_or now k e → picture ≡ st.display → (choice_in f).chosen s st source ≡ Refused need have → new ≡ mid
    → BetweenLeft f s0 (paired sts first) old new t now k (Err (Buffer picture need have))
going_refused f s0 sts first now k s t old mid new st source d e picture need have g less few es eo display refused same = record {
  done = g.done;
  count = g.count;
  shown = g.shown;
  steps = g.steps;
  ended = (
    (
      s,
      sym g.goes ∙ ap (λ (xs : List (PlanStep × Planes)). behind g.done (encoding_from f s xs)) (paired_at k sts first d e less few)
          ∙ ap₂ (λ (a : PlanStep) (b : Planes). behind g.done (encoding_from f s ((a, b) ∷ drop (suc k) (paired sts first)))) (sym es) (sym (eo ∙ drop_same now first k e g.rest))
          ∙ ap (λ (w : Went Read). behind g.done w) (from_refused f s st source (drop (suc k) (paired sts first)) need have refused)
          ∙ ap₂ (λ (xs : List (Coded Read)) (n : ℕ). let w : Went Read = record { done = xs; end = s; refused = Some (record { picture = n; need = need; have = have }) } in w) (append-nil g.done) (sym display),
    ),
    same ∙ g.seen,
  );
}

-- a write failed
front_more : (s a u more : List ℕ) → IsFront a u → IsFront (s ++ a) ((s ++ u) ++ more)
front_more s a u more h = (
  h.0 ++ more,
  append_assoc s a (h.0 ++ more) ∙ ap (λ (xs : List ℕ). s ++ xs) (sym (append_assoc a h.0 more) ∙ ap (λ (xs : List ℕ). xs ++ more) h.1) ∙ sym (append_assoc s u more),
)

pub cut_behind : (f : SessionSettings) (u : ℕ) (ds es : List (Coded Read)) (unit line : List ℕ) (out : Out) (old mid new : Seen) → mid ≡ spoken f u ds old → (more lines : List ℕ) → (stream_of f es ≡ (stream_of f ds ++ unit) ++ more) × (picture_lines u es ≡ (picture_lines u ds ++ line) ++ lines) → CutShort out (with_line unit line) mid new
    → CutShort out (with_line (stream_of f es) (picture_lines u es)) old new
cut_behind f u ds es unit line out old mid new e more lines text c = record {
  written = record { stream = stream_of f ds ++ c.written.stream; recon = c.written.recon; report = picture_lines u ds ++ c.written.report };
  fronts = record {
    stream = subst (λ (xs : List ℕ). IsFront (stream_of f ds ++ c.written.stream) xs) (sym text.0) (front_more (stream_of f ds) c.written.stream unit more c.fronts.stream);
    recon = c.fronts.recon;
    report = subst (λ (xs : List ℕ). IsFront (picture_lines u ds ++ c.written.report) xs) (sym text.1) (front_more (picture_lines u ds) c.written.report line lines c.fronts.report);
  };
  failed = subst (λ (s : Seen). LaterFailed (Output out) s new)
      (ap (λ (m : Seen). added c.written m) e
      ∙ ap (λ (m : Seen). wrote (Output Recon) c.written.recon m)
      (wrote_more (Output Report) (picture_lines u ds) c.written.report (wrote (Output Stream) c.written.stream (wrote (Output Stream) (stream_of f ds) old))
      ∙ ap (λ (m : Seen). wrote (Output Report) (picture_lines u ds ++ c.written.report) m) (wrote_more (Output Stream) (stream_of f ds) c.written.stream old))) c.failed;
}

pub going_cut : (f : SessionSettings) (s0 : State) (sts : List PlanStep) (first now : List Planes) (k : ℕ) (s t : State) (old mid new : Seen) (st : PlanStep) (source : Planes) (d : PlanStep) (e : Planes) (out : Out) → IsGoing f s0 (paired sts first) k s old mid first now
    → k < length sts → length sts ≤ length first → st ≡ get_or sts k d → source ≡ get_or now k e → ((p : Picked Read) × StepCut f s st source out mid new p)
    → BetweenLeft f s0 (paired sts first) old new t now k (Err (Write out))
going_cut f s0 sts first now k s t old mid new st source d e out g less few es eo step =
    let p : Picked Read = step.0 in
    let x : Coded Read = coded frames (sequence_of f) s st p in
    let u : State = after frames (sequence_of f) (choice_in f) s st p in
    let w : Went Read = encoding_from f u (drop (suc k) (paired sts first)) in
    let goes = goes_next f s0 sts first k s u g.done st source p d e less few es (eo ∙ drop_same now first k e g.rest) g.goes (step.1).chosen refl in
    let is : (encoding_from f s0 (paired sts first)).done ≡ (g.done ++ x ∷ []) ++ w.done = ap (λ (v : Went Read). v.done) (sym goes) in
    let place : s0.ledger.units + length g.done ≡ s.ledger.units = ap (λ (n : ℕ). s0.ledger.units + n) g.count ∙ sym g.units in
    record {
      done = g.done;
      count = g.count;
      shown = g.shown;
      steps = g.steps;
      ended = cut_behind f s0.ledger.units g.done (encoding_from f s0 (paired sts first)).done (unit_of f st p) (line_in f s st p) out old mid new g.seen
          (stream_of f w.done) (picture_lines (s0.ledger.units + length (g.done ++ x ∷ [])) w.done) (
            ap (λ (ds : List (Coded Read)). stream_of f ds) is ∙ stream_more f (g.done ++ x ∷ []) w.done
                ∙ ap (λ (xs : List ℕ). xs ++ stream_of f w.done) (stream_more f g.done (x ∷ []) ∙ ap (λ (xs : List ℕ). stream_of f g.done ++ xs) (stream_one f s st p)),
            ap (λ (ds : List (Coded Read)). picture_lines s0.ledger.units ds) is ∙ lines_more s0.ledger.units (g.done ++ x ∷ []) w.done
                ∙ ap (λ (xs : List ℕ). xs ++ picture_lines (s0.ledger.units + length (g.done ++ x ∷ [])) w.done)
                (lines_more s0.ledger.units g.done (x ∷ []) ∙ ap (λ (n : ℕ). picture_lines s0.ledger.units g.done ++ picture_lines n (x ∷ [])) place ∙ ap (λ (xs : List ℕ). picture_lines s0.ledger.units g.done ++ xs) (lines_one s.ledger.units x)),
          )
          (step.1).cut;
    }

-- ---- a session's words

pub same_settings : (a b : Engine) → SameEngine a b → settings_in b ≡ settings_in a
same_settings a b h =
    ap (λ (x : Settings). settled x b.head b.level) h.settings ∙ ap (λ (x : FilmHead). settled a.settings x b.level) h.head ∙ ap (λ (n : ℕ). settled a.settings a.head n) h.level

pub same_then : (a b c : Engine) → SameEngine a b → SameEngine b c → SameEngine a c
same_then a b c h k = record { settings = k.settings ∙ h.settings; head = k.head ∙ h.head; level = k.level ∙ h.level; display = k.display ∙ h.display; number = k.number ∙ h.number }

pub same_none : (a : Engine) → SameEngine a a
same_none a = record { settings = refl; head = refl; level = refl; display = refl; number = refl }

pub length-planes : (slots : List Picture) → length (map planes_of slots) ≡ length slots
length-planes [] = refl
length-planes (p ∷ ps) = ap suc (length-planes ps)

abbrev pub no_planes : Planes
no_planes = record { luma = []; cb = []; cr = [] }

pub slot_at : (slots : List Picture) (k : ℕ) (p : Picture) → p ≡ get_or slots k p → k < length slots → planes_of p ≡ get_or (map planes_of slots) k no_planes
slot_at slots k p e less = ap (λ (q : Picture). planes_of q) e ∙ sym (map_at planes_of slots k p no_planes less)

taken_set : {X : Type 0} (xs : List X) (k : ℕ) (v : X) → take k (slice_set xs k v) ≡ take k xs
taken_set [] zero v = refl
taken_set [] (suc k) v = refl
taken_set (x ∷ xs) zero v = refl
taken_set (x ∷ xs) (suc k) v = ap (λ ys. x ∷ ys) (taken_set xs k v)

between_set : (f : SessionSettings) (s0 : State) (xs : List (PlanStep × Planes)) (old new : Seen) (s : State) (slots : List Picture) (k : ℕ) (p : Picture) (r : Result (Unit {0}) GroupEnd) → BetweenLeft f s0 xs old new s (map planes_of slots) k r → BetweenLeft f s0 xs old new s (map planes_of (slice_set slots k p)) k r
between_set f s0 xs old new s slots k p r b = record {
  done = b.done;
  count = b.count;
  shown = b.shown ∙ sym (ap (λ (ps : List Planes). take k ps) (map_set planes_of slots k p) ∙ taken_set (map planes_of slots) k (planes_of p));
  steps = b.steps;
  ended = b.ended;
}

pub going_failed : (f : SessionSettings) (s0 : State) (sts : List PlanStep) (first : List Planes) (slots : List Picture) (k : ℕ) (s t : State) (old mid new : Seen) (st : PlanStep) (source : Planes) (slot : Picture) (d : PlanStep) (end : GroupEnd) → IsGoing f s0 (paired sts first) k s old mid first (map planes_of slots)
    → k < length sts → length sts ≤ length first → st ≡ get_or sts k d → source ≡ get_or (map planes_of slots) k no_planes → StepLeft f s st source slot mid new t (Err end) → BetweenLeft f s0 (paired sts first) old new t (map planes_of (slice_set slots k slot)) k (Err end)
going_failed f s0 sts first slots k s t old mid new st source slot d (Buffer picture need have) g less few es eo left =
    between_set f s0 (paired sts first) old new t slots k slot (Err (Buffer picture need have))
    (going_refused f s0 sts first (map planes_of slots) k s t old mid new st source d no_planes picture need have g less few es eo left.0 left.1 left.2)
going_failed f s0 sts first slots k s t old mid new st source slot d (Write out) g less few es eo left =
    between_set f s0 (paired sts first) old new t slots k slot (Err (Write out)) (going_cut f s0 sts first (map planes_of slots) k s t old mid new st source d no_planes out g less few es eo left)

pub going_on : (f : SessionSettings) (s0 : State) (sts : List PlanStep) (first : List Planes) (slots : List Picture) (k : ℕ) (s t : State) (old mid new : Seen) (st : PlanStep) (source : Planes) (slot : Picture) (d : PlanStep) → IsGoing f s0 (paired sts first) k s old mid first (map planes_of slots)
    → k < length sts → length sts ≤ length first → length (map planes_of slots) ≡ length first → st ≡ get_or sts k d → source ≡ get_or (map planes_of slots) k no_planes → st.kind ≡ B → StepLeft f s st source slot mid new t (Ok tt) → IsGoing f s0 (paired sts first) (k + 1) t old new first (map planes_of (slice_set slots k slot))
going_on f s0 sts first slots k s t old mid new st source slot d g less few long es eo kind left =
    subst (λ (ps : List Planes). IsGoing f s0 (paired sts first) (k + 1) t old new first ps) (sym (map_set planes_of slots k slot))
    (going_next f s0 sts first (map planes_of slots) k s t old mid new st source slot d no_planes g less few long es eo kind left)
