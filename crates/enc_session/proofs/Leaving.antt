-- What a group leaves behind, once its pictures are shown.
use Rattle.std.proofs.Common.{Option, ℕ, ◌≡◌, List, [], ◌∷◌, ◌++◌, map, take, Some, Result, Ok, Err, refl, ap, ap₂, sym, subst, ◌∙◌}
use Rattle.std.specs.List.{flat_map}
use Rattle.enc_edge.specs.declared.studio.Out.{Out}
use Rattle.enc_edge.specs.declared.studio.Out.TheVariants.{Recon}
use Rattle.enc_edge.specs.declared.studio.Place.TheVariants.{Output}
use Rattle.enc_edge.specs.Seen.{Seen}
use Rattle.enc_edge.specs.Calls.{LaterFailed, wrote}
use Rattle.enc_tables.specs.declared.records.PlanStep.{PlanStep}
use Rattle.spec_film.specs.Films.{Planes}
use Rattle.spec_film.specs.Cropping.{shown}
use Rattle.spec_film.specs.Written.{picture_text}
use Rattle.spec_decoder.specs.Macroblocks.{Slice as Read}
use Rattle.spec_coding.specs.Encoding.{State, Coded, Went, in_order}
use Rattle.spec_coding.specs.Report.{picture_lines}
use Rattle.spec_session.specs.Settings.{SessionSettings}
use Rattle.spec_session.specs.Encodings.{encoding_from, sequence_of, stream_of}
use Rattle.spec_session.specs.Groups.{Place, group_steps}
use Rattle.spec_session.specs.Outputs.{IsFront, group_text}
use Rattle.picture_planes.specs.declared.picture.Picture.{Picture}
use Rattle.picture_planes.specs.Pictures.{planes_of}
use Rattle.y4m_film.specs.Writes.{FrontWritten}
use Rattle.enc_session.specs.declared.ends.GroupEnd.{GroupEnd}
use Rattle.enc_session.specs.declared.ends.GroupEnd.TheVariants.{Buffer, Write}
use Rattle.enc_session.specs.Ends.{failed_in}
use Rattle.enc_session.specs.Left.{grown, CutShort, GroupLeft, with_line}
use Rattle.enc_session.specs.Going.{EndedBy, spoken}
use Rattle.enc_session.specs.Grouped.{StepsLeft}
use Rattle.enc_session.specs.Showing.{coded_planes, shown_text}
use Rattle.enc_session.proofs.Written.{front_of, none_front, all_front}

-- a front of nothing is nothing
front_none : (xs : List ℕ) → IsFront xs [] → xs ≡ []
front_none [] h = refl
front_none (x ∷ xs) h = absurd (no x (xs ++ h.0) h.1)
  where
    no : (x : ℕ) (ys : List ℕ) → x ∷ ys ≡ [] → ⊥
    no x ys e = absurd cc

-- a write of a unit or a line failed
pub cut_group : (f : SessionSettings) (s0 : State) (xs : List (PlanStep × Planes)) (old new : Seen) (s : State) (slots newest : List Planes) (n : ℕ) (out : Out) → StepsLeft f s0 xs old new s slots newest n (Err (Write out)) → GroupLeft f s0 (encoding_from f s0 xs) old new s (Err (Write out))
cut_group f s0 xs old new s slots newest n out left =
    let c : CutShort out (with_line (stream_of f (encoding_from f s0 xs).done) (picture_lines s0.ledger.units (encoding_from f s0 xs).done)) old new = left.ended in
    record {
      written = c.written;
      fronts = record {
        stream = c.fronts.stream;
        recon = subst (λ (ys : List ℕ). IsFront ys (group_text f s0.ledger.units (encoding_from f s0 xs).done).recon) (sym (front_none c.written.recon c.fronts.recon)) (none_front (group_text f s0.ledger.units (encoding_from f s0 xs).done).recon);
        report = c.fronts.report;
      };
      failed = c.failed;
    }

-- the text of the pictures
text_is : (f : SessionSettings) (ds : List (Coded Read)) (ps : List Planes) → in_order (sequence_of f) ds ≡ map (shown f.head) ps → shown_text f.head ps ≡ flat_map picture_text (in_order (sequence_of f) ds)
text_is f ds ps e = ap (λ (qs : List Planes). flat_map picture_text qs) (sym e)

grown_is : (f : SessionSettings) (u : ℕ) (ds es : List (Coded Read)) (ps : List Planes) (old mid new : Seen) → es ≡ ds → in_order (sequence_of f) ds ≡ map (shown f.head) ps → mid ≡ spoken f u ds old → new ≡ wrote (Output Recon) (shown_text f.head ps) mid → new ≡ grown f u es old
grown_is f u ds es ps old mid new same e h k =
    k ∙ ap₂ (λ (xs : List ℕ) (m : Seen). wrote (Output Recon) xs m) (text_is f ds ps e) h ∙ ap (λ (ys : List (Coded Read)). grown f u ys old) (sym same)

-- all was written
pub group_shown : (f : SessionSettings) (s0 : State) (xs : List (PlanStep × Planes)) (old mid new : Seen) (s : State) (slots newest : List Planes) (n : ℕ) (r : Result (Unit {0}) GroupEnd) → StepsLeft f s0 xs old mid s slots newest n r → new ≡ wrote (Output Recon) (shown_text f.head (coded_planes n slots newest)) mid
    → ((out : Out) → r ≡ Err (Write out) → ⊥) → GroupLeft f s0 (encoding_from f s0 xs) old new s r
group_shown f s0 xs old mid new s slots newest n r left k not_cut = by r left.ended not_cut
  where
    by : (r : Result (Unit {0}) GroupEnd) → EndedBy f s0 xs left.done old mid s r → ((out : Out) → r ≡ Err (Write out) → ⊥) → GroupLeft f s0 (encoding_from f s0 xs) old new s r
    by (Ok done) h c = (
      ap (λ (w : Went Read). w.refused) h.0,
      sym (ap (λ (w : Went Read). w.end) h.0),
      grown_is f s0.ledger.units left.done (encoding_from f s0 xs).done (coded_planes n slots newest) old mid new (ap (λ (w : Went Read). w.done) h.0) left.order h.1 k,
    )
    by (Err (Buffer picture need have)) h c = (
      ap (λ (w : Went Read). w.refused) h.0.1,
      grown_is f s0.ledger.units left.done (encoding_from f s0 xs).done (coded_planes n slots newest) old mid new (ap (λ (w : Went Read). w.done) h.0.1) left.order h.1 k,
    )
    by (Err (Write out)) h c = absurd (c out refl)

recon_cut : (f : SessionSettings) (u : ℕ) (ds es : List (Coded Read)) (ps : List Planes) (old mid new : Seen) → es ≡ ds → in_order (sequence_of f) ds ≡ map (shown f.head) ps → mid ≡ spoken f u ds old → FrontWritten Recon (shown_text f.head ps) mid new → CutShort Recon (group_text f u es) old new
recon_cut f u ds es ps old mid new same e h k =
    subst (λ (ys : List (Coded Read)). CutShort Recon (group_text f u ys) old new) (sym same)
    (record {
      written = record { stream = stream_of f ds; recon = take k.count (shown_text f.head ps); report = picture_lines u ds };
      fronts = record {
        stream = all_front (stream_of f ds);
        recon = subst (λ (xs : List ℕ). IsFront (take k.count (shown_text f.head ps)) xs) (text_is f ds ps e) (front_of (shown_text f.head ps) k.count);
        report = all_front (picture_lines u ds);
      };
      failed = subst (λ (m : Seen). LaterFailed (Output Recon) (wrote (Output Recon) (take k.count (shown_text f.head ps)) m) new) h k.failed;
    })

-- a write of a picture failed
pub group_cut : (f : SessionSettings) (s0 : State) (xs : List (PlanStep × Planes)) (old mid new : Seen) (s t : State) (slots newest : List Planes) (n : ℕ) (r : Result (Unit {0}) GroupEnd) → StepsLeft f s0 xs old mid s slots newest n r → FrontWritten Recon (shown_text f.head (coded_planes n slots newest)) mid new
    → ((out : Out) → r ≡ Err (Write out) → ⊥) → GroupLeft f s0 (encoding_from f s0 xs) old new t (Err (Write Recon))
group_cut f s0 xs old mid new s t slots newest n r left k not_cut = by r left.ended not_cut
  where
    by : (r : Result (Unit {0}) GroupEnd) → EndedBy f s0 xs left.done old mid s r → ((out : Out) → r ≡ Err (Write out) → ⊥) → CutShort Recon (group_text f s0.ledger.units (encoding_from f s0 xs).done) old new
    by (Ok done) h c = recon_cut f s0.ledger.units left.done (encoding_from f s0 xs).done (coded_planes n slots newest) old mid new (ap (λ (w : Went Read). w.done) h.0) left.order h.1 k
    by (Err (Buffer picture need have)) h c = recon_cut f s0.ledger.units left.done (encoding_from f s0 xs).done (coded_planes n slots newest) old mid new (ap (λ (w : Went Read). w.done) h.0.1) left.order h.1 k
    by (Err (Write out)) h c = absurd (c out refl)

-- whether a write failed
pub cut_is : (r : Result (Unit {0}) GroupEnd) (out : Out) → failed_in r ≡ Some out → r ≡ Err (Write out)
cut_is (Ok done) out h = absurd cc
cut_is (Err (Buffer picture need have)) out h = absurd cc
cut_is (Err (Write o)) out h = let same : o ≡ out = cc in ap (λ (x : Out). let e : GroupEnd = Write x in let r : Result (Unit {0}) GroupEnd = Err e in r) same

pub not_cut : (r : Result (Unit {0}) GroupEnd) (told : Option Out) → told ≡ failed_in r → ((out : Out) → told ≡ Some out → ⊥) → (out : Out) → r ≡ Err (Write out) → ⊥
not_cut r told is none out e = none out (is ∙ ap failed_in e)

-- the pictures of a group stand in its first slots
pub left_by : (f : SessionSettings) (s0 : State) (place : Place) (n : ℕ) (was is : List Picture) (old new : Seen) (s : State) (slots newest : List Planes) (k : ℕ) (r : Result (Unit {0}) GroupEnd) → was ≡ is
    → StepsLeft f s0 (group_steps f place (take n (map planes_of was))) old new s slots newest k r → StepsLeft f s0 (group_steps f place (take n (map planes_of is))) old new s slots newest k r
left_by f s0 place n was is old new s slots newest k r same left = subst (λ (ps : List Picture). StepsLeft f s0 (group_steps f place (take n (map planes_of ps))) old new s slots newest k r) same left
