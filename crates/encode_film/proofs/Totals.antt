-- The report's last line.
use Rattle.std.proofs.Common.{ℕ, ◌≡◌, ◌++◌, List, [], drop, Option, Some, None, Result, Ok, Err, refl, ap, sym, ◌∙◌, subst, append-nil}
use Rattle.std.specs.Prelude.{IfSome}
use Rattle.enc_edge.specs.declared.studio.Place.TheVariants as places
use Rattle.enc_edge.specs.Seen.{Seen}
use Rattle.enc_edge.specs.Calls.{LaterFailed}
use Rattle.spec_film.specs.declared.FilmHead.{FilmHead}
use Rattle.spec_film.specs.Films.{Planes, FilmEnd, Ended, most_pictures, pictures_of}
use Rattle.spec_report.specs.declared.ReportTotals.{ReportTotals}
use Rattle.spec_report.specs.Lines.{totals_line}
use Rattle.spec_coding.specs.Encoding.{State, Refusal}
use Rattle.spec_coding.specs.Report.{totals_of, totals_in, report_to}
use Rattle.spec_coding.proofs.Reporting.{totals_add_up}
use Rattle.spec_decoder.specs.Frames.{frames}
use Rattle.spec_film_coder.specs.Pictures.{film_coder, film_of, film_encoded}
use Rattle.spec_session.specs.Settings.{SessionSettings}
use Rattle.spec_session.specs.Encodings.{sequence_of, coder_of, rate_of, reorders, film_steps, encoding, encoding_from, start, report_head}
use Rattle.spec_session.specs.Outputs.{Outputs, AreFronts, joined, written_by, written_to, written_whole}
use Rattle.enc_session.specs.Left.{added}
use Rattle.encode_film.specs.declared.ends.EncodeEnd.{EncodeEnd}
use Rattle.encode_film.specs.declared.ends.EncodeEnd.TheVariants.{Open, Read, Write, Input, Setting, Buffer, OutOfMemory}
use Rattle.encode_film.specs.Calls.{TextWritten}
use Rattle.encode_film.specs.Groups.{AllCoded, PicturesLeft}
use Rattle.encode_film.specs.Lines.{line_alone}
use Rattle.encode_film.specs.Outputs.{put, outputs_by}
use Rattle.encode_film.proofs.Writing.{put_more, fronts_joined}

totals_are : (f : SessionSettings) (pictures : List Planes) → totals_of (encoding f pictures).done ≡ totals_in (encoding f pictures).end
unfolding encoding encoding_from film_encoded
totals_are f pictures = totals_add_up frames (sequence_of f) (film_of (coder_of f) (rate_of f) (reorders f)) (film_coder (coder_of f)) f.qp (start f) (film_steps f pictures) refl refl

-- with the last line all is written
whole_is : (head : FilmHead) (f : SessionSettings) (old mid : Seen) (state : State) (a : AllCoded head f old mid state)
    → joined (written_to f (encoding f a.pictures).done) (line_alone (totals_line (totals_in state))) ≡ written_whole f (encoding f a.pictures).done
whole_is head f old mid state a =
    outputs_are (append-nil (written_to f (encoding f a.pictures).done).stream) (append-nil (written_to f (encoding f a.pictures).done).recon)
    (ap (λ (t : ReportTotals). report_to (report_head f) (encoding f a.pictures).done ++ totals_line t) (ap (λ (s : State). totals_in s) a.state_is ∙ sym (totals_are f a.pictures)))
  where
    outputs_are : {x y z u v w : List ℕ} → x ≡ u → y ≡ v → z ≡ w → (let o : Outputs = record { stream = x; recon = y; report = z } in let p : Outputs = record { stream = u; recon = v; report = w } in o ≡ p)
    outputs_are e1 e2 e3 = rw (e1, e2, e3) refl

-- what the film gives
outputs_whole : (f : SessionSettings) (pictures : List Planes) (film : List Planes × FilmEnd) → (encoding f pictures).refused ≡ None → film ≡ (pictures, Ended) → outputs_by f film ≡ written_whole f (encoding f pictures).done
outputs_whole f pictures film none is =
    ap (λ (p : List Planes × FilmEnd). outputs_by f p) is ∙ ap (λ (o : Option Refusal). written_by f o Ended (encoding f pictures).done) none

pub totals_written : (head : FilmHead) (f : SessionSettings) (old mid new : Seen) (state : State) (r : Result (Unit {0}) EncodeEnd) → AllCoded head f old mid state → TextWritten (line_alone (totals_line (totals_in state))) mid new r → PicturesLeft head f old new r
totals_written head f old mid new state (Ok done) a text = record {
  count = a.count;
  pictures = a.pictures;
  are = a.are;
  none_refused = a.none_refused;
  change = text ∙ ap (added (line_alone (totals_line (totals_in state)))) a.change
      ∙ put_more (written_to f (encoding f a.pictures).done) (line_alone (totals_line (totals_in state))) a.count old
      ∙ ap (λ (o : Outputs). put o a.count old) (whole_is head f old mid state a);
  told = a.told;
}
totals_written head f old mid new state (Err (Write out)) a cut =
    let before = written_to f (encoding f a.pictures).done in
    let fronts = subst (λ (o : Outputs). AreFronts (joined before cut.written) o) (whole_is head f old mid state a) (fronts_joined before cut.written (line_alone (totals_line (totals_in state))) cut.fronts) in
    record {
      count = a.count;
      pictures = a.pictures;
      are = a.are;
      written = joined before cut.written;
      fronts = fronts;
      failed = subst (λ (x : Seen). LaterFailed (places.Output out) x new) (ap (added cut.written) a.change ∙ put_more before cut.written a.count old) cut.failed;
      told = go old.input.bytes fronts a.told;
    }
  where
    go : (o : Option (List ℕ)) → AreFronts (joined (written_to f (encoding f a.pictures).done) cut.written) (written_whole f (encoding f a.pictures).done)
        → IfSome o (λ left. (pictures_of most_pictures head left ≡ (a.pictures, Ended)) × (drop a.count left ≡ []))
        → IfSome o (λ left. AreFronts (joined (written_to f (encoding f a.pictures).done) cut.written) (outputs_by f (pictures_of most_pictures head left)))
    go None fronts told = tt
    go (Some left) fronts told =
        subst (λ (o : Outputs). AreFronts (joined (written_to f (encoding f a.pictures).done) cut.written) o) (sym (outputs_whole f a.pictures (pictures_of most_pictures head left) a.none_refused told.0)) fronts
totals_written head f old mid new state (Err (Open place)) a text = absurd text
totals_written head f old mid new state (Err Read) a text = absurd text
totals_written head f old mid new state (Err (Input fault)) a text = absurd text
totals_written head f old mid new state (Err (Setting fault)) a text = absurd text
totals_written head f old mid new state (Err (Buffer picture need have)) a text = absurd text
totals_written head f old mid new state (Err OutOfMemory) a text = absurd text
