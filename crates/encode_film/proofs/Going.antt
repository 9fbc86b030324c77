-- The loop over the groups.
use Rattle.std.proofs.Common.{ℕ, ◌≡◌, List, [], length, Option, Some, None, Err, refl, ap, sym, ◌∙◌, subst, arith}
use Rattle.std.specs.Prelude.{IfSome}
use Rattle.std.proofs.lemmas.List.Elements.{All-nil}
use Rattle.enc_edge.specs.declared.studio.Place.TheVariants as places
use Rattle.enc_edge.specs.Seen.{Seen}
use Rattle.enc_edge.specs.Calls.{LaterFailed}
use Rattle.spec_film.specs.declared.FilmHead.{FilmHead}
use Rattle.spec_film.specs.Films.{Planes, most_pictures, pictures_of}
use Rattle.spec_stream.specs.Pictures.{IsPicture}
use Rattle.spec_decoder.specs.Macroblocks.{Slice as Slice}
use Rattle.spec_coding.specs.Encoding.{State, Refusal, Went, encoded}
use Rattle.spec_coding.specs.Report.{totals_of}
use Rattle.spec_report.specs.Lines.{totals_line}
use Rattle.spec_plan.specs.Plan.{plan}
use Rattle.spec_film_coder.specs.Pictures.{film_encoded}
use Rattle.spec_film_coder.specs.Sound.{planned_steps}
use Rattle.spec_session.specs.Settings.{SessionSettings}
use Rattle.spec_session.specs.Encodings.{encoding, encoding_from, start}
use Rattle.spec_session.specs.Groups.{Place, place_after, place_from, coded_by}
use Rattle.spec_session.specs.Outputs.{Outputs, AreFronts, written_to, written_whole}
use Rattle.spec_session.proofs.Growing.{fronts_then, front_same}
use Rattle.enc_session.specs.Left.{added}
use Rattle.y4m_film.specs.Taken.{PicturesTaken}
use Rattle.encode_film.specs.declared.ends.EncodeEnd.{EncodeEnd}
use Rattle.encode_film.specs.declared.ends.EncodeEnd.TheVariants.{Open, Read, Write, Input, Setting, Buffer, OutOfMemory}
use Rattle.encode_film.specs.Calls.{TextWritten}
use Rattle.encode_film.specs.Groups.{ArePictures, GroupsLeft}
use Rattle.encode_film.specs.Outputs.{put, outputs_by}
use Rattle.encode_film.proofs.Firsts.{AreFirst, first_whole, refused_so, fronts_so}
use Rattle.encode_film.proofs.Taking.{none_read}
use Rattle.encode_film.proofs.Writing.{put_none}

-- whole groups were coded, up to this place; the next reference picture has this number
pub record Going (head : FilmHead) (f : SessionSettings) (place number : ℕ) (old now : Seen) (state : State) : Type 0 where
  pub groups : ℕ
  pub count : ℕ
  pub pictures : List Planes
  pub are : ArePictures head pictures
  pub place_is : (let p : Place = record { display = place; number = number } in place_after f groups ≡ p)
  pub size : length pictures ≡ place
  pub none_refused : (encoding f pictures).refused ≡ None
  pub state_is : state ≡ (encoding f pictures).end
  pub change : now ≡ put (written_to f (encoding f pictures).done) count old
  pub told : IfSome old.input.bytes (PicturesTaken head count pictures)

-- ---- the start

abbrev nothing : SessionSettings → Went Slice
nothing f = record { done = []; end = start f; refused = None }

encoding_none : (f : SessionSettings) → encoding f [] ≡ nothing f
unfolding encoding encoding_from film_encoded encoded plan planned_steps
encoding_none f = refl

taken_none : (head : FilmHead) (o : Option (List ℕ)) → IfSome o (PicturesTaken head 0 [])
taken_none head None = tt
taken_none head (Some left) = let r = none_read head most_pictures left in record { all = r.all; end = r.end }

no_pictures : (head : FilmHead) → ArePictures head []
no_pictures head = record { are = All-nil (IsPicture head); few = omega arith }

pub going_none : (head : FilmHead) (f : SessionSettings) (old now : Seen) (state : State) → state ≡ start f → now ≡ added (written_to f []) old → Going head f 0 0 old now state
unfolding place_from
going_none head f old now state begins is = record {
  groups = 0;
  count = 0;
  pictures = [];
  are = no_pictures head;
  place_is = refl;
  size = refl;
  none_refused = ap (λ (w : Went Slice). w.refused) (encoding_none f);
  state_is = begins ∙ ap (λ (w : Went Slice). w.end) (sym (encoding_none f));
  change = is ∙ put_none (written_to f []) old ∙ ap (λ (w : Went Slice). put (written_to f w.done) 0 old) (sym (encoding_none f));
  told = taken_none head old.input.bytes;
}

-- what is written in full is more than that up to the last picture
pub fronts_whole : (f : SessionSettings) (w : Went Slice) → AreFronts (written_to f w.done) (written_whole f w.done)
fronts_whole f w = record { stream = front_same (written_to f w.done).stream; recon = front_same (written_to f w.done).recon; report = (totals_line (totals_of w.done), refl) }

-- by what is told of the film's first pictures
pub told_fronts : (head : FilmHead) (f : SessionSettings) (pictures : List Planes) (written : Outputs) (o : Option (List ℕ)) → AreFronts written (written_to f (encoding f pictures).done)
    → IfSome o (λ left. AreFirst f pictures (pictures_of most_pictures head left)) → IfSome o (λ left. AreFronts written (outputs_by f (pictures_of most_pictures head left)))
told_fronts head f pictures written None fronts first = tt
told_fronts head f pictures written (Some left) fronts first =
    fronts_then written (written_to f (encoding f pictures).done) (outputs_by f (pictures_of most_pictures head left)) fronts (fronts_so f pictures (pictures_of most_pictures head left) first)

pub told_refused : (head : FilmHead) (f : SessionSettings) (pictures : List Planes) (r : Refusal) (o : Option (List ℕ)) → (encoding f pictures).refused ≡ Some r → IfSome o (λ left. AreFirst f pictures (pictures_of most_pictures head left))
    → IfSome o (λ left. encoding f (coded_by f (pictures_of most_pictures head left).1 (pictures_of most_pictures head left).0) ≡ encoding f pictures)
told_refused head f pictures r None refused first = tt
told_refused head f pictures r (Some left) refused first = refused_so f pictures (pictures_of most_pictures head left) r first refused

none_at : (f : SessionSettings) → 0 ≡ (place_after f 0).display
unfolding place_from
none_at f = refl

-- the heads weren't written
pub heads_cut : (head : FilmHead) (f : SessionSettings) (old new : Seen) (state : State) (end : EncodeEnd) → TextWritten (written_to f []) old new (Err end) → GroupsLeft head f old new state (Err end)
heads_cut head f old new state (Open place) text = absurd text
heads_cut head f old new state Read text = absurd text
heads_cut head f old new state (Input fault) text = absurd text
heads_cut head f old new state (Setting fault) text = absurd text
heads_cut head f old new state (Buffer picture need have) text = absurd text
heads_cut head f old new state OutOfMemory text = absurd text
heads_cut head f old new state (Write out) cut = record {
  count = 0;
  pictures = [];
  are = no_pictures head;
  written = cut.written;
  fronts = fronts_then cut.written (written_to f (encoding f []).done) (written_whole f (encoding f []).done) fronts (fronts_whole f (encoding f []));
  failed = subst (λ (s : Seen). LaterFailed (places.Output out) s new) (put_none cut.written old) cut.failed;
  told = told_fronts head f [] cut.written old.input.bytes fronts (first old.input.bytes);
}
  where
    fronts : AreFronts cut.written (written_to f (encoding f []).done)
    fronts = subst (λ (w : Went Slice). AreFronts cut.written (written_to f w.done)) (sym (encoding_none f)) cut.fronts

    first : (o : Option (List ℕ)) → IfSome o (λ left. AreFirst f [] (pictures_of most_pictures head left))
    first None = tt
    first (Some left) = first_whole f 0 [] (pictures_of most_pictures head left).0 (pictures_of most_pictures head left) refl (none_at f)
