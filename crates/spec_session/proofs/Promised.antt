-- What is written for a film that is encoded to its end keeps what is promised.
use Rattle.std.proofs.Common.{◌≡◌, List, length, None, refl}
use Rattle.spec_film.specs.Films.{Planes}
use Rattle.spec_buffer.specs.Buffer.{BufferHolds, IsRate}
use Rattle.spec_buffer.specs.Ledger.{sizes_of}
use Rattle.spec_plan.specs.Plan.{fixed}
use Rattle.spec_coding.specs.Encoding.{in_order}
use Rattle.spec_coding.specs.Laws.{spendings}
use Rattle.spec_film_coder.specs.Sound.{IsFilm}
use Rattle.spec_film_coder.proofs.Planned.{film_decodes, film_is_read, film_is_whole, film_keeps_the_buffer}
use Rattle.spec_session.specs.Settings.{SessionSettings}
use Rattle.spec_session.specs.Encodings.{coder_of, rate_of, reorders, sequence_of, picture_at, encoding_from, encoding, IsEncoding}
use Rattle.spec_session.specs.Outputs.{written_whole}

abbrev pub IsFilmOf : SessionSettings → List Planes → Type 0
IsFilmOf f pictures = IsFilm (coder_of f) (rate_of f) (fixed f.bframes) f.idr (length pictures) (picture_at pictures)

pub is_encoding : (f : SessionSettings) (pictures : List Planes) → IsFilmOf f pictures → IsRate (rate_of f) → (encoding f pictures).refused ≡ None
    → IsEncoding f pictures (written_whole f (encoding f pictures).done).stream (written_whole f (encoding f pictures).done).recon (written_whole f (encoding f pictures).done).report
unfolding encoding encoding_from
is_encoding f pictures film rate none =
    record {
      none_refused = none;
      stream_is = refl;
      report_is = refl;
      reads = film_is_read (coder_of f) (rate_of f) (fixed f.bframes) f.idr (length pictures) (picture_at pictures) film (reorders f) f.qp;
      shown = in_order (sequence_of f) (encoding f pictures).done;
      shows = film_decodes (coder_of f) (rate_of f) (fixed f.bframes) f.idr (length pictures) (picture_at pictures) film (reorders f) f.qp;
      each = film_is_whole (coder_of f) (rate_of f) (fixed f.bframes) f.idr (length pictures) (picture_at pictures) film (reorders f) f.qp none;
      recon_is = refl;
      buffer = film_keeps_the_buffer (coder_of f) (rate_of f) (fixed f.bframes) f.idr (length pictures) (picture_at pictures) film (reorders f) f.qp rate;
    }

-- the buffer holds whether a picture was refused or not
pub buffer_holds : (f : SessionSettings) (pictures : List Planes) → IsFilmOf f pictures → IsRate (rate_of f) → BufferHolds (rate_of f) (sizes_of (spendings (encoding f pictures).done))
unfolding encoding encoding_from
buffer_holds f pictures film rate = film_keeps_the_buffer (coder_of f) (rate_of f) (fixed f.bframes) f.idr (length pictures) (picture_at pictures) film (reorders f) f.qp rate
