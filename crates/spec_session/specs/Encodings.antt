-- THE ENCODING of a film by its settings, and what it promises.
use Rattle.std.specs.Prelude.{ℕ, ◌≡◌, ◌==◌, not, Bool, true, List, [], length, get_or, Some, None}
use Rattle.enc_tables.specs.declared.records.PlanStep.{PlanStep}
use Rattle.spec_film.specs.Films.{Planes}
use Rattle.spec_film.specs.Written.{film_text}
use Rattle.spec_headers.specs.declared.heads.SeqHead.{SeqHead}
use Rattle.spec_buffer.specs.Buffer.{Rate, BufferHolds}
use Rattle.spec_buffer.specs.Ledger.{sizes_of}
use Rattle.spec_report.specs.declared.ReportHead.{ReportHead}
use Rattle.spec_plan.specs.Plan.{fixed}
use Rattle.spec_decoder.specs.Macroblocks.{Slice as Read}
use Rattle.spec_decoder.specs.Frames.{frames, decode, slices_read}
use Rattle.spec_pictures.specs.Accesses.{slices_of_accesses}
use Rattle.spec_coding.specs.Encoding.{State, Coded, Went, accesses_of, spelled}
use Rattle.spec_coding.specs.Laws.{spendings, AreSmall, FirstFits}
use Rattle.spec_coding.specs.Report.{whole_report}
use Rattle.spec_film_coder.specs.Pictures.{CoderSettings, film_coder, film_of, film_encoded}
use Rattle.spec_film_coder.specs.Sound.{planned_steps, first_state}
use Rattle.spec_session.specs.Settings.{SessionSettings}

-- ---- settings, as the coder, the buffer, the plan and the report take them

-- pictures are shown in another order than they are coded where there may be B pictures
abbrev pub reorders : SessionSettings → Bool
reorders f = not (f.bframes == 0)

abbrev pub sequence_of : SessionSettings → SeqHead
sequence_of f = record {
  width = f.head.width;
  height = f.head.height;
  level = f.level;
  refs = f.refs;
  timing = Some (record { num = f.head.num; den = f.head.den; rate = f.rate; cpb = f.cpb; reorder = reorders f });
}

abbrev pub coder_of : SessionSettings → CoderSettings
coder_of f = record { sequence = sequence_of f; slices = f.slices; t8x8 = f.t8x8; range = f.range }

abbrev pub rate_of : SessionSettings → Rate
rate_of f = record { num = f.head.num; den = f.head.den; rate = f.rate; cpb = f.cpb; delay = f.delay }

abbrev pub report_head : SessionSettings → ReportHead
report_head f = record { rate = f.rate; cpb = f.cpb; delay = f.delay; level = f.level; slices = f.slices }

-- ---- pictures

-- the picture at a place in display order
abbrev pub picture_at : List Planes → ℕ → Planes
picture_at pictures display = get_or pictures display (record { luma = []; cb = []; cr = [] })

-- the steps of a film with their pictures, padded as the film has them, in coded order
abbrev pub film_steps : SessionSettings → List Planes → List (PlanStep × Planes)
film_steps f pictures = planned_steps (fixed f.bframes) f.idr (length pictures) (picture_at pictures)

-- ---- the encoding

-- of some steps, from a state on
unfoldable pub encoding_from : SessionSettings → State → List (PlanStep × Planes) → Went Read
encoding_from f s xs = film_encoded (coder_of f) (rate_of f) (reorders f) s xs

abbrev pub start : SessionSettings → State
start f = first_state f.qp

-- of a whole film
unfoldable pub encoding : SessionSettings → List Planes → Went Read
encoding f pictures = encoding_from f (start f) (film_steps f pictures)

-- the bytes of its access units
abbrev pub stream_of : SessionSettings → List (Coded Read) → List ℕ
stream_of f ds = spelled (sequence_of f) (true, f.t8x8) ds

-- each coarsest unit has at most a picture's share in bits, and the first at most the bits that are there
pub record AreSmallUnits (f : SessionSettings) (pictures : List Planes) : Type 0 where
  pub units : AreSmall frames (sequence_of f) (film_of (coder_of f) (rate_of f) (reorders f)) (film_coder (coder_of f)) (start f) (film_steps f pictures)
  pub first : FirstFits (film_of (coder_of f) (rate_of f) (reorders f)) (film_coder (coder_of f)) (start f) (film_steps f pictures)

-- ---- what is promised of the bytes that are written for a film: what every decoder makes of them, and that a receiver's buffer holds

pub record IsEncoding (f : SessionSettings) (pictures : List Planes) (stream recon report : List ℕ) : Type 0 where
  pub none_refused : (encoding f pictures).refused ≡ None
  -- stream and report are what the written choice, the trials and the ledger give
  pub stream_is : stream ≡ stream_of f (encoding f pictures).done
  pub report_is : report ≡ whole_report (report_head f) (encoding f pictures).done
  -- a decoder reads in the stream exactly the records of the encoding
  pub reads : slices_read stream ≡ Some (slices_of_accesses (accesses_of (encoding f pictures).done))
  -- it shows as many pictures as the film has, and the reconstruction is the film of what it shows
  pub shown : List Planes
  pub shows : decode stream ≡ Some shown
  pub each : length shown ≡ length pictures
  pub recon_is : recon ≡ film_text f.head shown
  -- the buffer neither underflows nor overflows (clause C.3)
  pub buffer : BufferHolds (rate_of f) (sizes_of (spendings (encoding f pictures).done))
