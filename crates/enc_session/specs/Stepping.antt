-- What one step leaves behind.
use Rattle.std.specs.Prelude.{ℕ, ◌≡◌, ◌*◌, true, List, Result, Ok, Err}
use Rattle.enc_edge.specs.declared.studio.Out.{Out}
use Rattle.enc_edge.specs.declared.studio.Out.TheVariants.{Stream, Report}
use Rattle.enc_edge.specs.declared.studio.Place.TheVariants.{Output}
use Rattle.enc_edge.specs.Seen.{Seen}
use Rattle.enc_edge.specs.Calls.{wrote}
use Rattle.enc_tables.specs.declared.records.PlanStep.{PlanStep}
use Rattle.enc_tables.specs.declared.records.SliceKind.{SliceKind}
use Rattle.enc_tables.specs.declared.records.SliceKind.TheVariants.{I, P, B}
use Rattle.picture_planes.specs.declared.picture.Picture.{Picture}
use Rattle.picture_planes.specs.Pictures.{planes_of}
use Rattle.spec_film.specs.Films.{Planes}
use Rattle.spec_lists.specs.References.{Reference as Shown}
use Rattle.spec_decoder.specs.Frames.{frames}
use Rattle.spec_decoder.specs.Macroblocks.{Slice as Read}
use Rattle.spec_pictures.specs.Accesses.{access_bytes, picture_of}
use Rattle.spec_report.specs.declared.ReportPicture.{ReportPicture}
use Rattle.spec_report.specs.Lines.{picture_line}
use Rattle.spec_coding.specs.Encoding.{State, Picked, Fits, Refused, access_of, coded, after}
use Rattle.spec_coding.specs.Report.{reported}
use Rattle.spec_session.specs.Settings.{SessionSettings}
use Rattle.spec_session.specs.Encodings.{sequence_of}
use Rattle.enc_session.specs.declared.engine.Engine.{Engine}
use Rattle.enc_session.specs.declared.ends.GroupEnd.{GroupEnd}
use Rattle.enc_session.specs.declared.ends.GroupEnd.TheVariants.{Buffer, Write}
use Rattle.enc_session.specs.declared.units.Made.{Made}
use Rattle.enc_session.specs.Left.{CutShort, with_line}
use Rattle.enc_session.specs.Steps.{choice_in}

-- what the report says of a picture before which there were so many
abbrev pub line_by : ℕ → PlanStep → Made → ReportPicture
line_by place st m = record { coded = place; display = st.display; kind = st.kind; qp = m.qp; coarsest = m.coarsest; bits = m.bits; filler = 8 * m.filler; have = m.have }

-- the access unit of a picture, its line, and the picture itself
abbrev pub unit_of : SessionSettings → PlanStep → Picked Read → List ℕ
unit_of f st p = access_bytes (sequence_of f) (true, f.t8x8) (access_of st p)

abbrev pub line_in : SessionSettings → State → PlanStep → Picked Read → List ℕ
line_in f s st p = picture_line (reported s.ledger.units (coded frames (sequence_of f) s st p))

abbrev pub picture_in : SessionSettings → State → PlanStep → Picked Read → Shown
picture_in f s st p = picture_of frames (sequence_of f) s.held (access_of st p)

-- a B picture stands in its slot
abbrev pub InSlot : SliceKind → Picture → Planes → Type 0
InSlot I slot p = Unit {0}
InSlot P slot p = Unit {0}
InSlot B slot p = planes_of slot ≡ p

pub record StepCoded (f : SessionSettings) (s : State) (st : PlanStep) (source : Planes) (slot : Picture) (old new : Seen) (t : State) (p : Picked Read) : Type 0 where
  pub chosen : (choice_in f).chosen s st source ≡ Fits p
  pub state : t ≡ after frames (sequence_of f) (choice_in f) s st p
  pub seen : new ≡ wrote (Output Report) (line_in f s st p) (wrote (Output Stream) (unit_of f st p) old)
  pub shown : InSlot st.kind slot (picture_in f s st p).planes

-- the unit was made, and writing it or its line failed
pub record StepCut (f : SessionSettings) (s : State) (st : PlanStep) (source : Planes) (out : Out) (old new : Seen) (p : Picked Read) : Type 0 where
  pub chosen : (choice_in f).chosen s st source ≡ Fits p
  pub cut : CutShort out (with_line (unit_of f st p) (line_in f s st p)) old new

abbrev pub StepLeft : SessionSettings → State → PlanStep → Planes → Picture → Seen → Seen → State → Result (Unit {0}) GroupEnd → Type 0
StepLeft f s st source slot old new t (Ok done) = (p : Picked Read) × StepCoded f s st source slot old new t p
StepLeft f s st source slot old new t (Err (Buffer picture need have)) = (picture ≡ st.display) × ((choice_in f).chosen s st source ≡ Refused need have) × (new ≡ old)
StepLeft f s st source slot old new t (Err (Write out)) = (p : Picked Read) × StepCut f s st source out old new p

-- settings and place are as they were
pub record SameEngine (old new : Engine) : Type 0 where
  pub settings : new.settings ≡ old.settings
  pub head : new.head ≡ old.head
  pub level : new.level ≡ old.level
  pub display : new.display ≡ old.display
  pub number : new.number ≡ old.number
