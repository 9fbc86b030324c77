-- One step of a session.
use Rattle.std.specs.Prelude.{ℕ, ◌≡◌, ◌≤◌, ◌^◌, Bool, true, false, List, [], Result, Ok, Err}
use Rattle.std.specs.List.{All}
use Rattle.enc_tables.specs.declared.records.PlanStep.{PlanStep}
use Rattle.bit_strings.specs.BitText.{BitText}
use Rattle.spec_bits.specs.Bits.{IsByte, bits_of_bytes}
use Rattle.spec_film.specs.Films.{Planes}
use Rattle.spec_decoder.specs.Frames.{frames}
use Rattle.spec_decoder.specs.Macroblocks.{Slice as Read}
use Rattle.spec_pictures.specs.Accesses.{access_bytes, picture_of}
use Rattle.spec_coding.specs.Encoding.{State, Picked, Choice, Fits, Refused, access_of}
use Rattle.spec_coding.specs.Trials.{Film, choice_of, delays_of}
use Rattle.spec_film_coder.specs.Pictures.{film_of, film_coder}
use Rattle.spec_session.specs.Settings.{SessionSettings}
use Rattle.spec_session.specs.Encodings.{coder_of, rate_of, reorders, sequence_of}
use Rattle.ref_lists.specs.declared.held.Reference.{Reference}
use Rattle.ref_lists.specs.declared.store.RefStore.{RefStore}
use Rattle.ref_lists.specs.Stored.{held_of, SameStore}
use Rattle.picture_coder.specs.Kept.{IsKept}
use Rattle.enc_session.specs.declared.engine.Engine.{Engine}
use Rattle.enc_session.specs.declared.ends.GroupEnd.{GroupEnd}
use Rattle.enc_session.specs.declared.ends.GroupEnd.TheVariants.{Buffer, Write}
use Rattle.enc_session.specs.declared.units.Made.{Made}
use Rattle.enc_session.specs.Fronts.{front_bytes}
use Rattle.enc_session.specs.Ready.{settings_in, state_in}

-- how its film is coded
abbrev pub film_in : SessionSettings → Film
film_in f = film_of (coder_of f) (rate_of f) (reorders f)

abbrev pub choice_in : SessionSettings → Choice Read
choice_in f = choice_of (film_in f) (film_coder (coder_of f))

-- the bytes before the slices of a step's picture
abbrev pub front_in : Engine → PlanStep → List ℕ
front_in e st = front_bytes (sequence_of (settings_in e)) (true, (settings_in e).t8x8) st.idr (delays_of (film_in (settings_in e)) (state_in e) st)

-- all references are given up before an IDR picture
abbrev pub IsReset : Bool → RefStore → RefStore → Type 0
IsReset true old new = (held_of new ≡ []) × SameStore old new
IsReset false old new = new ≡ old

-- a trial was picked: what was made is its access unit, and its picture is kept
pub record IsMade (f : SessionSettings) (s : State) (st : PlanStep) (source : Planes) (m : Made) (unit : BitText) (kept : Reference) (p : Picked Read) : Type 0 where
  pub chosen : (choice_in f).chosen s st source ≡ Fits p
  pub qp : m.qp ≡ p.qp
  pub coarsest : m.coarsest ≡ p.coarsest
  pub bits : m.bits ≡ p.bits
  pub filler : m.filler ≡ p.filler
  pub have : m.have ≡ p.have
  pub compared : m.compared ≡ p.compared
  pub small : m.compared ≤ 2 ^ 34
  pub text : unit.text ≡ bits_of_bytes (access_bytes (sequence_of f) (true, f.t8x8) (access_of st p))
  pub are_bytes : All IsByte (access_bytes (sequence_of f) (true, f.t8x8) (access_of st p))
  pub shown : IsKept kept (picture_of frames (sequence_of f) s.held (access_of st p))

abbrev pub MadeLeft : SessionSettings → State → PlanStep → Planes → BitText → Reference → Result Made GroupEnd → Type 0
MadeLeft f s st source unit kept (Ok m) = (p : Picked Read) × IsMade f s st source m unit kept p
MadeLeft f s st source unit kept (Err (Buffer picture need have)) = (picture ≡ st.display) × ((choice_in f).chosen s st source ≡ Refused need have)
MadeLeft f s st source unit kept (Err (Write out)) = ⊥
