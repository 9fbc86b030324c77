-- What is given of a film's settings and steps, so that its coder meets what encodings owe.
use Rattle.std.specs.Prelude.{◌≡◌, ℕ, ◌+◌, ◌^◌, ◌<◌, ◌≤◌, Bool, true, false, List, [], length, map}
use Rattle.std.specs.List.{AllByRecursion}
use Rattle.enc_tables.specs.declared.records.PlanStep.{PlanStep}
use Rattle.enc_tables.specs.declared.records.SliceKind.{SliceKind}
use Rattle.enc_tables.specs.declared.records.SliceKind.TheVariants.{I, P, B}
use Rattle.spec_film.specs.Films.{Planes}
use Rattle.spec_headers.specs.Allowed.{IsSeqHead}
use Rattle.spec_record_laws.specs.Coded.{PlanesFit}
use Rattle.spec_tasks.specs.Given.{PicturesFit}
use Rattle.spec_buffer.specs.Buffer.{Rate}
use Rattle.spec_buffer.specs.Ledger.{fresh}
use Rattle.spec_plan.specs.Plan.{plan_of}
use Rattle.spec_plan.specs.Marks.{mark, HasLists, HasRoom}
use Rattle.spec_coding.specs.Encoding.{State}
use Rattle.spec_coding.specs.Laws.{steps_of}
use Rattle.spec_film_coder.specs.Pictures.{CoderSettings, shape}

-- each slice has a row of macroblocks
pub record AreSettings (c : CoderSettings) : Type 0 where
  pub sequence : IsSeqHead c.sequence
  pub some : 0 < c.slices
  pub few : c.slices ≤ (shape c).down
  pub range : c.range ≤ 32

-- an IDR picture is an I picture, any other one a P or B picture; their numbers have room in a header
abbrev pub InterFits : SliceKind → Type 0
InterFits I = ⊥
InterFits P = Unit {0}
InterFits B = Unit {0}

abbrev pub StepFits : Bool → SliceKind → PlanStep → Type 0
StepFits true kind st = (kind ≡ I) × (st.frame_num ≡ 0) × (st.poc ≡ 0)
StepFits false kind st = InterFits kind × (st.frame_num < 65536) × (st.poc < 65536)

pub record IsStep (x : PlanStep × Planes) : Type 0 where
  pub fits : StepFits x.0.idr x.0.kind x.0
  pub display : x.0.display ≤ 4000000
  pub source : PlanesFit x.1

-- the references that are held have samples of eight bits, each step's lists have their entries, and there are at most four million pictures
pub record IsSound (c : CoderSettings) (rate : Rate) (s : State) (xs : List (PlanStep × Planes)) : Type 0 where
  pub held : PicturesFit s.held
  pub lists : HasLists c.sequence.refs (map mark s.held) (steps_of xs)
  pub steps : AllByRecursion IsStep xs
  pub few : s.ledger.units + length xs ≤ 4000000
  pub some_delay : 1 ≤ rate.delay
  pub delay : rate.delay < 2 ^ 32

-- ---- a whole film

-- the steps of a plan with their pictures, by their places in display order
unfoldable pub planned_steps : (ℕ → ℕ) → ℕ → ℕ → (ℕ → Planes) → List (PlanStep × Planes)
planned_steps wanted idr pictures source = map (λ st. (st, source st.display)) (plan_of wanted idr pictures)

abbrev pub first_state : ℕ → State
first_state qp = record { held = []; ledger = fresh qp; idrs = 0; last_idr = 0; compared = 0 }

-- So many pictures of eight bits; wanted: how many pictures a group has; idr: the distance of IDR pictures
pub record IsFilm (c : CoderSettings) (rate : Rate) (wanted : ℕ → ℕ) (idr pictures : ℕ) (source : ℕ → Planes) : Type 0 where
  pub settings : AreSettings c
  pub level : c.sequence.level < 256
  pub idr_some : 0 < idr
  pub idr_most : idr ≤ 16384
  pub room : HasRoom wanted c.sequence.refs
  pub few : pictures ≤ 4000000
  pub fit : (d : ℕ) → d < pictures → PlanesFit (source d)
  pub some_delay : 1 ≤ rate.delay
  pub delay : rate.delay < 2 ^ 32
