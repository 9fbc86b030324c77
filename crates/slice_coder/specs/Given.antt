-- What is given of a slice and of its macroblocks, and what holds along it.
use Rattle.std.specs.Prelude.{◌≡◌, ℕ, ◌-◌, ◌*◌, ◌/◌, ◌%◌, ◌<◌, ◌≤◌, Bool, true, false, List, length, get_or, Option, Some, None}
use Rattle.enc_tables.specs.declared.records.MbKind.{MbKind}
use Rattle.enc_tables.specs.declared.records.MbPlan.{MbPlan}
use Rattle.enc_tables.specs.declared.records.MbRecord.{MbRecord}
use Rattle.enc_tables.specs.declared.plans.RowPlan.{RowPlan}
use Rattle.enc_tables.specs.Kinds.{has_motion}
use Rattle.enc_tables.specs.Records.{no_record}
use Rattle.picture_planes.specs.declared.stripe.Stripe.{Stripe}
use Rattle.spec_headers.specs.declared.heads.SliceHead.{SliceHead}
use Rattle.spec_partitions.specs.InRange.{AllFit}
use Rattle.spec_partitions.specs.Small.{AllSmall}
use Rattle.spec_slice_payload.specs.Layer.{Format}
use Rattle.spec_slice_payload.specs.Slices.{IsHead}
use Rattle.spec_reconstruction.specs.declared.Site.{Site}
use Rattle.spec_coded.specs.Tasks.{Task}
use Rattle.spec_record_laws.specs.Coded.{PlanesFit}
use Rattle.spec_tasks.specs.Given.{PicturesFit}
use Rattle.ref_lists.specs.Named.{named}
use Rattle.residual_coder.specs.Inside.{IsSource}
use Rattle.intra_coder.specs.Reach.{Stands as StandsIntra}
use Rattle.inter_coder.specs.declared.given.Pictures.{Pictures}
use Rattle.inter_coder.specs.declared.given.Beside.{Beside}
use Rattle.inter_coder.specs.Given.{source_in, count0, count1}
use Rattle.inter_coder.specs.Beside.{BesideFits, BesideSmall, PlanFits, PlanSmall, Stands}
use Rattle.slice_coder.specs.declared.place.Place.{Place}
use Rattle.slice_coder.specs.Plans.{HasLists, ArePlanned, task_of}

-- ---- a slice

-- `format_of` the picture, and `task_of` it, by the slice's place
abbrev pub format_in : Place → Pictures → Format
format_in place p = record { across = place.across; total = place.across * (p.source.now.y.height / 16); t8x8 = place.t8x8 }

abbrev pub task_in : Place → SliceHead → Pictures → List RowPlan → Task
task_in place h p plans = task_of (format_in place p) h (named p.lists.now) (source_in p) plans

-- a slice with this header has its place in the picture, and its lists
pub record IsPlaced (place : Place) (h : SliceHead) (p : Pictures) : Type 0 where
  pub wide : 0 < place.across
  pub across : p.source.now.y.width ≡ 16 * place.across
  pub rows : place.row < place.end
  pub high : 16 * place.end ≤ p.source.now.y.height
  pub whole : p.source.now.y.height % 16 ≡ 0
  pub first : h.first_mb ≡ place.row * place.across
  pub head : IsHead h.idr h
  pub lists : HasLists h p.source.now p.lists.now

-- its rows are planned, or it is to be the coarsest one, which has the greatest QP
pub record CanBe (coarsest : Bool) (place : Place) (h : SliceHead) (p : Pictures) (plans : List RowPlan) : Type 0 where
  pub count : coarsest ≡ false → length plans ≡ place.end - place.row
  pub planned : coarsest ≡ false → ArePlanned (format_in place p) h (named p.lists.now) (source_in p) plans
  pub greatest : coarsest ≡ true → h.qp ≡ 51

-- samples of eight bits
pub record SamplesFit (p : Pictures) : Type 0 where
  pub source : PlanesFit (source_in p)
  pub list0 : PicturesFit (named p.lists.now).list0
  pub list1 : PicturesFit (named p.lists.now).list1

-- ---- its macroblocks

-- of records of the slice: references that its lists have, and vectors of at most 131 quarter samples
pub record MovesFit (h : SliceHead) (before : List MbRecord) : Type 0 where
  pub fits : (i : ℕ) → i < length before → AllFit h.refs0 h.refs1 (get_or before i no_record).motion
  pub small : (i : ℕ) → i < length before → AllSmall 131 (get_or before i no_record).motion

-- a macroblock lies inside the pictures and the stripe, and so do its neighbours that are available
pub record CanStand (site : Site) (p : Pictures) (s : Stripe) (b : Beside) : Type 0 where
  pub qp : site.qp ≤ 51
  pub intra : StandsIntra site (16 * s.first) s.picture.now.y
  pub source : IsSource 16 site.y s.picture.now.y p.source.now.y
  pub inter : Stands site p s
  pub fits : BesideFits (count0 p) (count1 p) b
  pub short : BesideSmall 131 b

-- an inter macroblock of this kind can be coded by a plan
pub record PlannedFor (entries0 entries1 : ℕ) (kind : MbKind) (plan : MbPlan) : Type 0 where
  pub moves : has_motion kind ≡ true
  pub fits : PlanFits entries0 entries1 plan
  pub small : PlanSmall 131 plan

-- a macroblock that was taken, and else the chosen one
abbrev pub taken_or : MbRecord → Option MbRecord → MbRecord
taken_or chosen None = chosen
taken_or chosen (Some mb) = mb
