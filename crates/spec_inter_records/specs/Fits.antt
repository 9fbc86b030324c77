-- What inter macroblocks are made from, and what stands for their records in a slice.
use Rattle.std.specs.Prelude.{◌≡◌, ℕ, ◌<◌, ◌≤◌, false, get_or, Some, ℤ, negsuc}
use Rattle.enc_tables.specs.declared.records.MbPlan.{MbPlan}
use Rattle.enc_tables.specs.declared.records.MbRecord.{MbRecord}
use Rattle.enc_tables.specs.declared.records.Motion.{Motion}
use Rattle.enc_tables.specs.declared.records.SliceKind.{SliceKind}
use Rattle.enc_tables.specs.Plans.{blank_part}
use Rattle.enc_tables.specs.Records.{zero_vector, is_used}
use Rattle.spec_film.specs.Films.{Planes}
use Rattle.spec_intra.specs.Near.{macroblock_avail}
use Rattle.spec_partitions.specs.Near.{View}
use Rattle.spec_partitions.specs.Records.{RefFits, UsesFit, HasMotion}
use Rattle.spec_partitions.specs.Small.{Small}
use Rattle.spec_macroblock.specs.Records.{IsRecord}
use Rattle.spec_reconstruction.specs.Inter.{Sources, source_at}
use Rattle.spec_coded.specs.Tasks.{Task}
use Rattle.spec_record_laws.specs.Coded.{PlanesFit, ModesFit, ModesAllowed}

-- ---- what is given

-- the pictures that reference indices mean have samples of eight bits
pub record SourcesFit (s : Sources) : Type 0 where
  pub first : (r : ℤ) (p : Planes) → source_at s.list0 r ≡ Some p → PlanesFit p
  pub second : (r : ℤ) (p : Planes) → source_at s.list1 r ≡ Some p → PlanesFit p

-- the motion of a partition, in a slice whose lists have so many entries: references of the lists, and vectors whose components are at
-- most so long, zero where a list isn't used
pub record MotionChosen (kind : SliceKind) (refs0 refs1 most : ℕ) (m : Motion) : Type 0 where
  pub first : RefFits refs0 (get_or m.refs 0 (negsuc 0))
  pub second : RefFits refs1 (get_or m.refs 1 (negsuc 0))
  pub uses : UsesFit kind (is_used (get_or m.refs 0 (negsuc 0))) (is_used (get_or m.refs 1 (negsuc 0)))
  pub small0 : Small most (get_or m.vectors 0 zero_vector)
  pub small1 : Small most (get_or m.vectors 1 zero_vector)
  pub unused0 : is_used (get_or m.refs 0 (negsuc 0)) ≡ false → get_or m.vectors 0 zero_vector ≡ zero_vector
  pub unused1 : is_used (get_or m.refs 1 (negsuc 0)) ≡ false → get_or m.vectors 1 zero_vector ≡ zero_vector

-- that of the nine partitions of a plan
pub record PartsChosen (kind : SliceKind) (refs0 refs1 most : ℕ) (plan : MbPlan) : Type 0 where
  pub at : (k : ℕ) → k < 9 → MotionChosen kind refs0 refs1 most (get_or plan.parts k blank_part).motion

-- I slices have no partitions
abbrev pub InterPlanned : SliceKind → ℕ → ℕ → ℕ → MbPlan → Type 0
InterPlanned SliceKind.I refs0 refs1 most plan = Unit {0}
InterPlanned SliceKind.P refs0 refs1 most plan = PartsChosen SliceKind.P refs0 refs1 most plan
InterPlanned SliceKind.B refs0 refs1 most plan = PartsChosen SliceKind.B refs0 refs1 most plan

-- A slice is coded from samples of eight bits and from plans of its lists' pictures, with the slice's own QP throughout. Vectors of a search of
-- at most 32 samples, refined to quarter samples, are at most 4 * 32 + 3 quarter samples long
pub record TaskFits (t : Task) : Type 0 where
  pub some : 0 < t.facts.width
  pub qp : t.facts.qp ≤ 51
  pub target : (address : ℕ) → t.target address ≡ t.facts.qp
  pub source : PlanesFit t.source
  pub sources : SourcesFit t.sources
  pub modes : (address : ℕ) → ModesFit (t.plan address)
  pub allowed : (address : ℕ) → ModesAllowed t.facts.t8x8 (macroblock_avail t.facts.width t.facts.first address) (t.plan address)
  pub parts : (address : ℕ) → InterPlanned t.facts.kind t.facts.refs0 t.facts.refs1 131 (t.plan address)

-- ---- what is made

-- a record of the syntax, with the motion that a decoder derives
pub record Belongs (view : View) (mb : MbRecord) : Type 0 where
  pub written : IsRecord view.near mb
  pub motion : HasMotion view mb
