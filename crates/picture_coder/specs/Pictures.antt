-- Pictures that are written slice by slice.
use Rattle.std.specs.Prelude.{ℕ, Bool, true, false, if◌then◌else◌, List, [], ◌∷◌, ◌++◌, take, ◌≡◌, ◌≤◌, ◌<◌, ◌+◌, ◌*◌}
use Rattle.std.specs.List.{All}
use Rattle.enc_tables.specs.declared.plans.RowPlan.{RowPlan}
use Rattle.enc_tables.specs.declared.records.MbRecord.{MbRecord}
use Rattle.picture_planes.specs.declared.picture.Picture.{Picture}
use Rattle.spec_bits.specs.Bits.{bits_of_bytes}
use Rattle.spec_bits.specs.Units.{written}
use Rattle.spec_film.specs.Films.{Planes}
use Rattle.spec_lists.specs.References.{Reference as Shown}
use Rattle.spec_pictures.specs.Accesses.{slice_nal}
use Rattle.spec_slice_payload.specs.Layer.{Format, Slice}
use Rattle.spec_reconstruction.specs.Records.{slice_built}
use Rattle.spec_decoder.specs.Frames.{blank_planes}
use Rattle.spec_encoding.specs.Frames.{slices_built, all_records}
use Rattle.spec_encoding.specs.Encoding.{with_payload}
use Rattle.spec_tasks.specs.Choosing.{search_by, sources_of}
use Rattle.spec_film_coder.specs.Pictures.{Shape, Rule, format, first_of, slice_by, slices_to, task_of}
use Rattle.ref_lists.specs.Named.{named}
use Rattle.picture_plans.specs.Planned.{SlicesPlanned}
use Rattle.slice_coder.specs.Records.{records_by}
use Rattle.picture_coder.specs.declared.coding.Coding.{Coding}
use Rattle.picture_coder.specs.declared.job.Job.{Job}
use Rattle.picture_coder.specs.Jobs.{IsJob, held_in, source_in, head_in}
use Rattle.picture_coder.specs.Kept.{shown_by}
use Rattle.picture_coder.specs.Units.{bits_for}

-- what is settled of a picture that is coded from this job
abbrev pub shape_of : Coding → Job → Shape
shape_of c j = record { across = c.across; down = c.down; slices = c.slices; t8x8 = j.t8x8; range = j.range }

-- what the parameter sets tell its slices
abbrev pub format_for : Coding → Job → Format
format_for c j = format (shape_of c j)

-- how the records of a slice are made
abbrev pub rule_of : Coding → Job → Rule
rule_of c j h n p = records_by c.coarsest (task_of (shape_of c j) (held_in j) (source_in j) h) p n

-- a picture of this size can be coded so
pub record IsCoding (c : Coding) (j : Job) (p : Picture) : Type 0 where
  pub job : IsJob c.across c.down j
  pub wide : p.y.width ≡ 16 * c.across
  pub high : p.y.height ≡ 16 * c.down
  pub across_some : 1 ≤ c.across
  pub across_fits : c.across ≤ 256
  pub down_fits : c.down ≤ 144
  pub some : 0 < c.slices
  pub few : c.slices ≤ c.down
  pub qp : c.qp ≤ 51
  pub greatest : c.coarsest ≡ true → c.qp ≡ 51

-- all its rows are planned, or it is to be the coarsest coding
abbrev pub HasPlansFor : Coding → Job → List RowPlan → Type 0
HasPlansFor c j plans = c.coarsest ≡ false → SlicesPlanned j.step.kind (search_by (format_for c j) (named j.lists.now) (source_in j) j.range) c.slices c.down j.t8x8 c.slices plans

-- ---- slices

-- slice k, where these planes were built before
abbrev pub slice_at : Coding → Job → ℕ → Planes → Slice
slice_at c j k before = slice_by (shape_of c j) (head_in j c.qp) (rule_of c j) k before

-- the first n slices
abbrev pub first_slices : Coding → Job → ℕ → List Slice
first_slices c j n = slices_to (shape_of c j) (held_in j) (head_in j c.qp) (rule_of c j) n

-- what they have built
abbrev pub built_to : Coding → Job → ℕ → Planes
built_to c j n = slices_built c.across (held_in j) (first_slices c j n) (blank_planes c.across c.down)

-- slice k was coded into the picture and the records, whose earlier ones stay
pub record SliceCoded (c : Coding) (j : Job) (s : Slice) (k : ℕ) (old new : Planes) (was now : List MbRecord) : Type 0 where
  pub planes : new ≡ slice_built c.across (sources_of (named j.lists.now)) s.head.first_mb s.records old
  pub records : take (first_of (shape_of c j) (k + 1)) now ≡ take (first_of (shape_of c j) k) was ++ s.records

-- a record's quantisation parameter is one of the standard's
abbrev pub IsQuantised : MbRecord → Type 0
IsQuantised r = r.qp ≤ 51

-- the first n slices were coded
pub record SlicesCoded (c : Coding) (j : Job) (n : ℕ) (now : Planes) (records : List MbRecord) : Type 0 where
  pub planes : now ≡ built_to c j n
  pub records_are : take (first_of (shape_of c j) n) records ≡ all_records (first_slices c j n)
  pub quantised : All IsQuantised (all_records (first_slices c j n))

-- ---- units

-- nal_unit_type: 5 of a slice of an IDR picture, 1 of another
abbrev pub kind_number : Bool → ℕ
kind_number idr = if idr then 5 else 1

-- the bits of the unit of a slice
abbrev pub unit_of : Coding → Job → Bool → Slice → List Bool
unit_of c j long s = bits_of_bytes (written (long, slice_nal j.step.idr j.step.kind (with_payload (format_for c j) s)))

-- whether the next unit begins with a start code of four bytes, behind the units of these slices
abbrev pub still_long : Bool → List Slice → Bool
still_long long [] = long
still_long long (s ∷ ss) = false

-- the units of the first n slices
abbrev pub units_to : Coding → Job → Bool → ℕ → List Bool
units_to c j long n = bits_for (shape_of c j) long j.step (first_slices c j n)

-- ---- the picture

-- as later ones see it
abbrev pub picture_at : Coding → Job → Shown
picture_at c j = shown_by (shape_of c j) (held_in j) j.step (first_slices c j c.slices)
