-- What a slice is coded from: its place in the picture, its lists, and the plans of its rows of macroblocks.
use Rattle.std.specs.Prelude.{◌≡◌, ℕ, ◌-◌, ◌*◌, ◌/◌, ◌%◌, ◌<◌, ◌≤◌, ◌+◌, Bool, List, [], length, map, get_or}
use Rattle.std.specs.List.{All}
use Rattle.enc_tables.specs.declared.records.MbPlan.{MbPlan}
use Rattle.enc_tables.specs.declared.plans.RowPlan.{RowPlan}
use Rattle.enc_tables.specs.Choice.{SmallCosts}
use Rattle.enc_tables.specs.Plans.{blank_plan}
use Rattle.picture_planes.specs.declared.picture.Picture.{Picture}
use Rattle.picture_planes.specs.declared.stripe.Stripe.{Stripe}
use Rattle.spec_film.specs.Films.{Planes}
use Rattle.spec_headers.specs.declared.heads.SliceHead.{SliceHead}
use Rattle.spec_lists.specs.Lists.{Lists as ShownLists}
use Rattle.spec_slice_payload.specs.Layer.{Format}
use Rattle.spec_inter_plans.specs.InterPlans.{row_plans}
use Rattle.spec_coded.specs.Tasks.{Task}
use Rattle.spec_tasks.specs.Choosing.{task_by, search_by}
use Rattle.ref_lists.specs.declared.naming.Lists.{Lists}
use Rattle.ref_lists.specs.Held.{AreHeld}
use Rattle.ref_lists.specs.Entries.{ArePlaces}
use Rattle.slice_coder.specs.declared.place.Place.{Place}

-- ---- the picture

-- what the parameter sets tell the picture's slices
abbrev pub format_of : Picture → Bool → Format
format_of p t8x8 = record { across = p.y.width / 16; total = p.y.width / 16 * (p.y.height / 16); t8x8 = t8x8 }

-- a slice of this picture that has the rows of macroblocks from `from` to `to` - 1
abbrev pub place_of : Picture → ℕ → ℕ → Bool → Place
place_of p from to t8x8 = record { across = p.y.width / 16; row = from; end = to; t8x8 = t8x8 }

-- the picture is whole macroblocks
pub record IsWhole (p : Picture) : Type 0 where
  pub columns : p.y.width % 16 ≡ 0
  pub rows : p.y.height % 16 ≡ 0

-- the stripe has the rows of macroblocks from `from` to `to` - 1
pub record HoldsRows (s : Stripe) (from to : ℕ) : Type 0 where
  pub begins : s.first ≤ from
  pub ends : 16 * to ≤ 16 * s.first + s.picture.now.y.height

-- ---- the lists

-- the references have the picture's size and are ready to be predicted from, and the entries of the lists are among them, as many as the
-- header says
pub record HasLists (h : SliceHead) (p : Picture) (l : Lists) : Type 0 where
  pub held : AreHeld p.y.width p.y.height l.held.now
  pub first : ArePlaces (length l.held.now) l.list0.items
  pub second : ArePlaces (length l.held.now) l.list1.items
  pub count0 : length l.list0.items ≡ h.refs0
  pub count1 : length l.list1.items ≡ h.refs1

-- ---- the plans

-- those of each row, from left to right
abbrev pub rows_of : List RowPlan → List (List MbPlan)
rows_of plans = map (λ r. r.mbs.items) plans

-- the plan of the macroblock at an address, where the first of these plans is that of this row
abbrev pub plan_at : ℕ → ℕ → List RowPlan → ℕ → MbPlan
plan_at across row plans address = get_or (get_or (rows_of plans) (address / across - row) []) (address % across) blank_plan

-- rows of a slice are planned as the search of some range plans them, one after another from the slice's first row on
pub record ArePlanned (f : Format) (h : SliceHead) (lists : ShownLists) (source : Planes) (plans : List RowPlan) : Type 0 where
  pub range : ℕ
  pub range_fits : range ≤ 32
  pub rows : (k : ℕ) (d : RowPlan) → k < length plans
      → (get_or plans k d).mbs.items ≡ row_plans h.kind (search_by f lists source range) (h.first_mb / f.across) f.t8x8 (h.first_mb / f.across + k)
  pub small : (k : ℕ) (d : RowPlan) → k < length plans → All SmallCosts (get_or plans k d).mbs.items

-- what a slice with this header is coded from, by the plans of its rows
abbrev pub task_of : Format → SliceHead → ShownLists → Planes → List RowPlan → Task
task_of f h lists source plans = task_by f h lists source (plan_at f.across (h.first_mb / f.across) plans)
