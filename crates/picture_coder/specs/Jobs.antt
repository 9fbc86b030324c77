-- What a picture is coded from, in the words of the definitions.
use Rattle.std.specs.Prelude.{◌≡◌, ◌≤◌, ◌*◌, ℕ, pos, List, length, Some}
use Rattle.picture_planes.specs.Pictures.{planes_of, AreFilled}
use Rattle.spec_film.specs.Films.{Planes}
use Rattle.spec_headers.specs.declared.heads.SliceHead.{SliceHead}
use Rattle.spec_lists.specs.References.{Reference as Shown}
use Rattle.spec_lists.specs.Lists.{lists_of}
use Rattle.spec_partitions.specs.InRange.{HasEntries}
use Rattle.spec_tasks.specs.Entries.{entries0, entries1, command_of}
use Rattle.spec_film_coder.specs.Pictures.{head_at}
use Rattle.spec_film_coder.specs.Sound.{StepFits}
use Rattle.ref_lists.specs.Held.{all_seen, AreHeld, IsOrigin}
use Rattle.ref_lists.specs.Entries.{ArePlaces}
use Rattle.ref_lists.specs.Named.{named}
use Rattle.picture_coder.specs.declared.job.Job.{Job}
use Rattle.picture_coder.specs.Sizes.{HasSizes}

-- the references that are held, the newest first: none before an IDR picture
abbrev pub held_in : Job → List Shown
held_in j = all_seen j.lists.now.held.now

abbrev pub source_in : Job → Planes
source_in j = planes_of j.source.now

-- the header of a slice that begins with this macroblock
abbrev pub head_in : Job → ℕ → ℕ → SliceHead
head_in j qp first = head_at j.step (held_in j) j.idr_id j.moved qp first

-- A job for pictures of so many macroblocks in a row and rows of them: its source and references have their size and filled margins, the
-- lists are those that its headers make of what is held, and their order counts are told from the last IDR picture.
pub record IsJob (across down : ℕ) (j : Job) : Type 0 where
  pub source : HasSizes (16 * across) (16 * down) j.source.now
  pub filled : AreFilled j.source.now
  pub step : StepFits j.step.idr j.step.kind j.step
  pub idr_id : j.idr_id ≤ 1
  pub range_some : 1 ≤ j.range
  pub range_fits : j.range ≤ 32
  pub held : AreHeld (16 * across) (16 * down) j.lists.now.held.now
  pub origin : IsOrigin (pos 0) (pos j.step.poc) j.lists.now.held.now
  pub first : ArePlaces (length j.lists.now.held.now) j.lists.now.list0.items
  pub second : ArePlaces (length j.lists.now.held.now) j.lists.now.list1.items
  pub lists : lists_of (head_in j 0 0) (held_in j) ≡ Some (named j.lists.now)
  pub count0 : length j.lists.now.list0.items ≡ entries0 j.step.kind (held_in j)
  pub count1 : length j.lists.now.list1.items ≡ entries1 j.step.kind
  pub entries : HasEntries j.step.kind (entries0 j.step.kind (held_in j)) (entries1 j.step.kind)

-- the job's command is that of its picture, for which its lists are made: the least different reference comes first
abbrev pub IsMoved : Job → Type 0
IsMoved j = j.moved ≡ command_of j.step.kind j.step.frame_num (source_in j) (held_in j)
