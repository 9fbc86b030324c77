-- What is given of the pictures that a slice refers to, and of its header.
use Rattle.std.specs.Prelude.{◌≡◌, ℕ, ◌<◌, ◌≤◌, ◌*◌, ◌/◌, List, length}
use Rattle.std.specs.List.{AllByRecursion}
use Rattle.spec_film.specs.Films.{Planes}
use Rattle.spec_headers.specs.declared.heads.SliceHead.{SliceHead}
use Rattle.spec_lists.specs.References.{Reference}
use Rattle.spec_lists.specs.Lists.{Lists}
use Rattle.spec_partitions.specs.InRange.{HasEntries}
use Rattle.spec_slice_payload.specs.Layer.{Format}
use Rattle.spec_record_laws.specs.Coded.{PlanesFit}

-- pictures of eight bits
abbrev pub PicturesFit : List Reference → Type 0
PicturesFit list = AllByRecursion (λ r. PlanesFit r.planes) list

-- A slice that begins with a row of macroblocks, and has as many entries in its lists as its header says, at most four in each
pub record IsGiven (f : Format) (h : SliceHead) (lists : Lists) (source : Planes) (range : ℕ) : Type 0 where
  pub some : 0 < f.across
  pub row : h.first_mb / f.across * f.across ≡ h.first_mb
  pub qp : h.qp ≤ 51
  pub range_fits : range ≤ 32
  pub source_fits : PlanesFit source
  pub pictures0 : PicturesFit lists.list0
  pub pictures1 : PicturesFit lists.list1
  pub length0 : length lists.list0 ≡ h.refs0
  pub length1 : length lists.list1 ≡ h.refs1
  pub few0 : h.refs0 ≤ 4
  pub few1 : h.refs1 ≤ 4
  pub entries : HasEntries h.kind h.refs0 h.refs1
