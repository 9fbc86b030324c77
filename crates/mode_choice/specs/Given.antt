-- What a row of macroblocks is planned from, in the words of the definitions of plans.
use Rattle.std.specs.Prelude.{◌≡◌, ℕ, List, [], map}
use Rattle.enc_tables.specs.declared.records.SliceKind.{SliceKind}
use Rattle.enc_tables.specs.declared.records.SliceKind.TheVariants.{I, P, B}
use Rattle.picture_planes.specs.declared.plane.Plane.{Plane}
use Rattle.picture_planes.specs.Samples.{samples_of}
use Rattle.ref_lists.specs.declared.held.Reference.{Reference}
use Rattle.ref_lists.specs.declared.naming.Lists.{Lists}
use Rattle.ref_lists.specs.Held.{all_seen}
use Rattle.ref_lists.specs.Entries.{entries}
use Rattle.ref_lists.specs.Named.{named}
use Rattle.spec_film.specs.Films.{Planes}
use Rattle.spec_inter_plans.specs.InterPlans.{Search, wide}
use Rattle.spec_reconstruction.specs.Inter.{Sources}

-- the plane is the luma plane of the source of the search
pub record IsSourceOf (s : Search) (source : Plane) : Type 0 where
  pub width : source.width ≡ wide s
  pub luma : samples_of source ≡ s.source.luma

-- the pictures at these places among the held references
abbrev pub pictures_at : List Reference → List ℕ → List Planes
pictures_at held places = map (λ r. r.planes) (entries (all_seen held) places)

-- the pictures of both lists
abbrev pub sources_in : Lists → Sources
sources_in lists = record { list0 = map (λ r. r.planes) (named lists).list0; list1 = map (λ r. r.planes) (named lists).list1 }

-- the search over the pictures of lists, in rows of so many macroblocks
abbrev pub search_of : ℕ → Lists → Planes → ℕ → Search
search_of across lists source range = record { across = across; sources = sources_in lists; source = source; range = range }

-- the lists that a slice of this kind has: none in I, list 0 in P, both in B
abbrev pub used_lists : SliceKind → Sources → Sources
used_lists I t = record { list0 = []; list1 = [] }
used_lists P t = record { list0 = t.list0; list1 = [] }
used_lists B t = t

-- the search over these
abbrev pub used : SliceKind → Search → Search
used kind s = record s { sources = used_lists kind s.sources }
