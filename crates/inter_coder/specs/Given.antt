-- What inter macroblocks are coded from: the pictures of the lists, the source, and the macroblocks around.
use Rattle.std.specs.Prelude.{◌≡◌, ℕ, suc, zero, pos, ◌+◌, ◌/◌, ◌≤◌, List, length, map, negsuc, slice_index_or, Option, Some, None}
use Rattle.enc_tables.specs.declared.records.Motion.{Motion}
use Rattle.enc_tables.specs.declared.records.Vector.{Vector}
use Rattle.enc_tables.specs.Records.{zero_vector}
use Rattle.picture_planes.specs.Pictures.{planes_of}
use Rattle.spec_contexts.specs.Near.{pointed}
use Rattle.spec_film.specs.Films.{Planes}
use Rattle.spec_inter.specs.Luma.{inter_luma}
use Rattle.spec_inter.specs.Chroma.{inter_chroma}
use Rattle.spec_partitions.specs.Near.{View}
use Rattle.spec_reconstruction.specs.declared.Site.{Site}
use Rattle.spec_reconstruction.specs.Inter.{Sources, source_at}
use Rattle.ref_lists.specs.declared.naming.Lists.{Lists}
use Rattle.ref_lists.specs.Named.{named}
use Rattle.ref_lists.specs.Entries.{ArePlaces}
use Rattle.ref_lists.specs.Held.{AreHeld}
use Rattle.inter_coder.specs.declared.given.Pictures.{Pictures}
use Rattle.inter_coder.specs.declared.given.Beside.{Beside}

-- luma samples in a row of the pictures, and rows
abbrev pub wide_of : Pictures → ℕ
wide_of p = p.source.now.y.width

abbrev pub tall_of : Pictures → ℕ
tall_of p = p.source.now.y.height

-- how many entries the lists have
abbrev pub count0 : Pictures → ℕ
count0 p = length p.lists.now.list0.items

abbrev pub count1 : Pictures → ℕ
count1 p = length p.lists.now.list1.items

-- the pictures of the lists, as a decoder has them, and the source
abbrev pub sources_in : Pictures → Sources
sources_in p = record { list0 = map (λ r. r.planes) (named p.lists.now).list0; list1 = map (λ r. r.planes) (named p.lists.now).list1 }

abbrev pub source_in : Pictures → Planes
source_in p = planes_of p.source.now

-- the entries of list 0 and list 1, as places among the references that are held, and as pictures
abbrev pub places_in : ℕ → Lists → List ℕ
places_in zero l = l.list0.items
places_in (suc n) l = l.list1.items

abbrev pub list_in : ℕ → Sources → List Planes
list_in zero s = s.list0
list_in (suc n) s = s.list1

-- the references have the source's size and are ready to be predicted from, and the entries of the lists are among them
pub record AreLent (p : Pictures) : Type 0 where
  pub held : AreHeld (wide_of p) (tall_of p) p.lists.now.held.now
  pub first : ArePlaces (length p.lists.now.held.now) p.lists.now.list0.items
  pub second : ArePlaces (length p.lists.now.held.now) p.lists.now.list1.items

-- a macroblock lies inside the pictures
pub record IsIn (site : Site) (p : Pictures) : Type 0 where
  pub columns : site.x + 16 ≤ wide_of p
  pub rows : site.y + 16 ≤ tall_of p

-- these are the macroblocks that a macroblock has around it
pub record IsBeside (view : View) (b : Beside) : Type 0 where
  pub left : view.near.left ≡ pointed b.left
  pub above : view.near.above ≡ pointed b.above
  pub above_right : view.above_right ≡ pointed b.above_right
  pub above_left : view.above_left ≡ pointed b.above_left

-- the sample that a vector predicts at column x and row y from a picture: of luma, and of a chroma component. `wide` is how many the
-- component's plane has in a row
abbrev pub luma_sample : ℕ → ℕ → ℕ → Planes → Vector → ℕ
luma_sample wide x y p v = inter_luma wide (length p.luma / wide) p.luma (pos x) (pos y) v

abbrev pub chroma_sample : (Planes → List ℕ) → ℕ → ℕ → ℕ → Planes → Vector → ℕ
chroma_sample plane wide x y p v = inter_chroma wide (length (plane p) / wide) (plane p) (pos x) (pos y) v

-- what one picture predicts, where there is one
abbrev pub from_one : (Planes → Vector → ℕ) → Option Planes → Vector → ℕ
from_one f None v = 0
from_one f (Some p) v = f p v

-- the same of the picture that a block's motion names in a list
abbrev pub predicted_in : (Planes → Vector → ℕ) → Sources → ℕ → Motion → ℕ
predicted_in f s list m = from_one f (source_at (list_in list s) (slice_index_or m.refs list (negsuc 0))) (slice_index_or m.vectors list zero_vector)

-- the chroma component of a number: 1 is Cb, 2 is Cr
abbrev pub component : ℕ → Planes → List ℕ
component zero p = p.cr
component (suc zero) p = p.cb
component (suc (suc n)) p = p.cr
