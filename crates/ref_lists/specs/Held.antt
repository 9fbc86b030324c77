-- A reference picture as the decoder's definition has it, and what an encoder keeps beside it.
use Rattle.std.specs.Prelude.{ℕ, ℤ, pos, negsuc, ◌≡◌, ◌≤◌, ◌+◌, ◌*◌, ◌/◌, ◌-ℤ◌, ◌≤ℤ◌, List, [], ◌∷◌, length, map}
use Rattle.std.specs.List.{AllByRecursion}
use Rattle.picture_planes.specs.Pictures.{planes_of, AreFilled}
use Rattle.block_sums.specs.Tables.{HasShapeOf, IsTableOf}
use Rattle.spec_lists.specs.References.{Reference as Shown}
use Rattle.subpel_filter.specs.Halves.{AreSized, AreHalves}
use Rattle.ref_lists.specs.declared.held.Reference.{Reference}

-- a number that isn't below 0
abbrev pub natural : ℤ → ℕ
natural (pos n) = n
natural (negsuc n) = 0

-- what the decoder's definition sees of a reference
abbrev pub seen : Reference → Shown
seen r = record { planes = planes_of r.picture; motion = r.records.items; poc = natural r.poc; frame_num = r.frame_num }

-- of all that are held, the newest first
abbrev pub all_seen : List Reference → List Shown
all_seen held = map seen held

-- The same where order counts are told from some origin that is above none of them. Lists go by the order of these counts alone, so they
-- are the same from each origin; a decoder tells them from the last IDR picture, whose own is 0.
abbrev pub seen_from : ℤ → Reference → Shown
seen_from origin r = record (seen r) { poc = natural (r.poc -ℤ origin) }

abbrev pub all_seen_from : ℤ → List Reference → List Shown
all_seen_from origin held = map (seen_from origin) held

-- the order count of a rank among all that 32 bits have, the least of which has rank 0
abbrev pub ranked : ℕ → ℤ
ranked rank = pos rank -ℤ pos 2147483648

-- an origin that is above neither an order count nor those of references
abbrev pub IsOrigin : ℤ → ℤ → List Reference → Type 0
IsOrigin origin poc held = (origin ≤ℤ poc) × AllByRecursion (λ r. origin ≤ℤ r.poc) held

-- the sizes and margins of a store's references, and one record for each macroblock
pub record IsMade (width height : ℕ) (r : Reference) : Type 0 where
  pub luma : (r.picture.y.width ≡ width) × (r.picture.y.height ≡ height) × (r.picture.y.pad ≡ 40)
  pub cb : (r.picture.cb.width ≡ width / 2) × (r.picture.cb.height ≡ height / 2) × (r.picture.cb.pad ≡ 20)
  pub cr : (r.picture.cr.width ≡ width / 2) × (r.picture.cr.height ≡ height / 2) × (r.picture.cr.pad ≡ 20)
  pub sums : HasShapeOf r.sums r.picture.y
  pub halves : AreSized r.picture.y r.halves
  pub records : length r.records.items ≡ width / 16 * (height / 16)

-- the margins are filled, and the table of sums and the half planes are those of the luma plane
pub record IsReady (r : Reference) : Type 0 where
  pub filled : AreFilled r.picture
  pub table : IsTableOf r.sums r.picture.y
  pub halves : AreHalves r.picture.y r.halves

-- The frame_num of each reference is one more than that of the one behind it; `next` is that of the picture that follows the first.
abbrev pub Counts : ℕ → List Shown → Type 0
Counts next [] = Unit {0}
Counts next (r ∷ rs) = (r.frame_num + 1 ≡ next) × Counts r.frame_num rs

-- what callers may rely on of references that are held
pub record AreHeld (width height : ℕ) (held : List Reference) : Type 0 where
  pub made : AllByRecursion (IsMade width height) held
  pub ready : AllByRecursion IsReady held
  pub few : length held ≤ 4
