-- The inter part of a macroblock's plan: for each of its nine partitions the motion of least cost, over the pictures of both lists; and how
-- many vectors are compared for it.
use Rattle.std.specs.Prelude.{ℕ, ◌+◌, ◌-◌, ◌*◌, ◌/◌, Bool, List, [], ◌∷◌, map, replicate, length, get_or, ℤ, pos, negsuc}
use Rattle.std.specs.List.{range_with_len, sum_by}
use Rattle.spec_film.specs.Films.{Planes}
use Rattle.enc_tables.specs.declared.records.MbPlan.{MbPlan}
use Rattle.enc_tables.specs.declared.records.PartPlan.{PartPlan}
use Rattle.enc_tables.specs.declared.records.SliceKind.{SliceKind}
use Rattle.enc_tables.specs.declared.records.Vector.{Vector}
use Rattle.enc_tables.specs.Choice.{first_least}
use Rattle.enc_tables.specs.Plans.{blank_part}
use Rattle.enc_tables.specs.Records.{zero_vector}
use Rattle.spec_film.specs.Places.{sample_at}
use Rattle.spec_intra.specs.Near.{plane_sample}
use Rattle.spec_inter.specs.Taps.{mean}
use Rattle.spec_inter.specs.Luma.{inter_luma}
use Rattle.spec_kernels.specs.Sums.{block_difference}
use Rattle.spec_reconstruction.specs.Inter.{Sources}
use Rattle.spec_choice.specs.IntraPlans.{intra_plan}
use Rattle.spec_search.specs.declared.blocks.Block.{Block}
use Rattle.spec_search.specs.Window.{cost_of, bound_of, own, compared_in}
use Rattle.spec_inter_plans.specs.Found.{Refined, window_best, refined}

-- the nine partitions of the macroblock at (x, y): 16x16; 16x8 upper and lower; 8x16 left and right; the four 8x8
abbrev pub at : ℕ → ℕ → ℕ → ℕ → Block
at x y w h = record { x = x; y = y; w = w; h = h }

unfoldable pub partitions : ℕ → ℕ → List Block
partitions x y =
    at x y 16 16 ∷ at x y 16 8 ∷ at x (y + 8) 16 8 ∷ at x y 8 16 ∷ at (x + 8) y 8 16
    ∷ at x y 8 8 ∷ at (x + 8) y 8 8 ∷ at x (y + 8) 8 8 ∷ at (x + 8) (y + 8) 8 8 ∷ []

-- what the inter part is planned from: how many macroblocks a row has, the pictures of both lists, the source, and the range of the search
pub record Search : Type 0 where
  pub across : ℕ
  pub sources : Sources
  pub source : Planes
  pub range : ℕ

abbrev pub wide : Search → ℕ
wide s = 16 * s.across

-- the source's luma by column and row, and a reference's at any place
abbrev pub own_luma : Search → ℕ → ℕ → ℕ
own_luma s = plane_sample (wide s) s.source.luma

abbrev pub luma_of : Search → Planes → ℤ → ℤ → ℕ
luma_of s p = sample_at (wide s) (length p.luma / wide s) p.luma

-- the predicted sample i columns right of a block's first sample and j rows below it
abbrev pub moved_sample : Search → Block → Planes → Vector → ℕ → ℕ → ℕ
moved_sample s block p v i j = inter_luma (wide s) (length p.luma / wide s) p.luma (pos (block.x + i)) (pos (block.y + j)) v

-- a prediction's sum of absolute differences from the source
abbrev pub difference_of : Search → Block → (ℕ → ℕ → ℕ) → ℕ
difference_of s block prediction = block_difference (own (own_luma s) block) prediction block.w block.h

-- the best vector of a block in a reference: the window's best, refined to quarter samples
unfoldable pub found : Search → Block → Planes → Refined
found s block p =
    refined (λ v. difference_of s block (moved_sample s block p v))
    (window_best (cost_of (own_luma s) (luma_of s p) block) s.range)

-- how many vectors are compared in its window
unfoldable pub compared : Search → Block → Planes → ℕ
compared s block p =
    compared_in (cost_of (own_luma s) (luma_of s p) block) (bound_of (own_luma s) (luma_of s p) block) s.range

abbrev pub no_planes : Planes
no_planes = record { luma = []; cb = []; cr = [] }

-- the best of a list: an entry's number, its vector, and what both cost
pub record Listed : Type 0 where
  pub number : ℕ
  pub vector : Vector
  pub cost : ℕ

abbrev pub listed_cost : Listed → ℕ
listed_cost l = l.cost

abbrev pub listed : Search → Block → List Planes → ℕ → Listed
listed s block list r =
    let f = found s block (get_or list r no_planes) in
    record { number = r; vector = f.vector; cost = f.size + 4 * r }

-- the first entry of least cost
unfoldable pub best_of_list : Search → Block → List Planes → Listed
best_of_list s block list =
    first_least listed_cost (listed s block list 0) (map (listed s block list) (range_with_len 1 (length list - 1)))

abbrev pub part_plan_cost : PartPlan → ℕ
part_plan_cost p = p.cost

abbrev pub from_first : Listed → PartPlan
from_first a = record { motion = record { refs = pos a.number ∷ negsuc 0 ∷ []; vectors = a.vector ∷ zero_vector ∷ [] }; cost = a.cost }

abbrev pub from_second : Listed → PartPlan
from_second b = record { motion = record { refs = negsuc 0 ∷ pos b.number ∷ []; vectors = zero_vector ∷ b.vector ∷ [] }; cost = b.cost }

-- both lists' best together, by the mean of both predictions; two vectors cost 6 more
abbrev pub from_both : Search → Block → Listed → Listed → PartPlan
from_both s block a b =
    let p = get_or s.sources.list0 a.number no_planes in
    let q = get_or s.sources.list1 b.number no_planes in
    record {
      motion = record { refs = pos a.number ∷ pos b.number ∷ []; vectors = a.vector ∷ b.vector ∷ [] };
      cost = difference_of s block (λ i j. mean (moved_sample s block p a.vector i j) (moved_sample s block q b.vector i j)) + 4 * a.number + 4 * b.number + 6;
    }

-- in P slices the best of list 0; in B slices the first of least cost of list 0's best, list 1's best, and both
unfoldable pub best_part_p : Search → Block → PartPlan
best_part_p s block = from_first (best_of_list s block s.sources.list0)

unfoldable pub best_part_b : Search → Block → PartPlan
best_part_b s block =
    let a = best_of_list s block s.sources.list0 in
    let b = best_of_list s block s.sources.list1 in
    first_least part_plan_cost (from_first a) (from_second b ∷ from_both s block a b ∷ [])

-- the parts of the plan of the macroblock at (x, y)
unfoldable pub inter_parts : SliceKind → Search → ℕ → ℕ → List PartPlan
inter_parts SliceKind.I s x y = replicate 9 blank_part
inter_parts SliceKind.P s x y = map (best_part_p s) (partitions x y)
inter_parts SliceKind.B s x y = map (best_part_b s) (partitions x y)

-- THE PLAN of macroblock `column` of row `row`, where the slice begins with row `first_row`
unfoldable pub plan_of : SliceKind → Search → ℕ → Bool → ℕ → ℕ → MbPlan
plan_of kind s first_row t8x8 row column =
    record (intra_plan s.across first_row t8x8 s.source row column) { parts = inter_parts kind s (16 * column) (16 * row) }

-- the plans of a row of macroblocks
unfoldable pub row_plans : SliceKind → Search → ℕ → Bool → ℕ → List MbPlan
row_plans kind s first_row t8x8 row = map (plan_of kind s first_row t8x8 row) (range_with_len 0 s.across)

-- ---- how many vectors are compared, over all entries of both lists: of a macroblock's partitions, of a row, and of the first rows of a picture

-- by a search of all nine partitions in one picture
unfoldable pub nine_compared : Search → ℕ → ℕ → Planes → ℕ
nine_compared s x y p = sum_by (λ block. compared s block p) (partitions x y)

unfoldable pub parts_compared : Search → ℕ → ℕ → ℕ
parts_compared s x y =
    sum_by (λ block. sum_by (compared s block) s.sources.list0 + sum_by (compared s block) s.sources.list1) (partitions x y)

unfoldable pub row_compared : Search → ℕ → ℕ
row_compared s row = sum_by (λ column. parts_compared s (16 * column) (16 * row)) (range_with_len 0 s.across)

unfoldable pub picture_compared : Search → ℕ → ℕ
picture_compared s rows = sum_by (row_compared s) (range_with_len 0 rows)
