-- The costs of planned partitions are small.
use Rattle.std.proofs.Common.{◌≡◌, ◌≤◌, ◌<◌, ◌+◌, ◌-◌, ◌*◌, ◌/◌, ◌%◌, ◌^◌, ◌∙◌, ℕ, zero, suc, pos, List, [], ◌∷◌, length, map, get_or, subst, sym, arith, lit<, lit≤}
use Rattle.std.specs.Prelude.{slice_index}
use Rattle.std.specs.Int.{abs_diff}
use Rattle.std.specs.List.{range_with_len}
use Rattle.std.proofs.lemmas.List.{length-map}
use Rattle.enc_tables.specs.declared.records.PartPlan.{PartPlan}
use Rattle.enc_tables.specs.declared.records.SliceKind.{SliceKind}
use Rattle.enc_tables.specs.declared.records.Vector.{Vector}
use Rattle.enc_tables.specs.Choice.{part_cost}
use Rattle.spec_film.specs.Films.{Planes}
use Rattle.spec_headers.specs.declared.heads.SliceHead.{SliceHead}
use Rattle.spec_inter.specs.Taps.{mean}
use Rattle.spec_basics.specs.Sums.{sum_below}
use Rattle.spec_kernels.specs.Sums.{block_sum, block_difference}
use Rattle.spec_lists.specs.References.{Reference}
use Rattle.spec_lists.specs.Lists.{Lists}
use Rattle.spec_partitions.specs.InRange.{HasEntries}
use Rattle.spec_search.specs.declared.blocks.Block.{Block}
use Rattle.spec_search.specs.Window.{own}
use Rattle.spec_slice_payload.specs.Layer.{Format}
use Rattle.spec_inter_plans.specs.InterPlans.{Search, Listed, own_luma, moved_sample, difference_of, found, no_planes, listed_cost, listed, best_of_list, part_plan_cost, from_first, from_second, from_both, best_part_p, best_part_b, partitions, inter_parts, plan_of}
use Rattle.spec_inter_plans.proofs.Near.{found_size}
use Rattle.spec_record_laws.specs.Coded.{AreBytes, PlanesFit}
use Rattle.spec_record_laws.proofs.Plans.{Each, least_is}
use Rattle.spec_inter_records.proofs.Predictions.{two_small, luma_small}
use Rattle.spec_tasks.specs.Choosing.{search_by, plan_by}
use Rattle.spec_tasks.specs.Given.{PicturesFit, IsGiven}

-- ---- differences

abs_small : (a b : ℕ) → a ≤ 255 → b ≤ 255 → abs_diff a b ≤ 255
abs_small a b h g = omega (arith, h, g)

row_small : (f : ℕ → ℕ) (n : ℕ) → ((i : ℕ) → f i ≤ 255) → sum_below f n ≤ 255 * n
unfolding sum_below
row_small f zero h = omega arith
row_small f (suc n) h = omega (arith, row_small f n h, h n)

rows_small : (f : ℕ → ℕ) (n : ℕ) → ((i : ℕ) → f i ≤ 4080) → sum_below f n ≤ 4080 * n
unfolding sum_below
rows_small f zero h = omega arith
rows_small f (suc n) h = omega (arith, rows_small f n h, h n)

block_small : (f g : ℕ → ℕ → ℕ) (w h : ℕ) → w ≤ 16 → h ≤ 16 → ((i j : ℕ) → f i j ≤ 255) → ((i j : ℕ) → g i j ≤ 255) → block_difference f g w h ≤ 65280
unfolding block_sum
block_small f g w h wide high a b =
    let rows : (j : ℕ) → sum_below (λ i. abs_diff (f i j) (g i j)) w ≤ 4080 = λ j. line w _ wide (row_small (λ i. abs_diff (f i j) (g i j)) w (λ i. abs_small (f i j) (g i j) (a i j) (b i j))) in
    whole h _ high (rows_small (λ j. sum_below (λ i. abs_diff (f i j) (g i j)) w) h rows)
  where
    line : (n s : ℕ) → n ≤ 16 → s ≤ 255 * n → s ≤ 4080
    line n s few h = omega (arith, few, h)

    whole : (n s : ℕ) → n ≤ 16 → s ≤ 4080 * n → s ≤ 65280
    whole n s few h = omega (arith, few, h)

-- a block of a macroblock
abbrev IsSmallBlock : Block → Type 0
IsSmallBlock block = (block.w ≤ 16) × (block.h ≤ 16)

difference_small : (s : Search) (block : Block) (g : ℕ → ℕ → ℕ) → PlanesFit s.source → IsSmallBlock block → ((i j : ℕ) → g i j ≤ 255) → difference_of s block g ≤ 65280
difference_small s block g fit small h = block_small (own (own_luma s) block) g block.w block.h small.0 small.1 (λ i j. fit.luma.at _) h

moved_small : (s : Search) (block : Block) (p : Planes) (v : Vector) → PlanesFit p → (i j : ℕ) → moved_sample s block p v i j ≤ 255
moved_small s block p v h i j = luma_small _ _ p.luma (pos (block.x + i)) (pos (block.y + j)) v h.luma

found_small_size : (s : Search) (block : Block) (p : Planes) → PlanesFit s.source → IsSmallBlock block → PlanesFit p → (found s block p).size ≤ 65280
found_small_size s block p fit small h =
    subst (λ (n : ℕ). n ≤ 65280) (sym (found_size s block p)) (difference_small s block (moved_sample s block p (found s block p).vector) fit small (moved_small s block p (found s block p).vector h))

-- ---- the best of a list

abbrev AllFit : List Planes → Type 0
AllFit list = (r : ℕ) → PlanesFit (get_or list r no_planes)

no_samples : AreBytes []
no_samples = record { at = λ k. lit≤ tt }

all_fit : (list : List Reference) → PicturesFit list → AllFit (map (λ r. r.planes) list)
all_fit [] h r = record { luma = no_samples; cb = no_samples; cr = no_samples }
all_fit (x ∷ xs) h zero = h.0
all_fit (x ∷ xs) h (suc r) = all_fit xs h.1 r

abbrev IsCheap : List Planes → Listed → Type 0
IsCheap list l = (l.number < length list) × (l.cost ≤ 65280 + 4 * l.number)

entry_cheap : (s : Search) (block : Block) (list : List Planes) (r : ℕ) → PlanesFit s.source → IsSmallBlock block → AllFit list → r < length list → IsCheap list (listed s block list r)
entry_cheap s block list r fit small all lt = (lt, (let h = found_small_size s block (get_or list r no_planes) fit small (all r) in omega (arith, h)))

each_cheap : (s : Search) (block : Block) (list : List Planes) (a n : ℕ) → PlanesFit s.source → IsSmallBlock block → AllFit list → a + n ≤ length list → Each (IsCheap list) (map (listed s block list) (range_with_len a n))
each_cheap s block list a zero fit small all h = tt
each_cheap s block list a (suc n) fit small all h = (entry_cheap s block list a fit small all (omega (arith, h)), each_cheap s block list (a + 1) n fit small all (omega (arith, h)))

best_cheap : (s : Search) (block : Block) (list : List Planes) → PlanesFit s.source → IsSmallBlock block → AllFit list → 0 < length list → IsCheap list (best_of_list s block list)
unfolding best_of_list
best_cheap s block list fit small all some =
    least_is (IsCheap list) listed_cost (listed s block list 0) _ (entry_cheap s block list 0 fit small all some) (each_cheap s block list 1 (length list - 1) fit small all (omega (arith, some)))

-- ---- a partition

abbrev CostFits : PartPlan → Type 0
CostFits p = p.cost < 2 ^ 24

first_cheap : (list : List Planes) (a : Listed) → length list ≤ 4 → IsCheap list a → CostFits (from_first a)
first_cheap list a few h = omega (arith, few, h.0, h.1)

second_cheap : (list : List Planes) (a : Listed) → length list ≤ 4 → IsCheap list a → CostFits (from_second a)
second_cheap list a few h = omega (arith, few, h.0, h.1)

both_cheap : (s : Search) (block : Block) (a b : Listed) → PlanesFit s.source → IsSmallBlock block → AllFit s.sources.list0 → AllFit s.sources.list1 → a.number ≤ 4 → b.number ≤ 4 → CostFits (from_both s block a b)
both_cheap s block a b fit small all0 all1 few0 few1 =
    let p : Planes = get_or s.sources.list0 a.number no_planes in
    let q : Planes = get_or s.sources.list1 b.number no_planes in
    let h = difference_small s block (λ i j. mean (moved_sample s block p a.vector i j) (moved_sample s block q b.vector i j)) fit small
    (λ i j. two_small _ _ (moved_small s block p a.vector (all0 a.number) i j) (moved_small s block q b.vector (all1 b.number) i j)) in
    omega (arith, h, few0, few1)

-- the lists of a search
record Lists4 (s : Search) : Type 0 where
  fit : PlanesFit s.source
  all0 : AllFit s.sources.list0
  all1 : AllFit s.sources.list1
  few0 : length s.sources.list0 ≤ 4
  few1 : length s.sources.list1 ≤ 4

p_cheap : (s : Search) (block : Block) → Lists4 s → IsSmallBlock block → 0 < length s.sources.list0 → CostFits (best_part_p s block)
unfolding best_part_p
p_cheap s block l small some = first_cheap s.sources.list0 (best_of_list s block s.sources.list0) l.few0 (best_cheap s block s.sources.list0 l.fit small l.all0 some)

b_cheap : (s : Search) (block : Block) → Lists4 s → IsSmallBlock block → 0 < length s.sources.list0 → 0 < length s.sources.list1 → CostFits (best_part_b s block)
unfolding best_part_b
b_cheap s block l small some0 some1 =
    let a : Listed = best_of_list s block s.sources.list0 in
    let b : Listed = best_of_list s block s.sources.list1 in
    let g : IsCheap s.sources.list0 a = best_cheap s block s.sources.list0 l.fit small l.all0 some0 in
    let h : IsCheap s.sources.list1 b = best_cheap s block s.sources.list1 l.fit small l.all1 some1 in
    let few0 = l.few0 in
    let few1 = l.few1 in
    least_is CostFits part_plan_cost (from_first a) (from_second b ∷ from_both s block a b ∷ []) (first_cheap s.sources.list0 a l.few0 g)
    (second_cheap s.sources.list1 b l.few1 h, (both_cheap s block a b l.fit small l.all0 l.all1 (omega (arith, g.0, few0)) (omega (arith, h.0, few1)), tt))

-- ---- the nine partitions

nine_cheap : (f : Block → PartPlan) (x y : ℕ) → ((block : Block) → IsSmallBlock block → CostFits (f block)) → Each CostFits (map f (partitions x y))
unfolding partitions
nine_cheap f x y h =
    let m = lit≤ tt in
    (h _ (m, m), (h _ (m, lit≤ tt), (h _ (m, lit≤ tt), (h _ (lit≤ tt, m), (h _ (lit≤ tt, m), (h _ (lit≤ tt, lit≤ tt), (h _ (lit≤ tt, lit≤ tt), (h _ (lit≤ tt, lit≤ tt), (h _ (lit≤ tt, lit≤ tt), tt)))))))))

parts_cheap : (kind : SliceKind) (s : Search) (x y : ℕ) → Lists4 s → HasEntries kind (length s.sources.list0) (length s.sources.list1) → Each CostFits (inter_parts kind s x y)
unfolding inter_parts HasEntries
parts_cheap SliceKind.I s x y l some = (lit< tt, (lit< tt, (lit< tt, (lit< tt, (lit< tt, (lit< tt, (lit< tt, (lit< tt, (lit< tt, tt)))))))))
parts_cheap SliceKind.P s x y l some = nine_cheap (best_part_p s) x y (λ block small. p_cheap s block l small some)
parts_cheap SliceKind.B s x y l some = nine_cheap (best_part_b s) x y (λ block small. b_cheap s block l small some.0 some.1)

each_cost : (ps : List PartPlan) (k : ℕ) → Each CostFits ps → slice_index (map (λ (p : PartPlan). p.cost) ps) k < 2 ^ 24
each_cost [] k h = lit< tt
each_cost (p ∷ ps) zero h = h.0
each_cost (p ∷ ps) (suc k) h = each_cost ps k h.1

long : (list : List Reference) (n : ℕ) → length list ≡ n → length (map (λ r. r.planes) list) ≡ n
long list n e = length-map list (λ r. r.planes) ∙ e

lists_fit : (f : Format) (h : SliceHead) (lists : Lists) (source : Planes) (range : ℕ) → IsGiven f h lists source range → Lists4 (search_by f lists source range)
lists_fit f h lists source range g =
    let e = long lists.list0 h.refs0 g.length0 in
    let d = long lists.list1 h.refs1 g.length1 in
    let few0 = g.few0 in
    let few1 = g.few1 in
    record { fit = g.source_fits; all0 = all_fit lists.list0 g.pictures0; all1 = all_fit lists.list1 g.pictures1; few0 = omega (arith, e, few0); few1 = omega (arith, d, few1) }

pub planned_cheap : (f : Format) (h : SliceHead) (lists : Lists) (source : Planes) (range address k : ℕ) → IsGiven f h lists source range → part_cost (plan_by f h lists source range address) k < 2 ^ 24
unfolding plan_of
planned_cheap f h lists source range address k g =
    each_cost _ k
    (parts_cheap h.kind (search_by f lists source range) (16 * (address % f.across)) (16 * (address / f.across)) (lists_fit f h lists source range g)
    (subst (λ (n : ℕ). HasEntries h.kind n (length (map (λ r. r.planes) lists.list1))) (sym (long lists.list0 h.refs0 g.length0))
    (subst (λ (n : ℕ). HasEntries h.kind h.refs0 n) (sym (long lists.list1 h.refs1 g.length1)) g.entries)))
