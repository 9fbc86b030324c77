-- How many vectors are compared, row after row, and at most.
use Rattle.std.proofs.Common.{◌≡◌, ◌≤◌, ◌<◌, ◌+◌, ◌*◌, ◌/◌, ℕ, zero, suc, Bool, true, false, length, refl, sym, ap, subst, ◌∙◌, arith, lit≤}
use Rattle.std.specs.Prelude.{if◌then◌else◌}
use Rattle.std.specs.List.{range_with_len, sum_by}
use Rattle.std.proofs.lemmas.Nat.{mul-le}
use Rattle.std.proofs.lemmas.List.Sums.{sum_by-le}
use Rattle.std.proofs.lemmas.List.FromFn.{length-range_with_len}
use Rattle.enc_tables.specs.declared.records.SliceKind.{SliceKind}
use Rattle.picture_planes.specs.declared.plane.Plane.{Plane}
use Rattle.spec_film.specs.Films.{Planes}
use Rattle.spec_search.specs.declared.blocks.Block.{Block}
use Rattle.spec_search.specs.Least.{is_compared, compared_of}
use Rattle.spec_search.specs.Scan.{window_size}
use Rattle.spec_search.specs.Window.{cost_of, bound_of, scanned}
use Rattle.spec_inter_plans.specs.InterPlans.{Search, own_luma, luma_of, partitions, compared, parts_compared, row_compared, picture_compared}
use Rattle.ref_lists.specs.declared.naming.Lists.{Lists}
use Rattle.ref_lists.specs.Entries.{ArePlaces}
use Rattle.mode_choice.specs.Given.{search_of, used}
use Rattle.mode_choice.proofs.Naming.{long}
use Rattle.mode_choice.proofs.RowPlans.{one_column_more}
use Rattle.picture_plans.specs.Planned.{row_at}
use Rattle.picture_plans.proofs.Sharing.{row_none, row_last}

-- ---- at most

one_at_most : (b : Bool) → (if b then 1 else 0) ≤ 1
one_at_most true = lit≤ tt
one_at_most false = lit≤ tt

places_compared : (cost bound : ℕ → ℕ) (n : ℕ) → compared_of cost bound n ≤ n
places_compared cost bound zero = lit≤ tt
places_compared cost bound (suc n) = next (compared_of cost bound n) (if is_compared cost bound n then 1 else 0) (places_compared cost bound n) (one_at_most (is_compared cost bound n))
  where
    next : (a b : ℕ) → a ≤ n → b ≤ 1 → a + b ≤ suc n
    next a b h g = omega (arith, h, g)

window_small : (range : ℕ) → range ≤ 32 → window_size range ≤ 4225
window_small range h = mul-le (2 * range + 1) (2 * range + 1) 65 65 (omega (arith, h)) (omega (arith, h))

-- of a block in one picture
block_compared : (s : Search) (block : Block) (p : Planes) → s.range ≤ 32 → compared s block p ≤ 4225
unfolding compared
block_compared s block p h =
    within _ (window_size s.range) (places_compared (scanned (cost_of (own_luma s) (luma_of s p) block)) (scanned (bound_of (own_luma s) (luma_of s p) block)) (window_size s.range)) (window_small s.range h)
  where
    within : (k n : ℕ) → k ≤ n → n ≤ 4225 → k ≤ 4225
    within k n a b = omega (arith, a, b)

-- what the bounds of a row rest on
pub record IsBounded (s : Search) : Type 0 where
  pub across : s.across ≤ 256
  pub range : s.range ≤ 32
  pub first : length s.sources.list0 ≤ 4
  pub second : length s.sources.list1 ≤ 4

-- of a block in all pictures of both lists
lists_compared : (s : Search) (block : Block) → IsBounded s → sum_by (compared s block) s.sources.list0 + sum_by (compared s block) s.sources.list1 ≤ 33800
lists_compared s block h =
    let a : sum_by (compared s block) s.sources.list0 ≤ length s.sources.list0 * 4225 = sum_by-le (compared s block) 4225 s.sources.list0 (λ k d lt. block_compared s block _ h.range) in
    let b : sum_by (compared s block) s.sources.list1 ≤ length s.sources.list1 * 4225 = sum_by-le (compared s block) 4225 s.sources.list1 (λ k d lt. block_compared s block _ h.range) in
    both _ _ (length s.sources.list0) (length s.sources.list1) a b h.first h.second
  where
    both : (p q m n : ℕ) → p ≤ m * 4225 → q ≤ n * 4225 → m ≤ 4 → n ≤ 4 → p + q ≤ 33800
    both p q m n a b c d = omega (arith, a, b, c, d)

macroblock_compared : (s : Search) (x y : ℕ) → IsBounded s → parts_compared s x y ≤ 304200
unfolding parts_compared partitions
macroblock_compared s x y h =
    sum_by-le (λ block. sum_by (compared s block) s.sources.list0 + sum_by (compared s block) s.sources.list1) 33800 (partitions x y) (λ k d lt. lists_compared s _ h)

row_small : (s : Search) (row : ℕ) → IsBounded s → row_compared s row ≤ 77875200
unfolding row_compared
row_small s row h =
    within _ s.across (sum_by-le (λ column. parts_compared s (16 * column) (16 * row)) 304200 (range_with_len 0 s.across) (λ k d lt. macroblock_compared s _ (16 * row) h)) (length-range_with_len 0 s.across) h.across
  where
    within : (k n : ℕ) → k ≤ length (range_with_len 0 s.across) * 304200 → length (range_with_len 0 s.across) ≡ n → n ≤ 256 → k ≤ 77875200
    within k n a e b = omega (arith, a, e, b)

-- of the first n rows of a picture
pub rows_small : (s : Search) (n : ℕ) → IsBounded s → picture_compared s n ≤ n * 77875200
unfolding picture_compared
rows_small s n h =
    within _ (length (range_with_len 0 n)) (sum_by-le (row_compared s) 77875200 (range_with_len 0 n) (λ k d lt. row_small s _ h)) (length-range_with_len 0 n)
  where
    within : (k m : ℕ) → k ≤ m * 77875200 → m ≡ n → k ≤ n * 77875200
    within k m a e = omega (arith, a, e)

-- ---- row after row

pub rows_more : (s : Search) (n : ℕ) → picture_compared s n + row_compared s n ≡ picture_compared s (n + 1)
unfolding picture_compared
rows_more s n = one_column_more (row_compared s) n (sum_by (row_compared s) (range_with_len 0 n)) (row_compared s n) refl refl

pub rows_none : (s : Search) → picture_compared s 0 ≡ 0
unfolding picture_compared
rows_none s = refl

-- a count that began with row `first`
pub counted_more : (s : Search) (first n a b : ℕ) → a + picture_compared s first ≡ picture_compared s n → b ≡ row_compared s n → a + b + picture_compared s first ≡ picture_compared s (n + 1)
counted_more s first n a b h e = let m = rows_more s n in omega (arith, h, e, m)

-- it ends with the last row
pub counted_last : (s : Search) (first n end a : ℕ) → n ≡ end → a + picture_compared s first ≡ picture_compared s n → a + picture_compared s first ≡ picture_compared s end
counted_last s first n end a e h = subst (λ (k : ℕ). a + picture_compared s first ≡ picture_compared s k) e h

-- it is small
pub counted_small : (s : Search) (first n a b : ℕ) → IsBounded s → n < 144 → a + picture_compared s first ≡ picture_compared s n → b ≡ row_compared s n → a + b ≤ 11214028800
counted_small s first n a b h few is e =
    let m = counted_more s first n a b is e in
    let small = rows_small s (n + 1) h in
    omega (arith, m, small, few)

-- ---- the search of a row

used_bounded : (kind : SliceKind) (s : Search) → IsBounded s → IsBounded (used kind s)
used_bounded SliceKind.I s h = record { across = h.across; range = h.range; first = lit≤ tt; second = lit≤ tt }
used_bounded SliceKind.P s h = record { across = h.across; range = h.range; first = h.first; second = lit≤ tt }
used_bounded SliceKind.B s h = record { across = h.across; range = h.range; first = h.first; second = h.second }

-- a search over lists of at most four entries in a plane
pub search_bounded : (p : Plane) (kind : SliceKind) (lists : Lists) (source : Planes) (range : ℕ) → range ≤ 32 → (length lists.list0.items ≤ 4) × (length lists.list1.items ≤ 4)
    → ArePlaces (length lists.held.now) lists.list0.items × ArePlaces (length lists.held.now) lists.list1.items → IsBounded (used kind (search_of (p.width / 16) lists source range))
search_bounded p kind lists source range near few inside =
    let a = long lists.held.now lists.list0.items inside.0 in
    let b = long lists.held.now lists.list1.items inside.1 in
    used_bounded kind (search_of (p.width / 16) lists source range) (record {
      across = sixteenth p.width p.size.1;
      range = near;
      first = shorter _ _ a few.0;
      second = shorter _ _ b few.1;
    })
  where
    sixteenth : (n : ℕ) → n ≤ 4096 → n / 16 ≤ 256
    sixteenth n h = omega arith

    shorter : (m n : ℕ) → m ≡ n → n ≤ 4 → m ≤ 4
    shorter m n e h = omega (arith, e, h)

-- ---- slice after slice

pub slices_more : (s : Search) (first end from to a b : ℕ) → first ≡ from → end ≡ to → a ≡ picture_compared s from → b + picture_compared s first ≡ picture_compared s end → a + b ≡ picture_compared s to
slices_more s first end from to a b e g h is =
    let p = ap (picture_compared s) e in
    let q = ap (picture_compared s) g in
    omega (arith, p, q, h, is)

-- before the first slice, and behind the last one
pub slices_none : (s : Search) (down slices : ℕ) → 0 ≡ picture_compared s (row_at slices down 0)
slices_none s down slices = sym (ap (picture_compared s) (row_none down slices) ∙ rows_none s)

pub slices_last : (s : Search) (down slices n a : ℕ) → 0 < slices → n ≡ slices → a ≡ picture_compared s (row_at slices down n) → a ≡ picture_compared s down
slices_last s down slices n a some e h =
    h
    ∙ ap (λ (k : ℕ). picture_compared s (row_at slices down k)) e
    ∙ ap (picture_compared s) (row_last down slices some)

-- the count is small
pub slices_small : (s : Search) (first end from to a b : ℕ) → IsBounded s → end ≤ 144 → first ≡ from → end ≡ to → a ≡ picture_compared s from → b + picture_compared s first ≡ picture_compared s end → a + b ≤ 11214028800
slices_small s first end from to a b h few e g is more =
    let m = slices_more s first end from to a b e g is more in
    let small = rows_small s to h in
    omega (arith, m, small, few, g)
