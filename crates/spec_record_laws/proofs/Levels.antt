-- The levels that the quantiser gives: their sizes, and how many there are.
use Rattle.std.proofs.Common.{◌≡◌, ◌≤◌, ◌<◌, ◌+◌, ◌*◌, ◌/◌, ◌%◌, ◌^◌, ◌++◌, ◌⊎◌, ◌+ℤ◌, ◌*ℤ◌, ◌≤ℤ◌, ℕ, zero, suc, ℤ, pos, negsuc, Bool, true, List, [], ◌∷◌, length, drop, replicate, refl, sym, ap, ap₂, ◌∙◌, arith, inl, inr, lit≤, subst}
use Rattle.std.specs.Prelude.{nat_abs, slice_set, slice_index}
use Rattle.std.specs.Int.Signed.{shr_z}
use Rattle.std.proofs.lemmas.Int.{ints}
use Rattle.std.proofs.lemmas.Bool.{cases_lt}
use Rattle.std.proofs.lemmas.Nat.{pow_pos}
use Rattle.std.proofs.lemmas.List.{get_or_past, get_or-take, get_or-drop, length-append}
use Rattle.std.proofs.Math.Nat.{div-eq_of_lt}
use Rattle.enc_tables.specs.declared.transform.TheConstants.{FORWARD4, FORWARD8, HADAMARD4, HADAMARD2, ZIGZAG4}
use Rattle.enc_tables.specs.Steps.{steps}
use Rattle.spec_residual.specs.declared.BlockKind.{BlockKind}
use Rattle.spec_residual.specs.declared.BlockKind.TheVariants.{Luma4, Luma8, ChromaDc}
use Rattle.spec_basics.specs.Bounds.{Within}
use Rattle.spec_residual.specs.Blocks.{item, listed, rows_of, block, transformed, rounded}
use Rattle.spec_residual.specs.Forward.{forward4_of, forward8_of, luma_dc_of, chroma_dc_of}
use Rattle.spec_residual.specs.Levels.{greatest, level_of, levels4_of, levels8_of, chroma_dc_levels_of, signed_level, multiplier, rounding, shift}
use Rattle.spec_residual.proofs.Bounds.{level_small}
use Rattle.spec_residual.proofs.Listed.{length-listed, item-listed}
use Rattle.spec_macroblock.specs.Records.{level_at, AreLevels}
use Rattle.spec_reconstruction.specs.InOrder.{joined}
use Rattle.spec_reconstruction.proofs.Rebuilt.{block_of_joined}
use Rattle.spec_record_laws.proofs.Sums.{AreSmall, weights, transformed_within}

-- ---- rounding

record IsShifted (n : ℕ) (x s : ℤ) : Type 0 where
  pub low : x ≤ℤ ((pos (n + 1) *ℤ s) +ℤ pos n)
  pub high : (pos (n + 1) *ℤ s) ≤ℤ x

by_2 : (x : ℤ) → IsShifted 1 x (shr_z x 2)
by_2 (pos a) = record { low = omega (arith, ints); high = omega (arith, ints) }
by_2 (negsuc a) = record { low = omega (arith, ints); high = omega (arith, ints) }

by_64 : (x : ℤ) → IsShifted 63 x (shr_z x 64)
by_64 (pos a) = record { low = omega (arith, ints); high = omega (arith, ints) }
by_64 (negsuc a) = record { low = omega (arith, ints); high = omega (arith, ints) }

half_within : (m : ℕ) (x : ℤ) → Within (2 * m) x → Within m (rounded 0 x)
half_within m x w = let s = by_2 (x +ℤ pos 1) in record { low = omega (arith, ints); high = omega (arith, ints) }

sixty_fourth_within : (m : ℕ) (x : ℤ) → Within (64 * m) x → Within m (rounded 5 x)
sixty_fourth_within m x w = let s = by_64 (x +ℤ pos 32) in record { low = omega (arith, ints); high = omega (arith, ints) }

-- ---- the weights of a row

row_forward4 : (i : ℕ) → weights 4 (rows_of FORWARD4 i) ≤ 6
row_forward4 zero = lit≤ tt
row_forward4 (suc zero) = lit≤ tt
row_forward4 (suc (suc zero)) = lit≤ tt
row_forward4 (suc (suc (suc zero))) = lit≤ tt
row_forward4 (suc (suc (suc (suc i)))) = lit≤ tt

row_hadamard4 : (i : ℕ) → weights 4 (rows_of HADAMARD4 i) ≤ 4
row_hadamard4 zero = lit≤ tt
row_hadamard4 (suc zero) = lit≤ tt
row_hadamard4 (suc (suc zero)) = lit≤ tt
row_hadamard4 (suc (suc (suc zero))) = lit≤ tt
row_hadamard4 (suc (suc (suc (suc i)))) = lit≤ tt

row_hadamard2 : (i : ℕ) → weights 2 (rows_of HADAMARD2 i) ≤ 2
row_hadamard2 zero = lit≤ tt
row_hadamard2 (suc zero) = lit≤ tt
row_hadamard2 (suc (suc i)) = lit≤ tt

row_forward8 : (i : ℕ) → weights 8 (rows_of FORWARD8 i) ≤ 64
row_forward8 zero = lit≤ tt
row_forward8 (suc zero) = lit≤ tt
row_forward8 (suc (suc zero)) = lit≤ tt
row_forward8 (suc (suc (suc zero))) = lit≤ tt
row_forward8 (suc (suc (suc (suc zero)))) = lit≤ tt
row_forward8 (suc (suc (suc (suc (suc zero))))) = lit≤ tt
row_forward8 (suc (suc (suc (suc (suc (suc zero)))))) = lit≤ tt
row_forward8 (suc (suc (suc (suc (suc (suc (suc zero))))))) = lit≤ tt
row_forward8 (suc (suc (suc (suc (suc (suc (suc (suc i)))))))) = lit≤ tt

-- ---- the coefficients

none_within : (m : ℕ) → Within m (pos 0)
none_within m = record { low = omega (arith, ints); high = omega (arith, ints) }

listed_at : (n m : ℕ) (f : ℕ → ℤ) → ((k : ℕ) → Within m (f k)) → (k : ℕ) → (k < n) ⊎ (n ≤ k) → Within m (item (listed n f) k)
listed_at n m f h k (inl l) = subst (λ (z : ℤ). Within m z) (sym (item-listed n f k l)) (h k)
listed_at n m f h k (inr g) = subst (λ (z : ℤ). Within m z) (sym (get_or_past (listed n f) k (pos 0) (omega (arith, length-listed n f)))) (none_within m)

pub listed_small : (n m : ℕ) (f : ℕ → ℤ) → ((k : ℕ) → Within m (f k)) → AreSmall m (listed n f)
listed_small n m f h = record { at = λ k. listed_at n m f h k (cases_lt k n) }

pub forward4_small : (x : List ℤ) → AreSmall 255 x → AreSmall 9180 (forward4_of x)
unfolding forward4_of
forward4_small x h =
    listed_small 16 9180 _ (λ p. transformed_within 4 255 6 6 (rows_of FORWARD4) (block 4 x) (p / 4) (p % 4) (row_forward4 (p / 4)) (row_forward4 (p % 4)) (λ a b. h.at (4 * a + b)))

pub first_small : (x : List ℤ) → AreSmall 255 x → Within 4080 (item (forward4_of x) 0)
unfolding forward4_of
first_small x h =
    subst (λ (z : ℤ). Within 4080 z) (sym (item-listed 16 (λ p. transformed 4 (rows_of FORWARD4) (block 4 x) (p / 4) (p % 4)) 0 (omega arith)))
    (transformed_within 4 255 4 4 (rows_of FORWARD4) (block 4 x) 0 0 (lit≤ tt) (lit≤ tt) (λ a b. h.at (4 * a + b)))

pub forward8_small : (x : List ℤ) → AreSmall 255 x → AreSmall 16320 (forward8_of x)
unfolding forward8_of
forward8_small x h =
    listed_small 64 16320 _ (λ p. sixty_fourth_within 16320 _ (transformed_within 8 255 64 64 (rows_of FORWARD8) (block 8 x) (p / 8) (p % 8) (row_forward8 (p / 8)) (row_forward8 (p % 8)) (λ a b. h.at (8 * a + b))))

pub luma_dc_small : (x : List ℤ) → AreSmall 4080 x → AreSmall 32640 (luma_dc_of x)
unfolding luma_dc_of
luma_dc_small x h =
    listed_small 16 32640 _ (λ p. half_within 32640 _ (transformed_within 4 4080 4 4 (rows_of HADAMARD4) (block 4 x) (p / 4) (p % 4) (row_hadamard4 (p / 4)) (row_hadamard4 (p % 4)) (λ a b. h.at (4 * a + b))))

pub chroma_dc_small : (x : List ℤ) → AreSmall 4080 x → AreSmall 16320 (chroma_dc_of x)
unfolding chroma_dc_of
chroma_dc_small x h =
    listed_small 4 16320 _ (λ p. transformed_within 2 4080 2 2 (rows_of HADAMARD2) (block 2 x) (p / 2) (p % 2) (row_hadamard2 (p / 2)) (row_hadamard2 (p % 2)) (λ a b. h.at (2 * a + b)))

-- ---- one item replaced

set_at : (m : ℕ) (c : List ℤ) (i : ℕ) (v : ℤ) → ((k : ℕ) → Within m (item c k)) → Within m v → (k : ℕ) → Within m (item (slice_set c i v) k)
set_at m [] i v h w k = h k
set_at m (x ∷ c) zero v h w zero = w
set_at m (x ∷ c) zero v h w (suc k) = h (suc k)
set_at m (x ∷ c) (suc i) v h w zero = h zero
set_at m (x ∷ c) (suc i) v h w (suc k) = set_at m c i v (λ j. h (suc j)) w k

pub set_small : (m : ℕ) (c : List ℤ) (i : ℕ) (v : ℤ) → AreSmall m c → Within m v → AreSmall m (slice_set c i v)
set_small m c i v h w = record { at = set_at m c i v h.at w }

zeros_at : (m n k : ℕ) → Within m (item (replicate n (pos 0)) k)
zeros_at m zero k = none_within m
zeros_at m (suc n) zero = none_within m
zeros_at m (suc n) (suc k) = zeros_at m n k

pub zeros_small : (m n : ℕ) → AreSmall m (replicate n (pos 0))
zeros_small m n = record { at = zeros_at m n }

pub steps_small : (m : ℕ) (f : ℕ → List ℤ → List ℤ) (n : ℕ) (c : List ℤ) → ((b : ℕ) (d : List ℤ) → AreSmall m d → AreSmall m (f b d)) → AreSmall m c → AreSmall m (steps f n c)
unfolding steps
steps_small m f zero c each h = h
steps_small m f (suc n) c each h = each n _ (steps_small m f n c each h)

-- ---- levels

level_is : (z : ℤ) → Within 8191 z → nat_abs z ≤ 8191
level_is (pos n) w = omega (arith, ints, w.high)
level_is (negsuc n) w = omega (arith, ints, w.low)

pub are_levels : (ls : List ℤ) → AreSmall 8191 ls → AreLevels ls
are_levels ls h i = level_is (level_at ls i) (h.at i)

pub levels4_small : (intra : Bool) (kind : BlockKind) (qp : ℕ) (xs : List ℤ) → AreSmall (greatest kind) xs → AreSmall 8191 (levels4_of kind intra qp xs)
unfolding levels4_of
levels4_small intra kind qp xs h = listed_small 16 8191 _ (λ s. level_small kind _ qp _ _ (h.at _))

pub levels8_small : (intra : Bool) (qp : ℕ) (xs : List ℤ) → AreSmall 16320 xs → AreSmall 8191 (levels8_of intra qp xs)
unfolding levels8_of
levels8_small intra qp xs h = listed_small 64 8191 _ (λ s. level_small Luma8 _ qp _ _ (h.at _))

pub chroma_levels_small : (intra : Bool) (qp : ℕ) (xs : List ℤ) → AreSmall 16320 xs → AreSmall 8191 (chroma_dc_levels_of intra qp xs)
unfolding chroma_dc_levels_of
chroma_levels_small intra qp xs h = listed_small 4 8191 _ (λ s. level_small ChromaDc _ qp _ _ (h.at _))

pub length-levels4 : (intra : Bool) (kind : BlockKind) (qp : ℕ) (xs : List ℤ) → length (levels4_of kind intra qp xs) ≡ 16
unfolding levels4_of
length-levels4 intra kind qp xs = length-listed 16 _

pub length-levels8 : (intra : Bool) (qp : ℕ) (xs : List ℤ) → length (levels8_of intra qp xs) ≡ 64
unfolding levels8_of
length-levels8 intra qp xs = length-listed 64 _

pub length-chroma_dc : (intra : Bool) (qp : ℕ) (xs : List ℤ) → length (chroma_dc_levels_of intra qp xs) ≡ 4
unfolding chroma_dc_levels_of
length-chroma_dc intra qp xs = length-listed 4 _

-- the quantiser makes 0 of 0
none_of : (m f s : ℕ) → f < 2 ^ s → signed_level m f s (pos 0) ≡ pos 0
none_of m f s h =
    let none : 0 * m + f ≡ f = omega arith in
    ap (λ (n : ℕ). pos (n / 2 ^ s)) none ∙ ap (λ (n : ℕ). pos n) (div-eq_of_lt h)

third : (k : ℕ) → 2 ^ k / 3 < 2 ^ k
third k = let p : 0 < 2 ^ k = pow_pos k in omega arith

level_of_none : (qp p : ℕ) → level_of Luma4 true qp p (pos 0) ≡ pos 0
unfolding level_of rounding shift
level_of_none qp p = none_of (multiplier Luma4 qp p) _ _ (third (15 + qp / 6))

set_first : (xs : List ℤ) → item (slice_set xs 0 (pos 0)) 0 ≡ pos 0
set_first [] = refl
set_first (x ∷ xs) = refl

pub first_is_none : (qp : ℕ) (xs : List ℤ) → item (levels4_of Luma4 true qp (slice_set xs 0 (pos 0))) 0 ≡ pos 0
unfolding levels4_of
first_is_none qp xs =
    item-listed 16 (λ s. level_of Luma4 true qp (slice_index ZIGZAG4 s) (item (slice_set xs 0 (pos 0)) (slice_index ZIGZAG4 s))) 0 (omega arith)
    ∙ ap (λ (z : ℤ). level_of Luma4 true qp 0 z) (set_first xs) ∙ level_of_none qp 0

-- ---- one behind the other

append_at : (m : ℕ) (xs ys : List ℤ) → ((k : ℕ) → Within m (item xs k)) → ((k : ℕ) → Within m (item ys k)) → (k : ℕ) → Within m (item (xs ++ ys) k)
append_at m [] ys h g k = g k
append_at m (x ∷ xs) ys h g zero = h zero
append_at m (x ∷ xs) ys h g (suc k) = append_at m xs ys (λ j. h (suc j)) g k

pub append_small : (m : ℕ) (xs ys : List ℤ) → AreSmall m xs → AreSmall m ys → AreSmall m (xs ++ ys)
append_small m xs ys h g = record { at = append_at m xs ys h.at g.at }

drop_at : (m n : ℕ) (xs : List ℤ) → AreSmall m xs → (k : ℕ) → Within m (item (drop n xs) k)
drop_at m n xs h k = subst (λ (z : ℤ). Within m z) (sym (get_or-drop n xs k (pos 0))) (h.at (n + k))

pub drop_small : (m n : ℕ) (xs : List ℤ) → AreSmall m xs → AreSmall m (drop n xs)
drop_small m n xs h = record { at = drop_at m n xs h }

pub joined_small : (m : ℕ) (f : ℕ → List ℤ) (n : ℕ) → ((b : ℕ) → AreSmall m (f b)) → AreSmall m (joined f n)
unfolding joined
joined_small m f zero h = zeros_small m 0
joined_small m f (suc n) h = append_small m _ _ (joined_small m f n h) (h n)

pub length-joined : (f : ℕ → List ℤ) (size n : ℕ) → ((b : ℕ) → length (f b) ≡ size) → length (joined f n) ≡ n * size
unfolding joined
length-joined f size zero long = omega arith
length-joined f size (suc n) long =
    length-append (joined f n) (f n) ∙ ap₂ (λ (a b : ℕ). a + b) (length-joined f size n long) (long n) ∙ suc_times n size
  where
    suc_times : (n w : ℕ) → n * w + w ≡ suc n * w
    suc_times n w = grind arith

-- the first of each of sixteen blocks
pub places_none : (f : ℕ → List ℤ) → ((b : ℕ) → length (f b) ≡ 16) → ((b : ℕ) → item (f b) 0 ≡ pos 0) → (b : ℕ) → item (joined f 16) (16 * b) ≡ pos 0
places_none f long none b = by (cases_lt b 16)
  where
    by : (b < 16) ⊎ (16 ≤ b) → item (joined f 16) (16 * b) ≡ pos 0
    by (inr g) = get_or_past (joined f 16) (16 * b) (pos 0) (omega (arith, length-joined f 16 16 long))
    by (inl l) =
        let place : 16 * b ≡ b * 16 + 0 = omega arith in
        ap (λ (k : ℕ). item (joined f 16) k) place ∙ sym (get_or-drop (b * 16) (joined f 16) 0 (pos 0))
        ∙ sym (get_or-take 16 (drop (b * 16) (joined f 16)) 0 (pos 0) (omega arith))
        ∙ ap (λ (ls : List ℤ). item ls 0) (block_of_joined f 16 16 b long l) ∙ none b
