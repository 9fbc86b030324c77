-- Tables whose items are sums of 8x8 samples.
use Rattle.std.proofs.Common.{◌≡◌, ℕ, ◌+◌, ◌*◌, ◌<◌, ◌≤◌, List, length, get_or, ap, ◌∙◌, arith, zero-add}
use Rattle.std.proofs.lemmas.Grind.{common_steps}
use Rattle.std.proofs.lemmas.Int.{ints}
use Rattle.std.specs.Prelude.{ℤ, pos, ◌+ℤ◌}
use Rattle.spec_kernels.specs.Sums.{block_sum}
use Rattle.spec_kernels.proofs.SumLaws.{block-same}
use Rattle.picture_planes.specs.declared.plane.Plane.{Plane}
use Rattle.picture_planes.specs.Margins.{buffer_at, buffer_width, buffer_height, inward, nearest, IsFilled, IsBlock}
use Rattle.block_sums.specs.declared.table.SumTable.{SumTable}
use Rattle.block_sums.specs.Passes.{SquareAhead}
use Rattle.block_sums.specs.Tables.{IsTableOf, table_width, table_height, sum_at}
use Rattle.block_sums.proofs.Doubling.{moved}

pub any_default : (xs : List ℕ) (i d e : ℕ) → i < length xs → get_or xs i d ≡ get_or xs i e
any_default xs i d e p = grind (arith, common_steps)

index : (r j c i w b : ℕ) → w ≡ b → r * w + c + w * j + i ≡ (r + j) * b + (c + i)
index r j c i w b e = rw e (omega arith)

more : (a b c : ℕ) → a ≤ b → a * c ≤ b * c
more a b c p = grind arith

inside : (r c w h l : ℕ) → c + 8 ≤ w → r + 8 ≤ h → l ≡ w * h → r * w + c + w * 7 + 7 < l
inside r c w h l p q e =
    let m = more (r + 8) h w q in
    let f : (r + 8) * w ≡ r * w + 8 * w = omega arith in
    rw e (omega arith)

pub in_table : (r c w h l : ℕ) → c + 8 ≤ w → r + 8 ≤ h → l ≡ w * h → r * w + c < l
in_table r c w h l p q e = let i = inside r c w h l p q e in omega arith

pub sums_filled : (items : List ℕ) (width height pad : ℕ) (p : Plane) (xs : List ℕ) → width ≡ p.width → height ≡ p.height → pad ≡ p.pad → IsFilled p → IsBlock p 0 0 xs
    → SquareAhead (width + 2 * pad) xs items → length xs ≡ (width + 2 * pad) * (height + 2 * pad)
    → (c r : ℕ) → c + 8 ≤ width + 2 * pad → r + 8 ≤ height + 2 * pad → get_or items (r * (width + 2 * pad) + c) 0 ≡ block_sum (λ i j. nearest p (inward p (c + i)) (inward p (r + j))) 8 8
sums_filled items width height pad p xs sw sh sp f b sq l c r m n =
    let w : width + 2 * pad ≡ buffer_width p = omega arith in
    let h : height + 2 * pad ≡ buffer_height p = omega arith in
    sq.item (r * (width + 2 * pad) + c) (inside r c (width + 2 * pad) (height + 2 * pad) (length xs) m n l)
    ∙ block-same (λ i j. get_or xs (r * (width + 2 * pad) + c + (width + 2 * pad) * j + i) 0) (λ i j. nearest p (inward p (c + i)) (inward p (r + j))) 8 8 (λ i j a d.
    moved xs (r * (width + 2 * pad) + c + (width + 2 * pad) * j + i) ((r + j) * buffer_width p + (c + i)) (index r j c i (width + 2 * pad) (buffer_width p) w)
    ∙ b (c + i) (r + j) (rw zero-add (omega arith)) (rw zero-add (omega arith))
    ∙ ap (λ (k : ℕ). buffer_at p k (0 + (r + j))) (zero-add (c + i))
    ∙ ap (buffer_at p (c + i)) (zero-add (r + j))
    ∙ f.at (c + i) (r + j) (omega arith) (omega arith))

pub sum_of_place : (t : SumTable) (p : Plane) (x y : ℤ) (c r : ℕ) → IsTableOf t p → pos c ≡ x +ℤ pos t.pad → pos r ≡ y +ℤ pos t.pad → c + 8 ≤ table_width t → r + 8 ≤ table_height t
    → sum_at t c r ≡ block_sum (λ i j. nearest p (x +ℤ pos i) (y +ℤ pos j)) 8 8
sum_of_place t p x y c r h a b m n =
    let sp = h.shape.pad in
    h.sums c r m n
    ∙ block-same (λ i j. nearest p (inward p (c + i)) (inward p (r + j))) (λ i j. nearest p (x +ℤ pos i) (y +ℤ pos j)) 8 8 (λ i j d e.
    (let u : inward p (c + i) ≡ x +ℤ pos i = omega (arith, ints) in
    let v : inward p (r + j) ≡ y +ℤ pos j = omega (arith, ints) in
    ap (λ (k : ℤ). nearest p k (inward p (r + j))) u ∙ ap (nearest p (x +ℤ pos i)) v))
