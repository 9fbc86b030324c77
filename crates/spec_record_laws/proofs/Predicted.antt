-- Predicted samples have eight bits, where the neighbours have.
use Rattle.std.proofs.Common.{◌≤◌, ◌+◌, ◌-◌, ◌*◌, ◌/◌, ℕ, Bool, min, List, [], ◌∷◌, arith, lit≤}
use Rattle.spec_intra.specs.declared.Avail.{Avail}
use Rattle.spec_intra.specs.Directions.{tap2, tap3, edge_at, vertical, horizontal, down_left, down_right, vertical_right, horizontal_down, vertical_left, horizontal_up}
use Rattle.spec_intra.specs.Means.{mean_of_sides, first_there, chroma_beside, chroma_means}
use Rattle.spec_intra.specs.Smoothing.{smoothed, smoothed_at}
use Rattle.spec_intra.specs.Slopes.{plane_at}
use Rattle.spec_intra.specs.Near.{line_there, plane_sample, neighbours4, neighbours8, neighbours16, neighbours_chroma}
use Rattle.spec_intra.specs.Predictions.{edge4, edge8, from_edge, predicted4, predicted8, predicted16, predicted_chroma}
use Rattle.spec_record_laws.specs.Coded.{AreBytes}
use Rattle.spec_record_laws.proofs.Bytes.{line_bytes, block_bytes, append_bytes, zeros_bytes, take_bytes, drop_bytes, none_bytes, cons_bytes, cond_bytes, cond_small, clip1_small, mean_small}

tap3_small : (e : ℕ → ℕ) → ((k : ℕ) → e k ≤ 255) → (k : ℕ) → tap3 e k ≤ 255
tap3_small e h k = let a = h (k - 1) in let b = h k in let c = h (k + 1) in omega arith

tap2_small : (e : ℕ → ℕ) → ((k : ℕ) → e k ≤ 255) → (k : ℕ) → tap2 e k ≤ 255
tap2_small e h k = let a = h (k - 1) in let b = h k in omega arith

vertical_small : (n : ℕ) (e : ℕ → ℕ) → ((k : ℕ) → e k ≤ 255) → (x y : ℕ) → vertical n e x y ≤ 255
unfolding vertical
vertical_small n e h x y = h (n + 1 + x)

horizontal_small : (n : ℕ) (e : ℕ → ℕ) → ((k : ℕ) → e k ≤ 255) → (x y : ℕ) → horizontal n e x y ≤ 255
unfolding horizontal
horizontal_small n e h x y = h (n - 1 - y)

down_left_small : (n : ℕ) (e : ℕ → ℕ) → ((k : ℕ) → e k ≤ 255) → (x y : ℕ) → down_left n e x y ≤ 255
unfolding down_left
down_left_small n e h x y = let a = h (n + 1 + x + y) in let b = h (n + 2 + x + y) in let c = h (min (n + 3 + x + y) (3 * n)) in omega arith

down_right_small : (n : ℕ) (e : ℕ → ℕ) → ((k : ℕ) → e k ≤ 255) → (x y : ℕ) → down_right n e x y ≤ 255
unfolding down_right
down_right_small n e h x y = tap3_small e h (n + x - y)

vertical_right_small : (n : ℕ) (e : ℕ → ℕ) → ((k : ℕ) → e k ≤ 255) → (x y : ℕ) → vertical_right n e x y ≤ 255
unfolding vertical_right
vertical_right_small n e h x y = cond_small _ _ _ (tap3_small e h _) (cond_small _ _ _ (tap2_small e h _) (tap3_small e h _))

horizontal_down_small : (n : ℕ) (e : ℕ → ℕ) → ((k : ℕ) → e k ≤ 255) → (x y : ℕ) → horizontal_down n e x y ≤ 255
unfolding horizontal_down
horizontal_down_small n e h x y = cond_small _ _ _ (tap3_small e h _) (cond_small _ _ _ (tap2_small e h _) (tap3_small e h _))

vertical_left_small : (n : ℕ) (e : ℕ → ℕ) → ((k : ℕ) → e k ≤ 255) → (x y : ℕ) → vertical_left n e x y ≤ 255
unfolding vertical_left
vertical_left_small n e h x y = cond_small _ _ _ (tap2_small e h _) (tap3_small e h _)

two_small : (a b : ℕ) → a ≤ 255 → b ≤ 255 → (a + b + 1) / 2 ≤ 255
two_small a b g h = omega arith

three_small : (a b c : ℕ) → a ≤ 255 → b ≤ 255 → c ≤ 255 → (a + 2 * b + c + 2) / 4 ≤ 255
three_small a b c f g h = omega arith

horizontal_up_small : (n : ℕ) (e : ℕ → ℕ) → ((k : ℕ) → e k ≤ 255) → (x y : ℕ) → horizontal_up n e x y ≤ 255
unfolding horizontal_up
horizontal_up_small n e h x y = cond_small _ _ _ (two_small _ _ (h _) (h _)) (three_small _ _ _ (h _) (h _) (h _))

sides_small : (avail : Avail) (above left : List ℕ) → AreBytes above → AreBytes left → mean_of_sides avail above left ≤ 255
unfolding mean_of_sides
sides_small avail above left a l =
    mean_small _ (append_bytes _ _ (cond_bytes avail.above above [] a none_bytes) (cond_bytes avail.left left [] l none_bytes))

pub from_edge_bytes : (n mode : ℕ) (avail : Avail) (e : List ℕ) → AreBytes e → AreBytes (from_edge n mode avail e)
unfolding from_edge
from_edge_bytes n mode avail e h =
    cond_bytes _ _ _ (block_bytes n _ (vertical_small n _ h.at))
    (cond_bytes _ _ _ (block_bytes n _ (horizontal_small n _ h.at))
    (cond_bytes _ _ _ (block_bytes n _ (λ x y. sides_small avail _ _ (take_bytes n _ (drop_bytes (n + 1) e h)) (take_bytes n e h)))
    (cond_bytes _ _ _ (block_bytes n _ (down_left_small n _ h.at))
    (cond_bytes _ _ _ (block_bytes n _ (down_right_small n _ h.at))
    (cond_bytes _ _ _ (block_bytes n _ (vertical_right_small n _ h.at))
    (cond_bytes _ _ _ (block_bytes n _ (horizontal_down_small n _ h.at))
    (cond_bytes _ _ _ (block_bytes n _ (vertical_left_small n _ h.at))
    (block_bytes n _ (horizontal_up_small n _ h.at)))))))))

edge_small : (n : ℕ) (left : List ℕ) (corner : ℕ) (above : List ℕ) (there : Bool) → AreBytes left → corner ≤ 255 → AreBytes above → (j : ℕ) → edge_at n left corner above there j ≤ 255
edge_small n left corner above there l c a j = cond_small _ _ _ (l.at _) (cond_small _ _ _ c (a.at _))

smoothed_bytes : (avail : Avail) (e : List ℕ) → AreBytes e → AreBytes (smoothed avail e)
unfolding smoothed
smoothed_bytes avail e h = line_bytes 25 (smoothed_at avail e) (λ j. three_small _ _ _ (h.at _) (h.at _) (h.at _))

-- ---- neighbours of a plane

there_bytes : (there : Bool) (n : ℕ) (f : ℕ → ℕ) → ((k : ℕ) → f k ≤ 255) → AreBytes (line_there there n f)
unfolding line_there
there_bytes there n f h = cond_bytes there _ _ (line_bytes n f h) (zeros_bytes n)

pub block4_bytes : (wide mode : ℕ) (plane : List ℕ) (avail : Avail) (x y : ℕ) → AreBytes plane → AreBytes (predicted4 mode (neighbours4 (plane_sample wide plane) avail x y))
unfolding neighbours4 edge4
block4_bytes wide mode plane avail x y h =
    from_edge_bytes 4 mode avail _ (line_bytes 13 _
    (edge_small 4 _ _ _ avail.above_right (there_bytes avail.left 4 _ (λ k. h.at _)) (cond_small avail.corner _ _ (h.at _) (lit≤ tt))
    (append_bytes _ _ (there_bytes avail.above 4 _ (λ k. h.at _)) (there_bytes avail.above_right 4 _ (λ k. h.at _)))))

pub block8_bytes : (wide mode : ℕ) (plane : List ℕ) (avail : Avail) (x y : ℕ) → AreBytes plane → AreBytes (predicted8 mode (neighbours8 (plane_sample wide plane) avail x y))
unfolding neighbours8 edge8
block8_bytes wide mode plane avail x y h =
    from_edge_bytes 8 mode avail _ (smoothed_bytes avail _ (line_bytes 25 _
    (edge_small 8 _ _ _ avail.above_right (there_bytes avail.left 8 _ (λ k. h.at _)) (cond_small avail.corner _ _ (h.at _) (lit≤ tt))
    (append_bytes _ _ (there_bytes avail.above 8 _ (λ k. h.at _)) (there_bytes avail.above_right 8 _ (λ k. h.at _))))))

pub block16_bytes : (wide mode : ℕ) (plane : List ℕ) (avail : Avail) (x y : ℕ) → AreBytes plane → AreBytes (predicted16 mode (neighbours16 (plane_sample wide plane) avail x y))
unfolding neighbours16 predicted16 plane_at
block16_bytes wide mode plane avail x y h =
    let above = there_bytes avail.above 16 (λ k. plane_sample wide plane (x + k) (y - 1)) (λ k. h.at _) in
    let left = there_bytes avail.left 16 (λ k. plane_sample wide plane (x - 1) (y + k)) (λ k. h.at _) in
    cond_bytes _ _ _ (block_bytes 16 _ (λ x y. above.at _))
    (cond_bytes _ _ _ (block_bytes 16 _ (λ x y. left.at _))
    (cond_bytes _ _ _ (block_bytes 16 _ (λ x y. sides_small avail _ _ above left))
    (block_bytes 16 _ (λ x y. clip1_small _))))

first_bytes : (xs ys : List ℕ) → AreBytes xs → AreBytes ys → AreBytes (first_there xs ys)
first_bytes [] ys h g = g
first_bytes (x ∷ xs) ys h g = h

beside_bytes : (above left : List ℕ) (column row : ℕ) → AreBytes above → AreBytes left → AreBytes (chroma_beside above left column row)
unfolding chroma_beside
beside_bytes above left column row h g =
    let a = take_bytes 4 _ (drop_bytes (4 * column) above h) in
    let l = take_bytes 4 _ (drop_bytes (4 * row) left g) in
    cond_bytes _ _ _ (append_bytes _ _ a l) (cond_bytes _ _ _ (first_bytes _ _ a l) (first_bytes _ _ l a))

means_bytes : (avail : Avail) (above left : List ℕ) → AreBytes above → AreBytes left → AreBytes (chroma_means avail above left)
unfolding chroma_means
means_bytes avail above left h g =
    let a = cond_bytes avail.above above [] h none_bytes in
    let l = cond_bytes avail.left left [] g none_bytes in
    cons_bytes _ _ (mean_small _ (beside_bytes _ _ 0 0 a l)) (cons_bytes _ _ (mean_small _ (beside_bytes _ _ 1 0 a l))
    (cons_bytes _ _ (mean_small _ (beside_bytes _ _ 0 1 a l)) (cons_bytes _ _ (mean_small _ (beside_bytes _ _ 1 1 a l)) none_bytes)))

pub chroma_bytes : (wide mode : ℕ) (plane : List ℕ) (avail : Avail) (x y : ℕ) → AreBytes plane → AreBytes (predicted_chroma mode (neighbours_chroma (plane_sample wide plane) avail x y))
unfolding neighbours_chroma predicted_chroma plane_at
chroma_bytes wide mode plane avail x y h =
    let above = there_bytes avail.above 8 (λ k. plane_sample wide plane (x + k) (y - 1)) (λ k. h.at _) in
    let left = there_bytes avail.left 8 (λ k. plane_sample wide plane (x - 1) (y + k)) (λ k. h.at _) in
    let means = means_bytes avail _ _ above left in
    cond_bytes _ _ _ (block_bytes 8 _ (λ x y. means.at _))
    (cond_bytes _ _ _ (block_bytes 8 _ (λ x y. left.at _))
    (cond_bytes _ _ _ (block_bytes 8 _ (λ x y. above.at _))
    (block_bytes 8 _ (λ x y. clip1_small _))))
