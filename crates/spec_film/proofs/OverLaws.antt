-- A list with another written over a part of it.
use Rattle.std.proofs.Common.{◌≡◌, ◌≤◌, ◌+◌, ◌-◌, ℕ, List, [], length, take, drop, ◌++◌, sym, ap, ap₂, ◌∙◌, arith, append_assoc, length-append}
use Rattle.std.proofs.lemmas.Grind.{common_steps}
use Rattle.std.proofs.lemmas.List.{take-append-drop, take-append-le, drop-append-le, drop-drop}
use Rattle.std.proofs.Math.Seq.{drop-append-add, take-append-add, take-append_seam, drop-append_seam}
use Rattle.spec_film.specs.Over.{over}

pub over_length : (xs w : List ℕ) (i : ℕ) → i + length w ≤ length xs → length (over xs i w) ≡ length xs
over_length xs w i h = grind (arith, common_steps)

pub over_inside : (xs w : List ℕ) (i n : ℕ) → length w ≡ n → i + n ≤ length xs → take n (drop i (over xs i w)) ≡ w
over_inside xs w i n e h = grind (arith, common_steps)

-- a part within the first of two lists
pub within_first : (ys zs : List ℕ) (n a : ℕ) → a + n ≤ length ys → take n (drop a (ys ++ zs)) ≡ take n (drop a ys)
within_first ys zs n a h =
    let short : length (drop a ys) ≡ length ys - a = grind (arith, common_steps) in
    ap (λ (l : List ℕ). take n l) (drop-append-le a ys zs (omega arith)) ∙ take-append-le n (drop a ys) zs (omega (arith, short))

pub over_before : (xs w : List ℕ) (i n a : ℕ) → a + n ≤ i → i ≤ length xs → take n (drop a (over xs i w)) ≡ take n (drop a xs)
over_before xs w i n a h k =
    let front : length (take i xs) ≡ i = grind (arith, common_steps) in
    within_first (take i xs) (w ++ drop (length w) (drop i xs)) n a (omega (arith, front))
    ∙ sym (within_first (take i xs) (drop i xs) n a (omega (arith, front)))
    ∙ ap (λ (l : List ℕ). take n (drop a l)) (take-append-drop i xs)

pub over_after : (xs w : List ℕ) (i n a : ℕ) → i + length w ≤ a → i + length w ≤ length xs → take n (drop a (over xs i w)) ≡ take n (drop a xs)
over_after xs w i n a h k =
    let front : length (take i xs) ≡ i = grind (arith, common_steps) in
    let r : ℕ = a - (i + length w) in
    let rest : List ℕ = drop (length w) (drop i xs) in
    let place : a ≡ length (take i xs) + (length w + r) = omega (arith, front) in
    let back : i + length w + r ≡ a = omega arith in
    ap (λ (l : List ℕ). take n l)
    (ap (λ (m : ℕ). drop m (over xs i w)) place
    ∙ drop-append-add (take i xs) (w ++ rest) (length w + r)
    ∙ drop-append-add w rest r
    ∙ ap (λ (l : List ℕ). drop r l) (drop-drop (length w) i xs)
    ∙ drop-drop r (i + length w) xs
    ∙ ap (λ (m : ℕ). drop m xs) back)

-- over the first of two lists
pub over_first : (xs ys w : List ℕ) (i : ℕ) → i + length w ≤ length xs → over xs i w ++ ys ≡ over (xs ++ ys) i w
over_first xs ys w i h =
    let short : length (drop i xs) ≡ length xs - i = grind (arith, common_steps) in
    let front : take i (xs ++ ys) ≡ take i xs = take-append-le i xs ys (omega arith) in
    let back : drop (length w) (drop i (xs ++ ys)) ≡ drop (length w) (drop i xs) ++ ys =
    ap (λ (l : List ℕ). drop (length w) l) (drop-append-le i xs ys (omega arith)) ∙ drop-append-le (length w) (drop i xs) ys (omega (arith, short)) in
    append_assoc (take i xs) (w ++ drop (length w) (drop i xs)) ys
    ∙ ap (λ (l : List ℕ). take i xs ++ l) (append_assoc w (drop (length w) (drop i xs)) ys)
    ∙ ap (λ (l : List ℕ). take i xs ++ (w ++ l)) (sym back)
    ∙ ap (λ (l : List ℕ). l ++ (w ++ drop (length w) (drop i (xs ++ ys)))) (sym front)

-- over the whole second of two lists
pub over_second : (xs ys w : List ℕ) (i : ℕ) → i ≡ length xs → length w ≡ length ys → xs ++ w ≡ over (xs ++ ys) i w
over_second xs ys w i e l = grind (arith, common_steps)

-- nothing is written
pub over_nothing : (xs : List ℕ) (i : ℕ) → xs ≡ over xs i []
over_nothing xs i = sym (take-append-drop i xs)

-- one part is written, and then the next
pub over_next : (xs u v : List ℕ) (i j : ℕ) → j ≡ i + length u → j + length v ≤ length xs → over (over xs i u) j v ≡ over xs i (u ++ v)
over_next xs u v i j e h =
    let r' : List ℕ = drop (length (u ++ v)) (drop i xs) in
    let front : length (take i xs) ≡ i = grind (arith, common_steps) in
    let place : j ≡ length (take i xs) + length u = omega (arith, front) in
    let t : take j (over xs i u) ≡ take i xs ++ u =
    ap (λ (m : ℕ). take m (over xs i u)) place ∙ take-append-add (take i xs) (u ++ drop (length u) (drop i xs)) (length u) ∙ ap (λ (l : List ℕ). take i xs ++ l) (take-append_seam u (drop (length u) (drop i xs))) in
    let d : drop j (over xs i u) ≡ drop (length u) (drop i xs) =
    ap (λ (m : ℕ). drop m (over xs i u)) place ∙ drop-append-add (take i xs) (u ++ drop (length u) (drop i xs)) (length u) ∙ drop-append_seam u (drop (length u) (drop i xs)) in
    let rest : drop (length v) (drop (length u) (drop i xs)) ≡ drop (length (u ++ v)) (drop i xs) =
    drop-drop (length v) (length u) (drop i xs) ∙ ap (λ (m : ℕ). drop m (drop i xs)) (sym (length-append u v)) in
    ap₂ (λ (x y : List ℕ). x ++ (v ++ drop (length v) y)) t d
    ∙ ap (λ (l : List ℕ). (take i xs ++ u) ++ (v ++ l)) rest
    ∙ append_assoc (take i xs) u (v ++ r')
    ∙ ap (λ (l : List ℕ). take i xs ++ l) (sym (append_assoc u v r'))

-- all is written
pub over_all : (xs w : List ℕ) → length w ≡ length xs → over xs 0 w ≡ w
over_all xs w e = grind (arith, common_steps)
