-- Rows of blocks, read and written.
use Rattle.std.proofs.Common.{◌≡◌, ◌≤◌, ◌<◌, ◌+◌, ◌*◌, ◌++◌, ℕ, List, [], length, add-one, take, drop, refl, sym, ap, ap₂, ◌∙◌, arith, append_assoc, length-drop}
use Rattle.std.proofs.lemmas.Grind.{common_steps}
use Rattle.std.proofs.lemmas.List.{take-append-drop, drop-append-le, drop-drop, take-take}
use Rattle.std.proofs.Math.Seq.{take-add}
use Rattle.picture_planes.specs.declared.plane.Plane.{Plane}
use Rattle.spec_film.specs.Over.{over}
use Rattle.picture_planes.specs.Samples.{row_of, with_row, samples_of}
use Rattle.picture_planes.proofs.SampleLaws.{row_length, samples_length, samples_written, row_of_samples, before_end}
use Rattle.spec_reconstruction.specs.Parts.{block_rows, with_rows}

-- one row more of what was read
pub row_read : (out part rows : List ℕ) (start n : ℕ) → start + n ≤ length out → length part ≡ n → take start out ≡ rows
    → take (start + n) (take start out ++ (part ++ drop n (drop start out))) ≡ rows ++ part
row_read out part rows start n room e done = grind (arith, common_steps)

pub rows_more : (wide x y n : ℕ) (plane : List ℕ) (j : ℕ) → block_rows wide x y n plane (j + 1) ≡ block_rows wide x y n plane j ++ take n (drop ((y + j) * wide + x) plane)
unfolding block_rows
rows_more wide x y n plane j = rw add-one refl

pub rows_none : (wide x y n : ℕ) (plane : List ℕ) → [] ≡ block_rows wide x y n plane 0
unfolding block_rows
rows_none wide x y n plane = refl

pub written_none : (wide x y n : ℕ) (block plane : List ℕ) → plane ≡ with_rows wide x y n block 0 plane
unfolding with_rows
written_none wide x y n block plane = refl

written_more : (wide x y n : ℕ) (block plane : List ℕ) (j : ℕ) → with_rows wide x y n block (j + 1) plane ≡ over (with_rows wide x y n block j plane) ((y + j) * wide + x) (take n (drop (j * n) block))
unfolding with_rows
written_more wide x y n block plane j = rw add-one refl

-- what stands behind a part of the first of two parts of a list
behind : (xs : List ℕ) (m wide : ℕ) → m ≤ wide → wide ≤ length xs → drop m (take wide xs) ++ drop wide xs ≡ drop m xs
behind xs m wide inside room =
    let long : length (take wide xs) ≡ wide = grind (arith, common_steps) in
    sym (drop-append-le m (take wide xs) (drop wide xs) (omega (arith, long)))
    ∙ ap (λ (l : List ℕ). drop m l) (take-append-drop wide xs)

-- with a part of its beginning written, and the rest as it is
part_of_part : (xs w : List ℕ) (x k wide : ℕ) → x + k ≤ wide → wide ≤ length xs
    → (take x (take wide xs) ++ (w ++ drop k (drop x (take wide xs)))) ++ drop wide xs ≡ take x xs ++ (w ++ drop k (drop x xs))
part_of_part xs w x k wide inside room =
    append_assoc (take x (take wide xs)) (w ++ drop k (drop x (take wide xs))) (drop wide xs)
    ∙ ap (λ (l : List ℕ). take x (take wide xs) ++ l) (append_assoc w (drop k (drop x (take wide xs))) (drop wide xs))
    ∙ ap (λ (l : List ℕ). take x (take wide xs) ++ (w ++ (l ++ drop wide xs))) (drop-drop k x (take wide xs))
    ∙ ap (λ (l : List ℕ). take x (take wide xs) ++ (w ++ l)) (behind xs (x + k) wide inside room)
    ∙ ap₂ (λ (a b : List ℕ). a ++ (w ++ b)) (take-take x wide xs (omega arith)) (sym (drop-drop k x xs))

row_long : (row w : List ℕ) (x k wide : ℕ) → length row ≡ wide → x + k ≤ wide → length w ≡ k → length (take x row ++ (w ++ drop k (drop x row))) ≡ wide
row_long row w x k wide long inside e = grind (arith, common_steps)

-- a part written over a row is written over the whole list
within_row : (xs row w : List ℕ) (i x k wide : ℕ) → row ≡ take wide (drop i xs) → i + wide ≤ length xs → x + k ≤ wide → length w ≡ k
    → over xs i (take x row ++ (w ++ drop k (drop x row))) ≡ over xs (i + x) w
within_row xs row w i x k wide is_row room inside long =
    let rest : List ℕ = drop i xs in
    let rest_long : wide ≤ length rest = omega (arith, length-drop i xs) in
    let row' : List ℕ = take wide rest in
    let row_wide : length row' ≡ wide = grind (arith, common_steps) in
    let new : List ℕ = take x row' ++ (w ++ drop k (drop x row')) in
    let new_long : length new ≡ wide = row_long row' w x k wide row_wide inside long in
    ap (λ (r : List ℕ). over xs i (take x r ++ (w ++ drop k (drop x r)))) is_row
    ∙ ap (λ (m : ℕ). take i xs ++ (new ++ drop m rest)) new_long
    ∙ ap (λ (l : List ℕ). take i xs ++ l) (part_of_part rest w x k wide inside rest_long)
    ∙ sym (append_assoc (take i xs) (take x rest) (w ++ drop k (drop x rest)))
    ∙ ap₂ (λ (a b : List ℕ). a ++ (w ++ b)) (sym (take-add i x xs)) (ap (λ (l : List ℕ). drop k l) (drop-drop x i xs))
    ∙ ap (λ (m : ℕ). take (i + x) xs ++ (w ++ drop m (drop (i + x) xs))) (sym long)

-- one row more of a block is written
pub write_next : (start p : Plane) (x y n j k k' : ℕ) (block part row : List ℕ) → y + j < p.height → x + n ≤ p.width → p.width ≡ start.width → k ≡ n → k' ≡ n → j * n + n ≤ length block
    → row ≡ row_of p (y + j) → part ≡ take k' (drop (j * n) block)
    → samples_of p ≡ with_rows start.width x y n block j (samples_of start)
    → samples_of (with_row p (y + j) (take x row ++ (part ++ drop k (drop x row)))) ≡ with_rows start.width x y n block (j + 1) (samples_of start)
write_next start p x y n j k k' block part row inside wide same at_k at_k' room is_row is_part done =
    let part_is : part ≡ take n (drop (j * n) block) = is_part ∙ ap (λ (m : ℕ). take m (drop (j * n) block)) at_k' in
    let part_long : length part ≡ n = ap (λ (l : List ℕ). length l) part_is ∙ part_length block (j * n) n room in
    let wide_row : length row ≡ p.width = ap (λ (l : List ℕ). length l) is_row ∙ row_length p (y + j) inside in
    let new : List ℕ = take x row ++ (part ++ drop n (drop x row)) in
    let new_long : length new ≡ p.width = row_long row part x n p.width wide_row wide part_long in
    let room' : (y + j) * p.width + p.width ≤ length (samples_of p) = omega (arith, samples_length p, before_end (y + j) p.height p.width inside) in
    ap (λ (m : ℕ). samples_of (with_row p (y + j) (take x row ++ (part ++ drop m (drop x row))))) at_k
    ∙ samples_written p (y + j) new inside new_long
    ∙ within_row (samples_of p) row part ((y + j) * p.width) x n p.width (is_row ∙ row_of_samples p (y + j) inside) room' wide part_long
    ∙ ap₂ (λ (l : List ℕ) (v : ℕ). over l ((y + j) * v + x) part) done same
    ∙ ap (λ (l : List ℕ). over (with_rows start.width x y n block j (samples_of start)) ((y + j) * start.width + x) l) part_is
    ∙ sym (written_more start.width x y n block (samples_of start) j)
  where
    part_length : (xs : List ℕ) (from n : ℕ) → from + n ≤ length xs → length (take n (drop from xs)) ≡ n
    part_length xs from n room = grind (arith, common_steps)

-- one row more of a block is read from a list
pub list_next : (wide x y n j from to k : ℕ) (samples out part : List ℕ) → j < n → length out ≡ n * n → from ≡ (y + j) * wide + x → from + n ≤ length samples → to ≡ n → k ≡ n
    → part ≡ take to (drop from samples) → take (j * n) out ≡ block_rows wide x y n samples j
    → (length (take (j * n) out ++ (part ++ drop k (drop (j * n) out))) ≡ n * n) × (take ((j + 1) * n) (take (j * n) out ++ (part ++ drop k (drop (j * n) out))) ≡ block_rows wide x y n samples (j + 1))
list_next wide x y n j from to k samples out part more long at_from room at_to at_k is_part done =
    let end : j * n + n ≤ n * n = before_end j n n more in
    let next : (j + 1) * n ≡ j * n + k = grind arith in
    let part_is : part ≡ take n (drop ((y + j) * wide + x) samples) = is_part ∙ ap₂ (λ (m i : ℕ). take m (drop i samples)) at_to at_from in
    let part_long : length part ≡ k = ap (λ (l : List ℕ). length l) part_is ∙ long_part samples ((y + j) * wide + x) n (omega arith) ∙ sym at_k in (
      grind (arith, common_steps),
      ap (λ (m : ℕ). take m (take (j * n) out ++ (part ++ drop k (drop (j * n) out)))) next
          ∙ row_read out part (block_rows wide x y n samples j) (j * n) k (omega arith) part_long done
          ∙ ap (λ (l : List ℕ). block_rows wide x y n samples j ++ l) part_is
          ∙ sym (rows_more wide x y n samples j),
    )
  where
    long_part : (xs : List ℕ) (from n : ℕ) → from + n ≤ length xs → length (take n (drop from xs)) ≡ n
    long_part xs from n room = grind (arith, common_steps)
