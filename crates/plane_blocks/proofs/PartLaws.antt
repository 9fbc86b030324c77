-- Rows of blocks, read.
use Rattle.std.proofs.Common.{◌≡◌, ◌≤◌, ◌<◌, ◌+◌, ◌*◌, ◌++◌, ℕ, List, [], length, add-one, take, drop, refl, sym, ap, ap₂, ◌∙◌, arith}
use Rattle.std.proofs.lemmas.Grind.{common_steps}
use Rattle.picture_planes.specs.declared.plane.Plane.{Plane}
use Rattle.picture_planes.specs.Samples.{row_of, samples_of}
use Rattle.picture_planes.proofs.SampleLaws.{row_length, part_of_samples, before_end}
use Rattle.spec_reconstruction.specs.Parts.{block_rows}

-- one row more of what was read
pub row_read : (out part rows : List ℕ) (start n : ℕ) → start + n ≤ length out → length part ≡ n → take start out ≡ rows
    → take (start + n) (take start out ++ (part ++ drop n (drop start out))) ≡ rows ++ part
row_read out part rows start n room e done = grind (arith, common_steps)

pub rows_more : (wide x y n : ℕ) (plane : List ℕ) (j : ℕ) → block_rows wide x y n plane (j + 1) ≡ block_rows wide x y n plane j ++ take n (drop ((y + j) * wide + x) plane)
unfolding block_rows
rows_more wide x y n plane j = rw add-one refl

pub rows_none : (wide x y n : ℕ) (plane : List ℕ) → [] ≡ block_rows wide x y n plane 0
unfolding block_rows
rows_none wide x y n plane = refl

-- one row more of a block is read
pub read_next : (p : Plane) (x y n j from k : ℕ) (out part row : List ℕ) → y + j < p.height → x + n ≤ p.width → j < n → from ≡ j * n → k ≡ n → length out ≡ n * n
    → row ≡ row_of p (y + j) → part ≡ take k (drop x row) → take from out ≡ block_rows p.width x y n (samples_of p) j
    → (length (take from out ++ (part ++ drop k (drop from out))) ≡ n * n) × (take ((j + 1) * n) (take from out ++ (part ++ drop k (drop from out))) ≡ block_rows p.width x y n (samples_of p) (j + 1))
read_next p x y n j from k out part row inside wide more at_from at_k long is_row is_part done =
    let end : j * n + n ≤ n * n = before_end j n n more in
    let next : (j + 1) * n ≡ from + k = grind arith in
    let part_is : part ≡ take n (drop ((y + j) * p.width + x) (samples_of p)) =
    is_part ∙ ap₂ (λ (m : ℕ) (r : List ℕ). take m (drop x r)) at_k is_row ∙ part_of_samples p (y + j) x n inside wide in
    let wide_row : length row ≡ p.width = ap (λ (l : List ℕ). length l) is_row ∙ row_length p (y + j) inside in
    let part_long : length part ≡ k = grind (arith, common_steps) in (
      grind (arith, common_steps),
      ap (λ (m : ℕ). take m (take from out ++ (part ++ drop k (drop from out)))) next
          ∙ row_read out part (block_rows p.width x y n (samples_of p) j) from k (omega arith) part_long done
          ∙ ap (λ (l : List ℕ). block_rows p.width x y n (samples_of p) j ++ l) part_is
          ∙ sym (rows_more p.width x y n (samples_of p) j),
    )
