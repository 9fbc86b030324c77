-- The samples of a plane that begins with a lower row of a larger one, where they stand in that one.
use Rattle.std.proofs.Common.{◌≡◌, ◌≤◌, ◌<◌, ◌+◌, ◌-◌, ◌*◌, ◌++◌, ℕ, Bool, true, false, List, map, get_or, replicate, refl, sym, ap, ◌∙◌, arith}
use Rattle.std.specs.List.{range_with_len}
use Rattle.std.proofs.lemmas.List.{length-replicate, get_or-append_right}
use Rattle.std.proofs.lemmas.List.FromFn.{length-map-range_with_len, get_or-map-range_with_len}
use Rattle.picture_planes.specs.declared.plane.Plane.{Plane}
use Rattle.picture_planes.specs.Samples.{samples_of}
use Rattle.spec_intra.specs.Block.{line}
use Rattle.spec_intra.specs.declared.Avail.{Avail}
use Rattle.spec_intra.specs.Near.{line_there, plane_sample, above_at, left_at, corner_at, neighbours4, neighbours8, neighbours16, neighbours_chroma}
use Rattle.plane_blocks.specs.Reach.{Reachable as ReachableIn, Readable as ReadableIn}
use Rattle.plane_blocks.proofs.Gathered.{neighbours4_are, neighbours8_are, neighbours16_are, neighbours_chroma_are}
use Rattle.intra_coder.specs.Reach.{Reachable, Readable}
use Rattle.residual_coder.specs.Stripes.{samples_from}
use Rattle.residual_coder.proofs.BlockLaws.{is_line}
use Rattle.residual_coder.proofs.StripeLaws.{place_below}

sample_behind : (m k : ℕ) (xs : List ℕ) → get_or (replicate {A = ℕ} m 0 ++ xs) (m + k) 0 ≡ get_or xs k 0
sample_behind m k xs =
    let e : m + k - m ≡ k = omega arith in
    get_or-append_right (replicate {A = ℕ} m 0) xs m (m + k) 0 (length-replicate {A = ℕ} m 0) (omega arith)
    ∙ ap (λ (i : ℕ). get_or xs i 0) e

-- a sample of the plane is that of the larger one
pub sample_from : (p : Plane) (top x y : ℕ) → top ≤ y → plane_sample p.width (samples_of p) x (y - top) ≡ plane_sample p.width (samples_from top p) x y
unfolding samples_from
sample_from p top x y h =
    sym (sample_behind (top * p.width) ((y - top) * p.width + x) (samples_of p))
    ∙ ap (λ (i : ℕ). get_or (replicate {A = ℕ} (top * p.width) 0 ++ samples_of p) i 0) (sym (place_below top y p.width x h))

same_line : (n : ℕ) (f g : ℕ → ℕ) → ((k : ℕ) → f k ≡ g k) → line n f ≡ line n g
unfolding line
same_line n f g same =
    is_line n g (map f (range_with_len 0 n)) (length-map-range_with_len f 0 n) (λ k h. get_or-map-range_with_len f 0 n k k 0 h (omega arith) ∙ same k)

module _ (p : Plane) (top : ℕ) where
  -- and so are the lines of neighbours of a block, where only rows of the plane are there
  above_from : (n x y : ℕ) (there : Bool) → (there ≡ true → top < y)
      → above_at (plane_sample p.width (samples_of p)) n x (y - top) there ≡ above_at (plane_sample p.width (samples_from top p)) n x y there
  unfolding line_there
  above_from n x y false h = refl
  above_from n x y true h =
      let later : top < y = h refl in
      let row : y - top - 1 ≡ y - 1 - top = omega arith in
      same_line n (λ k. plane_sample p.width (samples_of p) (x + k) (y - top - 1)) (λ k. plane_sample p.width (samples_from top p) (x + k) (y - 1))
      (λ k. ap (λ (r : ℕ). plane_sample p.width (samples_of p) (x + k) r) row ∙ sample_from p top (x + k) (y - 1) (omega arith))

  left_from : (n x y : ℕ) (there : Bool) → top ≤ y
      → left_at (plane_sample p.width (samples_of p)) n x (y - top) there ≡ left_at (plane_sample p.width (samples_from top p)) n x y there
  unfolding line_there
  left_from n x y false h = refl
  left_from n x y true h =
      same_line n (λ k. plane_sample p.width (samples_of p) (x - 1) (y - top + k)) (λ k. plane_sample p.width (samples_from top p) (x - 1) (y + k))
      (λ k. ap (λ (r : ℕ). plane_sample p.width (samples_of p) (x - 1) r) (row k) ∙ sample_from p top (x - 1) (y + k) (omega arith))
    where
      row : (k : ℕ) → y - top + k ≡ y + k - top
      row k = omega arith

  corner_from : (x y : ℕ) (there : Bool) → (there ≡ true → top < y)
      → corner_at (plane_sample p.width (samples_of p)) x (y - top) there ≡ corner_at (plane_sample p.width (samples_from top p)) x y there
  corner_from x y false h = refl
  corner_from x y true h =
      let later : top < y = h refl in
      let row : y - top - 1 ≡ y - 1 - top = omega arith in
      ap (λ (r : ℕ). plane_sample p.width (samples_of p) (x - 1) r) row ∙ sample_from p top (x - 1) (y - 1) (omega arith)

  -- a block that is reached in the larger plane is reached in the plane, that many rows further up
  pub reachable_in : (n : ℕ) (avail : Avail) (x y : ℕ) → Reachable n top p avail x y → ReachableIn n p avail x (y - top)
  reachable_in n avail x y r = record {
    columns = r.columns;
    rows = (let b = r.begins in let k = r.rows in omega arith);
    left = r.left;
    above = λ h. let k = r.above h in omega arith;
    corner_left = r.corner_left;
    corner_above = λ h. let k = r.corner_above h in omega arith;
  }

  pub readable_in : (n : ℕ) (avail : Avail) (x y : ℕ) → Readable n top p avail x y → ReadableIn n p avail x (y - top)
  readable_in n avail x y r = record {
    reachable = reachable_in n avail x y r.reachable;
    beyond = r.beyond;
    beyond_above = λ h. let k = r.beyond_above h in omega arith;
  }

  -- and its neighbours there are those in the larger plane
  pub near4_from : (avail : Avail) (x y : ℕ) → Readable 4 top p avail x y
      → neighbours4 (plane_sample p.width (samples_of p)) avail x (y - top) ≡ neighbours4 (plane_sample p.width (samples_from top p)) avail x y
  unfolding neighbours4
  near4_from avail x y r =
      neighbours4_are (plane_sample p.width (samples_from top p)) avail x y _ _ _ _ _
      (above_from 4 x y avail.above r.reachable.above) (above_from 4 (x + 4) y avail.above_right r.beyond_above) refl
      (left_from 4 x y avail.left r.reachable.begins) (corner_from x y avail.corner r.reachable.corner_above)

  pub near8_from : (avail : Avail) (x y : ℕ) → Readable 8 top p avail x y
      → neighbours8 (plane_sample p.width (samples_of p)) avail x (y - top) ≡ neighbours8 (plane_sample p.width (samples_from top p)) avail x y
  unfolding neighbours8
  near8_from avail x y r =
      neighbours8_are (plane_sample p.width (samples_from top p)) avail x y _ _ _ _ _
      (above_from 8 x y avail.above r.reachable.above) (above_from 8 (x + 8) y avail.above_right r.beyond_above) refl
      (left_from 8 x y avail.left r.reachable.begins) (corner_from x y avail.corner r.reachable.corner_above)

  pub near16_from : (avail : Avail) (x y : ℕ) → Reachable 16 top p avail x y
      → neighbours16 (plane_sample p.width (samples_of p)) avail x (y - top) ≡ neighbours16 (plane_sample p.width (samples_from top p)) avail x y
  unfolding neighbours16
  near16_from avail x y r =
      neighbours16_are (plane_sample p.width (samples_from top p)) avail x y _ _ _
      (above_from 16 x y avail.above r.above) (left_from 16 x y avail.left r.begins) (corner_from x y avail.corner r.corner_above)

  pub near_chroma_from : (avail : Avail) (x y : ℕ) → Reachable 8 top p avail x y
      → neighbours_chroma (plane_sample p.width (samples_of p)) avail x (y - top) ≡ neighbours_chroma (plane_sample p.width (samples_from top p)) avail x y
  unfolding neighbours_chroma
  near_chroma_from avail x y r =
      neighbours_chroma_are (plane_sample p.width (samples_from top p)) avail x y _ _ _
      (above_from 8 x y avail.above r.above) (left_from 8 x y avail.left r.begins) (corner_from x y avail.corner r.corner_above)
