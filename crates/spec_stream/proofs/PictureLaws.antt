-- Pictures of a film, cut into macroblocks.
use Rattle.std.proofs.Common.{ℕ, zero, suc, ◌+◌, ◌*◌, ◌/◌, ◌%◌, ◌≡◌, ◌≤◌, ◌<◌, List, [], ◌∷◌, ◌++◌, length, take, drop, ap, ap₂, sym, ◌∙◌, arith, length-append}
use Rattle.std.specs.List.{flat_map, range_with_len, All}
use Rattle.std.proofs.lemmas.List.FromFn.{length-map-range_with_len}
use Rattle.std.proofs.lemmas.List.Elements.{All-nil, All-cons, All-append, All-take, All-drop, All-map}
use Rattle.spec_bits.specs.Bits.{IsByte}
use Rattle.spec_film.specs.declared.FilmHead.{FilmHead}
use Rattle.spec_film.specs.Films.{Planes, AllowedHead}
use Rattle.spec_stream.specs.Stored.{block_at, macroblock_samples, macroblocks_of, mbs_across, mbs_down}
use Rattle.spec_stream.specs.Samples.{picture_from}
use Rattle.spec_film.specs.Cropping.{cropped, shown}
use Rattle.spec_stream.specs.Pictures.{IsPicture}
use Rattle.spec_stream.proofs.PcmLaws.{IsMacroblock}
use Rattle.spec_stream.proofs.PlaneLaws.{HasPlanes, block_long, picture_is}

-- samples of a plane of bytes are bytes
block_bytes : (width columns rows x y : ℕ) (samples : List ℕ) → All IsByte samples → All IsByte (block_at width columns rows x y samples)
unfolding block_at
block_bytes width columns rows x y samples small = go (range_with_len 0 rows)
  where
    row : ℕ → List ℕ
    row j = take columns (drop ((y + j) * width + x) samples)

    go : (js : List ℕ) → All IsByte (flat_map row js)
    go [] = All-nil IsByte
    go (j ∷ js) = All-append IsByte (row j) (flat_map row js) (All-take IsByte columns _ (All-drop IsByte ((y + j) * width + x) samples small)) (go js)

-- the samples of a macroblock of a picture
macroblock_is : (across down k : ℕ) (p : Planes) → 0 < across → HasPlanes across down p → All IsByte p.luma → All IsByte p.cb → All IsByte p.cr → k < across * down
    → IsMacroblock (macroblock_samples across p k)
unfolding macroblock_samples
macroblock_is across down k p wide sizes luma cb cr below = record {
  size = length-append y (u ++ v) ∙ ap₂ (λ a b. a + b) (block_long 16 across down k p.luma wide sizes.luma below)
      (length-append u v ∙ ap₂ (λ a b. a + b) (block_long 8 across down k p.cb wide sizes.cb below) (block_long 8 across down k p.cr wide sizes.cr below));
  bytes = All-append IsByte y (u ++ v) (block_bytes _ _ _ _ _ p.luma luma) (All-append IsByte u v (block_bytes _ _ _ _ _ p.cb cb) (block_bytes _ _ _ _ _ p.cr cr));
}
  where
    y : List ℕ
    y = block_at (16 * across) 16 16 (16 * (k % across)) (16 * (k / across)) p.luma

    u : List ℕ
    u = block_at (8 * across) 8 8 (8 * (k % across)) (8 * (k / across)) p.cb

    v : List ℕ
    v = block_at (8 * across) 8 8 (8 * (k % across)) (8 * (k / across)) p.cr

-- the numbers of a range lie in it
all_below : (P : ℕ → Type 0) (n a : ℕ) → ((k : ℕ) → k < a + n → P k) → All P (range_with_len a n)
all_below P zero a each = All-nil P
all_below P (suc n) a each = All-cons P a (range_with_len (a + 1) n) (each a (omega arith)) (all_below P n (a + 1) (λ k below. each k (omega arith)))

pub macroblocks_are : (across down : ℕ) (p : Planes) → 0 < across → HasPlanes across down p → All IsByte p.luma → All IsByte p.cb → All IsByte p.cr → All IsMacroblock (macroblocks_of across down p)
unfolding macroblocks_of
macroblocks_are across down p wide sizes luma cb cr =
    All-map IsMacroblock (macroblock_samples across p) (range_with_len 0 (across * down))
    (all_below (λ k. IsMacroblock (macroblock_samples across p k)) (across * down) 0 (λ k below. macroblock_is across down k p wide sizes luma cb cr (omega arith)))

pub length-macroblocks_of : (across down : ℕ) (p : Planes) → length (macroblocks_of across down p) ≡ across * down
unfolding macroblocks_of
length-macroblocks_of across down p = length-map-range_with_len (macroblock_samples across p) 0 (across * down)

pub across_some : (h : FilmHead) → AllowedHead h → 0 < mbs_across h
across_some h allowed = some h.width allowed.width_least
  where
    some : (n : ℕ) → 16 ≤ n → 0 < (n + 15) / 16
    some n e = omega arith

pub down_some : (h : FilmHead) → AllowedHead h → 0 < mbs_down h
down_some h allowed = some h.height allowed.height_least
  where
    some : (n : ℕ) → 16 ≤ n → 0 < (n + 15) / 16
    some n e = omega arith

pub has_planes : (h : FilmHead) (p : Planes) → IsPicture h p → HasPlanes (mbs_across h) (mbs_down h) p
has_planes h p is = record {
  luma = is.luma ∙ ap₂ (λ a b. a * b) (whole (mbs_across h)) (whole (mbs_down h));
  cb = is.cb ∙ ap₂ (λ a b. a * b) (half (mbs_across h)) (half (mbs_down h));
  cr = is.cr ∙ ap₂ (λ a b. a * b) (half (mbs_across h)) (half (mbs_down h));
}
  where
    whole : (n : ℕ) → n * 16 ≡ 16 * n
    whole n = omega arith

    half : (n : ℕ) → n * 16 / 2 ≡ 8 * n
    half n = omega arith

-- the picture that a decoder makes of a picture's macroblocks is that picture, and it shows what is shown of it
pub picture_back : (h : FilmHead) (p : Planes) → AllowedHead h → IsPicture h p
    → cropped (mbs_across h) h.width h.height (picture_from (mbs_across h) (mbs_down h) (macroblocks_of (mbs_across h) (mbs_down h) p)) ≡ shown h p
picture_back h p allowed is =
    ap (λ q. cropped (mbs_across h) h.width h.height q) (picture_is (mbs_across h) (mbs_down h) p (across_some h allowed) (has_planes h p is))
