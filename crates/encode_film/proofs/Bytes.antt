-- The samples of pictures are bytes.
use Rattle.std.proofs.Common.{ℕ, zero, suc, ◌+◌, ◌*◌, ◌/◌, ◌≡◌, List, drop, ap, ap₂, ◌∙◌, subst, arith, mul_comm}
use Rattle.std.specs.List.{All}
use Rattle.std.proofs.lemmas.List.Elements.{All-nil, All-append, All-take, All-drop}
use Rattle.spec_bits.specs.Bits.{IsByte}
use Rattle.spec_film.specs.declared.FilmHead.{FilmHead}
use Rattle.spec_stream.specs.Pictures.{IsPicture}
use Rattle.spec_film.specs.Padding.{padded_size}
use Rattle.picture_planes.specs.declared.plane.Plane.{Plane}
use Rattle.picture_planes.specs.declared.picture.Picture.{Picture}
use Rattle.picture_planes.specs.Samples.{row_of, rows_to, samples_of}
use Rattle.picture_planes.specs.Pictures.{planes_of}
use Rattle.picture_planes.proofs.SampleLaws.{samples_length}
use Rattle.y4m_film.specs.Sizes.{FitsHead}

rows_bytes : (p : Plane) (n : ℕ) → All IsByte p.bytes.items → All IsByte (rows_to p n)
unfolding rows_to
rows_bytes p zero small = All-nil IsByte
rows_bytes p (suc n) small =
    All-append IsByte (rows_to p n) (row_of p n) (rows_bytes p n small) (All-take IsByte _ _ (All-drop IsByte _ p.bytes.items small))

-- a plane's samples are bytes where its buffer is
pub samples_bytes : (p : Plane) (w : ℕ) (all : List ℕ) → all ≡ drop (0 * w + 0) p.bytes.items → All IsByte all → All IsByte (samples_of p)
unfolding samples_of
samples_bytes p w all is small = rows_bytes p p.height (subst (All IsByte) (is ∙ ap (λ n. drop n p.bytes.items) (none w)) small)
  where
    none : (w : ℕ) → 0 * w + 0 ≡ 0
    none w = omega arith

-- such a picture is a picture of the film
pub picture_is : (h : FilmHead) (p : Picture) → FitsHead h p → All IsByte (samples_of p.y) → All IsByte (samples_of p.cb) → All IsByte (samples_of p.cr) → IsPicture h (planes_of p)
picture_is h p fits luma cb cr = record {
  luma = samples_length p.y ∙ ap₂ (λ a b. a * b) fits.luma_height fits.luma_width ∙ mul_comm (padded_size h.height) (padded_size h.width);
  cb = samples_length p.cb ∙ ap₂ (λ a b. a * b) fits.cb_height fits.cb_width ∙ mul_comm (padded_size h.height / 2) (padded_size h.width / 2);
  cr = samples_length p.cr ∙ ap₂ (λ a b. a * b) fits.cr_height fits.cr_width ∙ mul_comm (padded_size h.height / 2) (padded_size h.width / 2);
  luma_bytes = luma;
  cb_bytes = cb;
  cr_bytes = cr;
}
