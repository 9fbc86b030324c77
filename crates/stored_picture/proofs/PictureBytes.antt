-- A picture of the film's sizes whose macroblocks are bytes is a picture of the film.
use Rattle.std.proofs.Common.{ℕ, ◌+◌, ◌*◌, ◌/◌, ◌%◌, ◌≡◌, ◌≤◌, ◌<◌, length, ap, ap₂, sym, ◌∙◌, arith}
use Rattle.std.specs.List.{All}
use Rattle.spec_bits.specs.Bits.{IsByte}
use Rattle.spec_film.specs.declared.FilmHead.{FilmHead}
use Rattle.spec_film.specs.Padding.{padded_size}
use Rattle.spec_film.specs.Films.{AllowedHead}
use Rattle.spec_stream.specs.Pictures.{IsPicture}
use Rattle.spec_stream.specs.Stored.{macroblock_samples, mbs_across, mbs_down}
use Rattle.spec_stream.proofs.PlaneLaws.{HasPlanes, planes_bytes}
use Rattle.std.proofs.Math.Nat.{mul_comm}
use Rattle.picture_planes.specs.declared.plane.Plane.{Plane}
use Rattle.picture_planes.specs.declared.picture.Picture.{Picture}
use Rattle.picture_planes.specs.Samples.{samples_of}
use Rattle.picture_planes.specs.Pictures.{planes_of}
use Rattle.picture_planes.proofs.SampleLaws.{samples_length}

-- a side of whole macroblocks
sixteen : (n : ℕ) → n * 16 ≡ 16 * n
sixteen n = omega arith

has_planes : (h : FilmHead) (p : Picture) → p.y.width ≡ padded_size h.width → p.y.height ≡ padded_size h.height → HasPlanes (mbs_across h) (mbs_down h) (planes_of p)
has_planes h p wide high =
    let w : p.y.width ≡ 16 * mbs_across h = wide ∙ sixteen (mbs_across h) in
    let v : p.y.height ≡ 16 * mbs_down h = high ∙ sixteen (mbs_down h) in
    let x = p.widths in
    let y = p.heights in
    let bw : p.cb.width ≡ 8 * mbs_across h = let a = x.0 in omega arith in
    let rw' : p.cr.width ≡ 8 * mbs_across h = let a = x.1 in omega arith in
    let bh : p.cb.height ≡ 8 * mbs_down h = let a = y.0 in omega arith in
    let rh : p.cr.height ≡ 8 * mbs_down h = let a = y.1 in omega arith in
    record {
      luma = area p.y w v;
      cb = area p.cb bw bh;
      cr = area p.cr rw' rh;
    }
  where
    area : (q : Plane) {a b : ℕ} → q.width ≡ a → q.height ≡ b → length (samples_of q) ≡ a * b
    area q {a} {b} e f = samples_length q ∙ ap (λ n. n * q.width) f ∙ ap (λ n. b * n) e ∙ mul_comm b a

pub picture_of : (h : FilmHead) (p : Picture) → AllowedHead h → p.y.width ≡ padded_size h.width → p.y.height ≡ padded_size h.height
    → ((k : ℕ) → k < mbs_across h * mbs_down h → All IsByte (macroblock_samples (mbs_across h) (planes_of p) k)) → IsPicture h (planes_of p)
picture_of h p allowed wide high bytes =
    let sizes = has_planes h p wide high in
    let least = allowed.width_least in
    let some : 0 < mbs_across h = across_some h.width allowed.width_least in
    let small = planes_bytes (mbs_across h) (mbs_down h) (planes_of p) some sizes bytes in
    record {
      luma = sizes.luma ∙ ap₂ (λ a b. a * b) (sym (sixteen (mbs_across h))) (sym (sixteen (mbs_down h)));
      cb = sizes.cb ∙ halves;
      cr = sizes.cr ∙ halves;
      luma_bytes = small.0;
      cb_bytes = small.1;
      cr_bytes = small.2;
    }
  where
    across_some : (n : ℕ) → 16 ≤ n → 0 < (n + 15) / 16
    across_some n h = omega arith

    eight : (n : ℕ) → 8 * n ≡ n * 16 / 2
    eight n = omega arith

    halves : 8 * mbs_across h * (8 * mbs_down h) ≡ padded_size h.width / 2 * (padded_size h.height / 2)
    halves = ap₂ (λ a b. a * b) (eight (mbs_across h)) (eight (mbs_down h))
