use Rattle.std.proofs.Common.{◌≡◌, ◌++◌, ◌/◌, ◌∙◌, ap, subst, arith}
use Rattle.film_maker.specs.Bands.{IsBand, rows_cut, luma_place, chroma_place}
use Rattle.film_maker.specs.Made.{noise_of}
use Rattle.film_maker.proofs.Cutting.{picture_more, pictures_all}
use Rattle.film_maker.proofs.pictures.push_pictures.Goals as goal

pub loop-t-preserved : goal.loop-t-preserved
loop-t-preserved c =
    c.in_ok-push_chroma-2.ensures
    ∙ ap (λ bytes. bytes ++ rows_cut (chroma_place c.loop-t.t) (c.args.width / 2) (c.args.height / 2) c.cr_band-cr.result)
    (c.in_ok-push_chroma.ensures ∙ ap (λ bytes. bytes ++ rows_cut (chroma_place c.loop-t.t) (c.args.width / 2) (c.args.height / 2) c.cb_band-cb.result)
    (c.in_ok-push_luma.ensures ∙ ap (λ bytes. bytes ++ rows_cut (luma_place c.loop-t.t) c.args.width c.args.height c.luma_band-luma.result) c.in_ok-extend_from_slice.ensures.items))
    ∙ picture_more (noise_of c.args.seed) c.luma_band-luma.result c.cb_band-cb.result c.cr_band-cr.result c.args.film.now.items c.loop-t.film.items c.args.width c.args.height c.loop-t.t
    (subst (λ noise. IsBand noise c.luma_band-luma.result) c.noise-noise.ensures c.luma_band-luma.ensures) c.cb_band-cb.ensures c.cr_band-cr.ensures c.requires.width c.loop-t.invariant

pub returns : goal.returns
returns c =
    let whole : c.args.count ≡ c.loop-t.t = omega (arith, c.loop-t-test.false, c.loop-t.auto.t-end) in
    rw whole (c.loop-t.invariant ∙ pictures_all (noise_of c.args.seed) c.args.film.now.items c.args.width c.args.height c.loop-t.t)
