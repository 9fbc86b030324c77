use Rattle.std.proofs.Common.{take, drop}
use Rattle.film_maker.specs.Bands.{chroma_place}
use Rattle.film_maker.proofs.Cutting.{row_more, cut_row}
use Rattle.film_maker.proofs.pictures.push_chroma.Goals as goal

pub loop-y-preserved : goal.loop-y-preserved
loop-y-preserved c =
    row_more (λ y. take c.args.width (drop (chroma_place c.args.t y) c.args.band.now)) c.args.film.now.items c.loop-y.film.items c.extend_from_slice.new.self.items _ c.loop-y.y c.loop-y.invariant
    (cut_row (chroma_place c.args.t c.loop-y.y) c.args.width c.args.band.now) c.in_ok-extend_from_slice.ensures.items
