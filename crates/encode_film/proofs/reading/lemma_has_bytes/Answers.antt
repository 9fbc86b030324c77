use Rattle.picture_planes.specs.Margins.{buffer_width}
use Rattle.encode_film.proofs.Bytes.{samples_bytes}
use Rattle.encode_film.proofs.reading.lemma_has_bytes.Goals as goal

pub returns : goal.returns
returns c = samples_bytes c.args.plane.now (buffer_width c.args.plane.now) c.rows_from.result.now c.rows_from.ensures.list c.lemma_are_bytes.ensures
