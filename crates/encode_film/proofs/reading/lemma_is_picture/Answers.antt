use Rattle.encode_film.proofs.Bytes.{picture_is}
use Rattle.encode_film.proofs.reading.lemma_is_picture.Goals as goal

pub returns : goal.returns
returns c = picture_is c.args.head.now c.args.picture.now c.requires c.lemma_has_bytes.ensures c.lemma_has_bytes-2.ensures c.lemma_has_bytes-3.ensures
