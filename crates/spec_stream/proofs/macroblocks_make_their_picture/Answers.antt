use Rattle.spec_stream.proofs.PictureLaws.{picture_back}
use Rattle.spec_stream.proofs.macroblocks_make_their_picture.Goals as goal

pub returns : goal.returns
returns c = picture_back
