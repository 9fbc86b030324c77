use Rattle.spec_coding.proofs.Going.{encodings_decode, encodings_are_read}
use Rattle.spec_coding.proofs.encodings_decode.Goals as goal

pub returns-clause-pictures : goal.returns-clause-pictures
returns-clause-pictures bounds c = encodings_decode

pub returns-clause-slices : goal.returns-clause-slices
returns-clause-slices bounds c = encodings_are_read
