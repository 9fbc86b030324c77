use Rattle.spec_headers.proofs.HeadLaws.{reads_sequence, reads_picture, reads_idr_slice}
use Rattle.spec_headers.proofs.heads_are_read_back.Goals as goal

pub returns-clause-sequence_set : goal.returns-clause-sequence_set
returns-clause-sequence_set c = reads_sequence

pub returns-clause-picture_set : goal.returns-clause-picture_set
returns-clause-picture_set c = reads_picture

pub returns-clause-slice : goal.returns-clause-slice
returns-clause-slice c = reads_idr_slice
