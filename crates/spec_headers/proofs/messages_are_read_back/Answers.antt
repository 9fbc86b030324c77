use Rattle.spec_headers.proofs.MessageLaws.{reads_delays, filler_is_read}
use Rattle.spec_headers.proofs.messages_are_read_back.Goals as goal

pub returns-clause-messages : goal.returns-clause-messages
returns-clause-messages c = reads_delays

pub returns-clause-filler : goal.returns-clause-filler
returns-clause-filler c = filler_is_read
