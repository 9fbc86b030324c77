use Rattle.encode_cli.proofs.Workers.{encoded_alike, tried_alike}
use Rattle.encode_cli.proofs.laws.workers_settle_nothing_written.Goals as goal

pub returns : goal.returns
returns c = record { encoded = encoded_alike; tried = tried_alike }
