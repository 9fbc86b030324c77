use Rattle.bit_strings.proofs.Buffer.{zeros_are}
use Rattle.bit_strings.proofs.bit_buf.zeros_before.Goals as goal

pub returns-clause-few : goal.returns-clause-few
returns-clause-few c = (zeros_are c.args.code c.requires.low c.requires.high).few

pub returns-clause-from : goal.returns-clause-from
returns-clause-from c = (zeros_are c.args.code c.requires.low c.requires.high).from

pub returns-clause-to : goal.returns-clause-to
returns-clause-to c = (zeros_are c.args.code c.requires.low c.requires.high).to
