use Rattle.bin_writer.specs.Coding.{seen}
use Rattle.bin_writer.proofs.Steps.{codes_bypass, codes_no_end}
use Rattle.bin_writer.proofs.code_one.Goals as goal

pub returns-in-1000 : goal.returns-in-1000
returns-in-1000 c = codes_bypass (seen c.args.coder.now c.args.contexts.now) c.args.bin c.code_bypass.new.coder c.in-1000.is c.requires.ready c.code_bypass.ensures

pub returns-in-276 : goal.returns-in-276
returns-in-276 c = codes_no_end (seen c.args.coder.now c.args.contexts.now) c.args.bin c.code_no_end.new.coder c.in-276.is c.requires.codable c.requires.ready c.code_no_end.ensures
