use Rattle.bin_writer.specs.Coding.{seen}
use Rattle.bin_writer.proofs.Steps.{codes_context}
use Rattle.bin_writer.proofs.code_bin.Goals as goal

pub returns : goal.returns
returns c =
    codes_context c.bin.result (seen c.args.coder.now c.args.contexts.now) c.args.context c.args.bit c.bin.new.self c.state.result.now c.bin.new.ctx c.requires.ready c.requires.below c.requires.has_state
    c.state.ensures.value
    (record { full = c.bin.ensures.full; ok = c.bin.ensures.ok; err = c.bin.ensures.err })
    (record { ok = c.bin.ensures.context; err = c.bin.ensures.err_context }) c.bin.ensures.known
