use Rattle.enc_session.proofs.Coding.{for_still, asked_still, coder_still, plans_still}
use Rattle.enc_session.proofs.trials.try_plain.Goals as goal

pub returns-clause-job : goal.returns-clause-job
returns-clause-job g c = for_still c.args.coder.now c.code.new.self c.args.job.now (coder_still c.args.coder.now c.code.new.self c.code.ensures.others) c.requires.job

pub returns-clause-planned : goal.returns-clause-planned
returns-clause-planned g c = plans_still c.args.coder.now c.code.new.self c.args.job.now c.code.ensures.others c.requires.planned

pub returns-clause-asked : goal.returns-clause-asked
returns-clause-asked g c = asked_still c.args.coder.now c.code.new.self c.args.job.now (coder_still c.args.coder.now c.code.new.self c.code.ensures.others)
