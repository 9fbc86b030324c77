use Rattle.spec_session.specs.Encodings.{reorders}
use Rattle.enc_session.specs.Ready.{settings_in}
use Rattle.enc_session.proofs.Begun.{delays_are}
use Rattle.enc_session.proofs.engine.Engine.begin.Goals as goal

pub begin_unit-requires-clause-delays : goal.begin_unit-requires-clause-delays
begin_unit-requires-clause-delays c =
    delays_are c.args.self.now c.args.step.now c.delays_of-delays.result.initial c.delays_of-delays.result.removal c.delays_of-delays.result.output (reorders (settings_in c.args.self.now))
    c.requires.holds c.requires.few c.requires.display c.delays_of-delays.ensures.initial c.delays_of-delays.ensures.removal c.delays_of-delays.ensures.output
