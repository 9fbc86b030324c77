use Rattle.std.proofs.Common.{Some, None, ◌∙◌, subst, arith, refl, false}
use Rattle.bit_strings.specs.BitText.{BitText}
use Rattle.enc_session.specs.Trying.{asked_by, Asked, PlainLeft}
use Rattle.enc_session.proofs.Coding.{asked_still}
use Rattle.enc_session.proofs.Trying.{none_picked, plain_picked, coarsest_picked}
use Rattle.enc_session.proofs.trials.pick_trial.Goals as goal

pub returns-then-len-have-clause-left : goal.returns-then-len-have-clause-left
returns-then-len-have-clause-left g c =
    none_picked (asked_by c.args.coder.now c.args.job.now) (asked_by c.args.coder.now c.args.flat.now) c.args.start c.args.have c.whole_coarsest.result c.args.unit.now c.args.unit.now c.whole_coarsest.new.coder.reference
    c.requires.twins (omega (arith, c.if-len-have.true, c.len.ensures.len)) c.whole_coarsest.ensures.value

pub returns-in-Some-clause-left : goal.returns-in-Some-clause-left
returns-in-Some-clause-left g c =
    let a : Asked = asked_by c.args.coder.now c.args.job.now in
    plain_picked a c.args.start c.args.have c.in-Some.qp c.args.unit.now c.pick_plain.new.unit c.pick_plain.new.coder.reference
    (subst (λ (u : BitText). PlainLeft a c.args.start u c.pick_plain.new.unit c.pick_plain.new.coder.reference (Some c.in-Some.qp)) c.limit.ensures c.in-Some.ensures.left)
    (record { qp = c.in-Some.qp; coarsest = false }) refl refl

pub returns-clause-left : goal.returns-clause-left
returns-clause-left g c =
    let a : Asked = asked_by c.args.coder.now c.args.job.now in
    coarsest_picked a (asked_by c.pick_plain.new.coder c.args.flat.now) c.args.start c.args.have c.args.unit.now c.pick_plain.new.unit c.pick_coarsest.new.unit c.pick_coarsest.new.coder.reference c.pick_plain.new.coder.reference c.pick_coarsest.result
    (asked_still c.args.coder.now c.pick_plain.new.coder c.args.flat.now c.pick_plain.ensures.same ∙ c.requires.twins)
    (subst (λ (u : BitText). PlainLeft a c.args.start u c.pick_plain.new.unit c.pick_plain.new.coder.reference None) c.limit.ensures c.in_default.ensures.left)
    c.pick_coarsest.ensures.left
