use Rattle.std.proofs.Common.{◌+◌, ◌∙◌, true, false, arith}
use Rattle.enc_session.specs.Sessions.{slots_of}
use Rattle.encode_film.proofs.Loading.{loaded_more, loaded_over, loaded_fault, answer_is}
use Rattle.encode_film.proofs.reading.read_group.Goals as goal

pub loop-got-preserved : goal.loop-got-preserved
loop-got-preserved g c =
    let seen = g.S.Studio.seen in
    let head = c.args.head.now in
    let got = c.loop-got.got in
    let below = c.loop-got-test.true in
    let five = c.requires.most in
    let read = answer_is head (c.args.place + got) got (slots_of c.loop-got.session) (slots_of c.read_slot.new.session) (seen c.loop-got.studio) (seen c.read_slot.new.studio) c.in-Ok-true.field-0 true c.in-Ok-true.field-0-test c.in-Ok-true.ensures.read in
    record {
      engine = c.read_slot.ensures.engine ∙ c.loop-got.invariant.engine;
      slots = read.fits;
      loaded = loaded_more head c.args.place got (slots_of c.loop-got.session) (slots_of c.read_slot.new.session) (seen c.args.studio.now) (seen c.loop-got.studio) (seen c.read_slot.new.studio) c.loop-got.invariant.slots (omega (arith, below, five)) c.loop-got.invariant.loaded read;
    }

pub returns-in-Ok-false-clause-read : goal.returns-in-Ok-false-clause-read
returns-in-Ok-false-clause-read g c =
    let seen = g.S.Studio.seen in
    let head = c.args.head.now in
    let got = c.loop-got.got in
    let read = answer_is head (c.args.place + got) got (slots_of c.loop-got.session) (slots_of c.read_slot.new.session) (seen c.loop-got.studio) (seen c.read_slot.new.studio) c.in-Ok-false.field-0 false c.in-Ok-false.field-0-test c.in-Ok-false.ensures.read in
    loaded_over head c.args.place c.args.most got (slots_of c.loop-got.session) (slots_of c.read_slot.new.session) (seen c.args.studio.now) (seen c.loop-got.studio) (seen c.read_slot.new.studio) c.loop-got-test.true c.loop-got.invariant.loaded read

pub returns-in-Err-clause-read : goal.returns-in-Err-clause-read
returns-in-Err-clause-read g c =
    let seen = g.S.Studio.seen in
    loaded_fault c.args.head.now c.args.place c.args.most c.loop-got.got (slots_of c.loop-got.session) (slots_of c.read_slot.new.session) (seen c.args.studio.now) (seen c.loop-got.studio) (seen c.read_slot.new.studio) c.in-Err.end c.loop-got-test.true
    c.loop-got.invariant.loaded c.in-Err.ensures.read
