use Rattle.std.proofs.Common.{Ok, ap}
use Rattle.picture_planes.specs.Pictures.{planes_of}
use Rattle.encode_film.proofs.Taking.{past_the_last}
use Rattle.encode_film.proofs.reading.read_picture.Goals as goal

pub returns-then-number-eq-MOST_PICTURES-clause-read : goal.returns-then-number-eq-MOST_PICTURES-clause-read
returns-then-number-eq-MOST_PICTURES-clause-read g c =
    let seen = g.S.Studio.seen in
    let t = c.in-Ok-true.ensures.picture (ap (λ b. Ok b) c.in-Ok-true.field-0-test) in
    past_the_last c.args.head.now c.args.number t.0 (planes_of c.next_picture.new.picture) (seen c.args.studio.now) (seen c.next_picture.new.studio) c.if-number-eq-MOST_PICTURES.true t.1
