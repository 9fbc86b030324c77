use Rattle.std.proofs.Common.{ap, Err}
use Rattle.store_film.specs.Leaving.{Leaves}
use Rattle.store_film.proofs.Storing.{handed_on}
use Rattle.store_film.proofs.Running.{head_read, head_begun, stored, stopped, unclosed, head_stopped}
use Rattle.store_film.proofs.run.store.Goals as goal

pub returns-in-Err-read_head : goal.returns-in-Err-read_head
returns-in-Err-read_head g c =
    let seen = g.S.Studio.seen in
    head_stopped c.args.input.now c.args.output.now (seen c.args.studio.now) (seen c.open_in.new.self) (seen c.read_head.new.studio) c.head_end.result c.in-Ok.ensures
    c.in-Err-read_head.fault c.head_end.ensures (λ e. c.in-Err-read_head.ensures.read (ap (λ f. Err f) e)) c.in-Err-read_head.ensures.fault

pub returns-in_default : goal.returns-in_default
returns-in_default g c =
    let seen = g.S.Studio.seen in
    let t = c.in-Ok-read_head.ensures.ok in
    head_read c.args.input.now c.in-Ok-read_head.head t.0 (seen c.args.studio.now) (seen c.open_in.new.self) (seen c.read_head.new.studio) c.in-Ok.ensures t.1

pub returns-in_default-with_room : goal.returns-in_default-with_room
returns-in_default-with_room g c =
    let seen = g.S.Studio.seen in
    let t = c.in-Ok-read_head.ensures.ok in
    head_read c.args.input.now c.in-Ok-read_head.head t.0 (seen c.args.studio.now) (seen c.open_in.new.self) (seen c.read_head.new.studio) c.in-Ok.ensures t.1

pub returns-in_default-with_room-2 : goal.returns-in_default-with_room-2
returns-in_default-with_room-2 g c =
    let seen = g.S.Studio.seen in
    let t = c.in-Ok-read_head.ensures.ok in
    head_read c.args.input.now c.in-Ok-read_head.head t.0 (seen c.args.studio.now) (seen c.open_in.new.self) (seen c.read_head.new.studio) c.in-Ok.ensures t.1

pub returns-in-Err-open_out : goal.returns-in-Err-open_out
returns-in-Err-open_out g c =
    let seen = g.S.Studio.seen in
    let t = c.in-Ok-read_head.ensures.ok in
    let read = head_read c.args.input.now c.in-Ok-read_head.head t.0 (seen c.args.studio.now) (seen c.open_in.new.self) (seen c.read_head.new.studio) c.in-Ok.ensures t.1 in
    (seen c.read_head.new.studio, read, c.in-Err-open_out.ensures)

pub returns-in_err-store_pictures : goal.returns-in_err-store_pictures
returns-in_err-store_pictures g c =
    let seen = g.S.Studio.seen in
    let input = c.args.input.now in
    let output = c.args.output.now in
    let old = seen c.args.studio.now in
    let head = c.in-Ok-read_head.head in
    let t = c.in-Ok-read_head.ensures.ok in
    let b = head_begun input output head t.0 old (seen c.open_in.new.self) (seen c.read_head.new.studio) (seen c.open_out.new.self) c.in-Ok.ensures t.1 c.in-Ok-open_out.ensures in
    handed_on (Leaves input output old (seen c.store_pictures.new.studio)) c.from_residual.result c.in_err-store_pictures.field-0.0 c.from_residual.ensures.1
    (stopped input output head t.0 old (seen c.open_out.new.self) (seen c.store_pictures.new.studio) b c.in_err-store_pictures.field-0.0 c.in_err-store_pictures.ensures)

pub returns-in-Ok-close_out : goal.returns-in-Ok-close_out
returns-in-Ok-close_out g c =
    let seen = g.S.Studio.seen in
    let input = c.args.input.now in
    let output = c.args.output.now in
    let old = seen c.args.studio.now in
    let head = c.in-Ok-read_head.head in
    let t = c.in-Ok-read_head.ensures.ok in
    let b = head_begun input output head t.0 old (seen c.open_in.new.self) (seen c.read_head.new.studio) (seen c.open_out.new.self) c.in-Ok.ensures t.1 c.in-Ok-open_out.ensures in
    stored input output head t.0 old (seen c.open_out.new.self) (seen c.store_pictures.new.studio) (seen c.close_out.new.self) c.in-Ok-read_head.ensures.allowed b c.in_ok-store_pictures.ensures c.in-Ok-close_out.ensures

pub returns : goal.returns
returns g c =
    let seen = g.S.Studio.seen in
    let input = c.args.input.now in
    let output = c.args.output.now in
    let old = seen c.args.studio.now in
    let head = c.in-Ok-read_head.head in
    let t = c.in-Ok-read_head.ensures.ok in
    let b = head_begun input output head t.0 old (seen c.open_in.new.self) (seen c.read_head.new.studio) (seen c.open_out.new.self) c.in-Ok.ensures t.1 c.in-Ok-open_out.ensures in
    unclosed input output head t.0 old (seen c.open_out.new.self) (seen c.store_pictures.new.studio) (seen c.close_out.new.self) b c.in_ok-store_pictures.ensures c.in-Err-close_out.ensures
