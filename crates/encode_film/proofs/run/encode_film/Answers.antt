use Rattle.std.proofs.Common.{ap, Err}
use Rattle.enc_session.specs.Sessions.{settings_of}
use Rattle.encode_film.specs.Outputs.{named}
use Rattle.encode_film.proofs.Running.{begun, closed, fitted, head_read, head_stopped, session_refused, settles, stopped, unopened}
use Rattle.encode_film.proofs.run.encode_film.Goals as goal

pub returns-in-Err-read_head : goal.returns-in-Err-read_head
returns-in-Err-read_head g c =
    let seen = g.S.Studio.seen in
    head_stopped (named c.args.input.now c.args.outputs.now) c.args.settings.now (seen c.args.studio.now) (seen c.open_in.new.self) (seen c.read_head.new.studio) c.head_end.result c.in-Ok.ensures
    c.in-Err-read_head.fault c.head_end.ensures (λ e. c.in-Err-read_head.ensures.read (ap (λ f. Err f) e)) c.in-Err-read_head.ensures.fault

pub returns-in-Err-open : goal.returns-in-Err-open
returns-in-Err-open g c =
    let seen = g.S.Studio.seen in
    let names = named c.args.input.now c.args.outputs.now in
    let head = c.in-Ok-read_head.head in
    let t = c.in-Ok-read_head.ensures.ok in
    let old = seen c.args.studio.now in
    let read = head_read names head t.0 old (seen c.open_in.new.self) (seen c.read_head.new.studio) c.in-Ok-read_head.ensures.allowed c.in-Ok.ensures t.1 in
    session_refused names c.args.settings.now head t.0 old (seen c.read_head.new.studio) c.in-Err-open.end c.open_end.result read c.requires.early c.open_end.ensures (λ fault e. c.in-Err-open.ensures.fault fault (ap (λ x. Err x) e))

pub returns-in-Err-open_outputs : goal.returns-in-Err-open_outputs
returns-in-Err-open_outputs g c =
    let seen = g.S.Studio.seen in
    let names = named c.args.input.now c.args.outputs.now in
    let head = c.in-Ok-read_head.head in
    let t = c.in-Ok-read_head.ensures.ok in
    let old = seen c.args.studio.now in
    let f = settings_of c.in-Ok-open.session in
    let read = head_read names head t.0 old (seen c.open_in.new.self) (seen c.read_head.new.studio) c.in-Ok-read_head.ensures.allowed c.in-Ok.ensures t.1 in
    let fits = fitted names c.args.settings.now head f t.0 old (seen c.read_head.new.studio) read c.requires.early c.in-Ok-open.ensures.settings in
    unopened names c.args.settings.now head f t.0 old (seen c.read_head.new.studio) (seen c.open_outputs.new.studio) c.in-Err-open_outputs.end fits (c.in-Err-open_outputs.ensures c.args.input.now)

pub encode_pictures-requires-clause-settled : goal.encode_pictures-requires-clause-settled
encode_pictures-requires-clause-settled g c κs within = settles c.args.settings.now c.in-Ok-read_head.head (settings_of c.in-Ok-open.session) c.in-Ok-open.ensures.settings

pub returns-in-Err-encode_pictures : goal.returns-in-Err-encode_pictures
returns-in-Err-encode_pictures g c =
    let seen = g.S.Studio.seen in
    let names = named c.args.input.now c.args.outputs.now in
    let head = c.in-Ok-read_head.head in
    let t = c.in-Ok-read_head.ensures.ok in
    let old = seen c.args.studio.now in
    let f = settings_of c.in-Ok-open.session in
    let read = head_read names head t.0 old (seen c.open_in.new.self) (seen c.read_head.new.studio) c.in-Ok-read_head.ensures.allowed c.in-Ok.ensures t.1 in
    let fits = fitted names c.args.settings.now head f t.0 old (seen c.read_head.new.studio) read c.requires.early c.in-Ok-open.ensures.settings in
    let b = begun names c.args.settings.now head f t.0 old (seen c.read_head.new.studio) (seen c.open_outputs.new.studio) c.requires.range fits (c.in-Ok-open_outputs.ensures c.args.input.now) in
    stopped names c.args.settings.now head f t.0 old (seen c.open_outputs.new.studio) (seen c.encode_pictures.new.studio) c.in-Err-encode_pictures.end b c.in-Err-encode_pictures.ensures

pub returns : goal.returns
returns g c =
    let seen = g.S.Studio.seen in
    let names = named c.args.input.now c.args.outputs.now in
    let head = c.in-Ok-read_head.head in
    let t = c.in-Ok-read_head.ensures.ok in
    let old = seen c.args.studio.now in
    let f = settings_of c.in-Ok-open.session in
    let read = head_read names head t.0 old (seen c.open_in.new.self) (seen c.read_head.new.studio) c.in-Ok-read_head.ensures.allowed c.in-Ok.ensures t.1 in
    let fits = fitted names c.args.settings.now head f t.0 old (seen c.read_head.new.studio) read c.requires.early c.in-Ok-open.ensures.settings in
    let b = begun names c.args.settings.now head f t.0 old (seen c.read_head.new.studio) (seen c.open_outputs.new.studio) c.requires.range fits (c.in-Ok-open_outputs.ensures c.args.input.now) in
    closed names c.args.settings.now head f t.0 old (seen c.open_outputs.new.studio) (seen c.encode_pictures.new.studio) (seen c.close_outputs.new.studio) c.close_outputs.result b c.in-Ok-encode_pictures.ensures c.close_outputs.ensures
