use Rattle.std.proofs.Common.{ℕ, ◌+◌, ◌≤◌, Ok, Err, refl, ap, sym, subst, ◌∙◌, arith, map, take}
use Rattle.spec_film.specs.declared.FilmHead.{FilmHead}
use Rattle.picture_planes.specs.Pictures.{planes_of}
use Rattle.spec_plan.specs.Plan.{next_number}
use Rattle.spec_coding.specs.Encoding.{State}
use Rattle.spec_session.specs.Settings.{SessionSettings}
use Rattle.spec_session.specs.Groups.{Place}
use Rattle.enc_session.specs.declared.engine.Engine.{Engine}
use Rattle.enc_session.specs.Ready.{settings_in, state_in, place_in, Keeps}
use Rattle.enc_session.specs.Sessions.{settings_of, state_of, place_of, slots_of, HasSlots}
use Rattle.encode_film.specs.Groups.{AllCoded}
use Rattle.encode_film.specs.Reading.{GroupTaken}
use Rattle.encode_film.proofs.Going.{Going, going_none, heads_cut}
use Rattle.encode_film.proofs.Stepping.{number_few, none_came, group_coded, last_coded, group_stopped, read_stopped, film_over}
use Rattle.encode_film.proofs.Wanting.{full_is, coded_at, places_on, is_full}
use Rattle.encode_film.proofs.groups.encode_groups.Goals as goal

pub returns-in-Err : goal.returns-in-Err
returns-in-Err g c =
    let seen = g.S.Studio.seen in
    heads_cut c.args.head.now (settings_of c.args.session.now) (seen c.args.studio.now) (seen c.put_heads.new.studio) (state_of c.args.session.now) c.in-Err.end c.in-Err.ensures

pub loop-place-init : goal.loop-place-init
loop-place-init g c =
    let seen = g.S.Studio.seen in
    record {
      going = going_none c.args.head.now (settings_of c.args.session.now) (seen c.args.studio.now) (seen c.put_heads.new.studio) (state_of c.args.session.now) c.requires.state c.in-Ok.ensures;
      settings = refl;
      stands = c.requires.place;
      ready = c.requires.ready;
      slots = c.requires.slots;
      few = omega arith;
      numbers = omega arith;
    }

pub returns-in-Err-read_group : goal.returns-in-Err-read_group
returns-in-Err-read_group g c =
    let seen = g.S.Studio.seen in
    let f = settings_of c.args.session.now in
    let inv = c.loop-place.invariant in
    let full = full_is f (place_of c.loop-place.session) c.args.settings.now.bframes c.args.settings.now.idr c.loop-place.place c.wanted-most.result (ap (λ (x : SessionSettings). x.bframes) c.requires.settled) (ap (λ (x : SessionSettings). x.idr) c.requires.settled)
    (ap (λ (p : Place). p.display) inv.stands) c.wanted-most.ensures.some.0 c.wanted-most.ensures.size in
    read_stopped c.args.head.now f c.loop-place.place c.loop-place.number c.wanted-most.result (seen c.args.studio.now) (seen c.loop-place.studio) (seen c.read_group.new.studio) (state_of c.loop-place.session) (state_of c.read_group.new.session)
    (place_of c.loop-place.session) (slots_of c.read_group.new.session) c.in-Err-read_group.end inv.going inv.stands full c.in-Err-read_group.ensures.read

pub returns-then-got-eq0 : goal.returns-then-got-eq0
returns-then-got-eq0 g c =
    let seen = g.S.Studio.seen in
    let head = c.args.head.now in
    let f = settings_of c.args.session.now in
    let inv = c.loop-place.invariant in
    let place = c.loop-place.place in
    let most = c.wanted-most.result in
    let got = c.in-Ok-read_group.got in
    let slots = map planes_of (slots_of c.read_group.new.session) in
    let t = subst (λ (k : ℕ). GroupTaken head place most k (take got slots) (seen c.loop-place.studio) (seen c.read_group.new.studio)) c.if-got-eq0.true c.in-Ok-read_group.ensures.read in
    subst (λ (s : State). AllCoded head f (seen c.args.studio.now) (seen c.read_group.new.studio) s) (sym (ap state_in c.read_group.ensures.engine))
    (none_came head f place c.loop-place.number most (take got slots) (seen c.args.studio.now) (seen c.loop-place.studio) (seen c.read_group.new.studio) (state_of c.loop-place.session) inv.going c.wanted-most.ensures.some.0 t)

pub code_group-requires-clause-idr : goal.code_group-requires-clause-idr
code_group-requires-clause-idr g c κs within = ap (λ (x : SessionSettings). x.idr) (ap settings_in c.read_group.ensures.engine ∙ c.loop-place.invariant.settings ∙ c.requires.settled)

pub code_group-requires-clause-display : goal.code_group-requires-clause-display
code_group-requires-clause-display g c κs within = ap (λ (p : Place). p.display) (ap place_in c.read_group.ensures.engine ∙ c.loop-place.invariant.stands)

pub code_group-requires-clause-number : goal.code_group-requires-clause-number
code_group-requires-clause-number g c κs within = ap (λ (p : Place). p.number) (ap place_in c.read_group.ensures.engine ∙ c.loop-place.invariant.stands)

pub code_group-requires-clause-ready : goal.code_group-requires-clause-ready
code_group-requires-clause-ready g c κs within = subst (λ (x : Engine). Keeps x) (sym c.read_group.ensures.engine) c.loop-place.invariant.ready

pub code_group-requires-clause-slots : goal.code_group-requires-clause-slots
code_group-requires-clause-slots g c κs within =
    subst (λ (h : FilmHead). HasSlots h (slots_of c.read_group.new.session)) (sym (ap (λ (x : SessionSettings). x.head) (ap settings_in c.read_group.ensures.engine ∙ c.loop-place.invariant.settings ∙ c.requires.settled))) c.read_group.ensures.slots

pub code_group-requires-clause-some : goal.code_group-requires-clause-some
code_group-requires-clause-some g c κs within = let some = c.if-got-eq0.false in omega (arith, some)

pub code_group-requires-clause-most : goal.code_group-requires-clause-most
code_group-requires-clause-most g c κs within =
    let same = ap settings_in c.read_group.ensures.engine ∙ c.loop-place.invariant.settings ∙ c.requires.settled in
    let full = full_is (settings_of c.read_group.new.session) (place_of c.read_group.new.session) c.args.settings.now.bframes c.args.settings.now.idr c.loop-place.place c.wanted-most.result (ap (λ (x : SessionSettings). x.bframes) same) (ap (λ (x : SessionSettings). x.idr) same)
    (ap (λ (p : Place). p.display) (ap place_in c.read_group.ensures.engine ∙ c.loop-place.invariant.stands)) c.wanted-most.ensures.some.0 c.wanted-most.ensures.size in
    subst (λ (n : ℕ). c.in-Ok-read_group.got ≤ n) (sym full) c.in-Ok-read_group.ensures.read.within

pub code_group-requires-clause-five : goal.code_group-requires-clause-five
code_group-requires-clause-five g c κs within = let a = c.in-Ok-read_group.ensures.read.within in let b = c.wanted-most.ensures.some.1 in omega (arith, a, b)

pub code_group-requires-clause-few : goal.code_group-requires-clause-few
code_group-requires-clause-few g c κs within = c.in-Ok-read_group.ensures.read.few

pub returns-in-Err-code_group : goal.returns-in-Err-code_group
returns-in-Err-code_group g c =
    let seen = g.S.Studio.seen in
    let head = c.args.head.now in
    let f = settings_of c.args.session.now in
    let inv = c.loop-place.invariant in
    let place = c.loop-place.place in
    let most = c.wanted-most.result in
    let got = c.in-Ok-read_group.got in
    let some = c.if-got-eq0.false in
    let read = c.read_group.new.session in
    let qs = take got (map planes_of (slots_of read)) in
    let at = ap place_in c.read_group.ensures.engine ∙ inv.stands in
    let full = full_is f (place_of read) c.args.settings.now.bframes c.args.settings.now.idr place most (ap (λ (x : SessionSettings). x.bframes) c.requires.settled) (ap (λ (x : SessionSettings). x.idr) c.requires.settled)
    (ap (λ (p : Place). p.display) at) c.wanted-most.ensures.some.0 c.wanted-most.ensures.size in
    let coded = coded_at f (settings_of read) (state_of c.loop-place.session) (state_of read) (state_of c.code_group.new.session) (place_of read) qs (seen c.read_group.new.studio) (seen c.code_group.new.studio) (Err c.in-Err-code_group.end)
    (ap settings_in c.read_group.ensures.engine ∙ inv.settings) (ap state_in c.read_group.ensures.engine) c.in-Err-code_group.ensures.group in
    group_stopped head f place c.loop-place.number most got qs (seen c.args.studio.now) (seen c.loop-place.studio) (seen c.read_group.new.studio) (seen c.code_group.new.studio) (state_of c.loop-place.session) (state_of c.code_group.new.session) (state_of c.code_group.new.session)
    (place_of read) c.in-Err-code_group.end inv.going c.in-Ok-read_group.ensures.read at (omega (arith, some)) full coded

pub returns-then-got-most : goal.returns-then-got-most
returns-then-got-most g c =
    let seen = g.S.Studio.seen in
    let head = c.args.head.now in
    let f = settings_of c.args.session.now in
    let inv = c.loop-place.invariant in
    let place = c.loop-place.place in
    let most = c.wanted-most.result in
    let got = c.in-Ok-read_group.got in
    let some = c.if-got-eq0.false in
    let read = c.read_group.new.session in
    let qs = take got (map planes_of (slots_of read)) in
    let at = ap place_in c.read_group.ensures.engine ∙ inv.stands in
    let full = full_is f (place_of read) c.args.settings.now.bframes c.args.settings.now.idr place most (ap (λ (x : SessionSettings). x.bframes) c.requires.settled) (ap (λ (x : SessionSettings). x.idr) c.requires.settled)
    (ap (λ (p : Place). p.display) at) c.wanted-most.ensures.some.0 c.wanted-most.ensures.size in
    let coded = coded_at f (settings_of read) (state_of c.loop-place.session) (state_of read) (state_of c.code_group.new.session) (place_of read) qs (seen c.read_group.new.studio) (seen c.code_group.new.studio) (Ok tt)
    (ap settings_in c.read_group.ensures.engine ∙ inv.settings) (ap state_in c.read_group.ensures.engine) c.in-Ok-code_group.ensures.group in
    last_coded head f place c.loop-place.number most got qs (seen c.args.studio.now) (seen c.loop-place.studio) (seen c.read_group.new.studio) (seen c.code_group.new.studio) (state_of c.loop-place.session) (state_of c.code_group.new.session)
    (place_of read) inv.going c.in-Ok-read_group.ensures.read at (omega (arith, some)) (subst (λ (n : ℕ). got ≤ n) (sym full) c.in-Ok-read_group.ensures.read.within) c.if-got-most.true coded

pub loop-place-preserved : goal.loop-place-preserved
loop-place-preserved g c =
    let seen = g.S.Studio.seen in
    let head = c.args.head.now in
    let f = settings_of c.args.session.now in
    let inv = c.loop-place.invariant in
    let place = c.loop-place.place in
    let number = c.loop-place.number in
    let most = c.wanted-most.result in
    let got = c.in-Ok-read_group.got in
    let read = c.read_group.new.session in
    let qs = take got (map planes_of (slots_of read)) in
    let at = ap place_in c.read_group.ensures.engine ∙ inv.stands in
    let same = ap settings_in c.read_group.ensures.engine ∙ inv.settings in
    let idr = ap (λ (x : SessionSettings). x.idr) c.requires.settled in
    let next = c.number_behind-number.result in
    let after = c.code_group.new.session in
    let full = full_is f (place_of read) c.args.settings.now.bframes c.args.settings.now.idr place most (ap (λ (x : SessionSettings). x.bframes) c.requires.settled) idr
    (ap (λ (p : Place). p.display) at) c.wanted-most.ensures.some.0 c.wanted-most.ensures.size in
    let all = is_full got most c.in-Ok-read_group.ensures.read.within c.if-got-most.false in
    let taken = subst (λ (k : ℕ). GroupTaken head place most k qs (seen c.loop-place.studio) (seen c.read_group.new.studio)) all c.in-Ok-read_group.ensures.read in
    let coded = coded_at f (settings_of read) (state_of c.loop-place.session) (state_of read) (state_of after) (place_of read) qs (seen c.read_group.new.studio) (seen c.code_group.new.studio) (Ok tt)
    same (ap state_in c.read_group.ensures.engine) c.in-Ok-code_group.ensures.group in
    let going = subst (λ (n : ℕ). Going head f (place + most) n (seen c.args.studio.now) (seen c.code_group.new.studio) (state_of after)) (ap (λ (k : ℕ). next_number k place number) idr ∙ sym c.number_behind-number.ensures)
    (group_coded head f place number most qs (seen c.args.studio.now) (seen c.loop-place.studio) (seen c.read_group.new.studio) (seen c.code_group.new.studio) (state_of c.loop-place.session) (state_of after) (place_of read) inv.going taken at c.wanted-most.ensures.some.0 full coded) in
    record {
      going = going;
      settings = c.code_group.ensures.settings ∙ same;
      stands = places_on (settings_of read) (place_of read) (place_of after) place number most got c.args.settings.now.idr next (ap (λ (x : SessionSettings). x.idr) (same ∙ c.requires.settled)) at all c.number_behind-number.ensures c.in-Ok-code_group.ensures.place;
      ready = c.in-Ok-code_group.ensures.ready;
      slots = subst (λ (h : FilmHead). HasSlots h (slots_of after)) (ap (λ (x : SessionSettings). x.head) (same ∙ c.requires.settled)) c.in-Ok-code_group.ensures.slots;
      few = taken.few;
      numbers = number_few head f (place + most) next c.args.settings.now.idr (seen c.args.studio.now) (seen c.code_group.new.studio) (state_of after) going idr c.requires.range.idr_least c.requires.range.idr_most;
    }

pub returns : goal.returns
returns g c =
    let seen = g.S.Studio.seen in
    let inv = c.loop-place.invariant in
    let past = c.loop-place-test.false in
    let few = inv.few in
    film_over c.args.head.now (settings_of c.args.session.now) c.loop-place.place c.loop-place.number (seen c.args.studio.now) (seen c.loop-place.studio) (seen c.end_film.new.studio) (state_of c.loop-place.session) (state_of c.end_film.new.session) c.end_film.result
    (omega (arith, past, few)) inv.going (ap state_in c.end_film.ensures.engine) c.end_film.ensures.end
