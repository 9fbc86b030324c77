use Rattle.std.proofs.Common.{◌+◌, ◌≤◌, ℕ, sym, subst, map, length, Ok, Err}
use Rattle.picture_planes.specs.Pictures.{planes_of}
use Rattle.spec_session.specs.Encodings.{encoding_from}
use Rattle.spec_session.specs.Groups.{full_at, group_steps}
use Rattle.enc_session.specs.Sessions.{settings_of, state_of, place_of, slots_of}
use Rattle.std.proofs.Common.{take}
use Rattle.encode_film.proofs.Grouped.{group_is, ended_so, went_on_so, place_so}
use Rattle.encode_film.proofs.groups.code_group.Goals as goal

pub code_group-requires-clause-some : goal.code_group-requires-clause-some
code_group-requires-clause-some g c κs within =
    let f = settings_of c.args.session.now in
    let p = place_of c.args.session.now in
    let is = group_is f p c.group-steps.result.items c.as_slice.result.now c.args.got c.args.settings.now.idr c.args.place c.args.number c.group-steps.ensures c.as_slice.ensures.value c.requires.idr c.requires.display c.requires.number c.requires.some c.requires.most in
    subst (λ (n : ℕ). 1 ≤ n) (sym is.0) c.requires.some

pub code_group-requires-clause-most : goal.code_group-requires-clause-most
code_group-requires-clause-most g c κs within =
    let f = settings_of c.args.session.now in
    let p = place_of c.args.session.now in
    let is = group_is f p c.group-steps.result.items c.as_slice.result.now c.args.got c.args.settings.now.idr c.args.place c.args.number c.group-steps.ensures c.as_slice.ensures.value c.requires.idr c.requires.display c.requires.number c.requires.some c.requires.most in
    subst (λ (n : ℕ). n ≤ full_at f p) (sym is.0) c.requires.most

pub code_group-requires-clause-steps : goal.code_group-requires-clause-steps
code_group-requires-clause-steps g c κs within =
    let f = settings_of c.args.session.now in
    let p = place_of c.args.session.now in
    let is = group_is f p c.group-steps.result.items c.as_slice.result.now c.args.got c.args.settings.now.idr c.args.place c.args.number c.group-steps.ensures c.as_slice.ensures.value c.requires.idr c.requires.display c.requires.number c.requires.some c.requires.most in
    is.1

pub code_group-requires-clause-few : goal.code_group-requires-clause-few
code_group-requires-clause-few g c κs within =
    let f = settings_of c.args.session.now in
    let p = place_of c.args.session.now in
    let is = group_is f p c.group-steps.result.items c.as_slice.result.now c.args.got c.args.settings.now.idr c.args.place c.args.number c.group-steps.ensures c.as_slice.ensures.value c.requires.idr c.requires.display c.requires.number c.requires.some c.requires.most in
    subst (λ (d : ℕ). d + length c.as_slice.result.now ≤ 1000000) (sym c.requires.display) (subst (λ (n : ℕ). c.args.place + n ≤ 1000000) (sym is.0) c.requires.few)

pub returns-in-Ok-clause-group : goal.returns-in-Ok-clause-group
returns-in-Ok-clause-group g c =
    let seen = g.S.Studio.seen in
    let f = settings_of c.args.session.now in
    let p = place_of c.args.session.now in
    let is = group_is f p c.group-steps.result.items c.as_slice.result.now c.args.got c.args.settings.now.idr c.args.place c.args.number c.group-steps.ensures c.as_slice.ensures.value c.requires.idr c.requires.display c.requires.number c.requires.some c.requires.most in
    went_on_so f (state_of c.args.session.now) p (map planes_of (slots_of c.args.session.now)) (length c.as_slice.result.now) c.args.got (seen c.args.studio.now) (seen c.code_group.new.studio) (state_of c.code_group.new.self) (Ok tt) is.0 c.in-Ok.ensures.group

pub returns-in-Ok-clause-place : goal.returns-in-Ok-clause-place
returns-in-Ok-clause-place g c =
    let f = settings_of c.args.session.now in
    let p = place_of c.args.session.now in
    let is = group_is f p c.group-steps.result.items c.as_slice.result.now c.args.got c.args.settings.now.idr c.args.place c.args.number c.group-steps.ensures c.as_slice.ensures.value c.requires.idr c.requires.display c.requires.number c.requires.some c.requires.most in
    place_so f p (place_of c.code_group.new.self) (length c.as_slice.result.now) c.args.got is.0 c.in-Ok.ensures.next

pub returns-in-Err-clause-group : goal.returns-in-Err-clause-group
returns-in-Err-clause-group g c =
    let seen = g.S.Studio.seen in
    let f = settings_of c.args.session.now in
    let p = place_of c.args.session.now in
    let s0 = state_of c.args.session.now in
    let pictures = map planes_of (slots_of c.args.session.now) in
    let is = group_is f p c.group-steps.result.items c.as_slice.result.now c.args.got c.args.settings.now.idr c.args.place c.args.number c.group-steps.ensures c.as_slice.ensures.value c.requires.idr c.requires.display c.requires.number c.requires.some c.requires.most in
    ended_so f s0 (encoding_from f s0 (group_steps f p (take c.args.got pictures))) (seen c.args.studio.now) (seen c.code_group.new.studio) (state_of c.code_group.new.self) c.in-Err.end c.group_end.result c.group_end.ensures
    (went_on_so f s0 p pictures (length c.as_slice.result.now) c.args.got (seen c.args.studio.now) (seen c.code_group.new.studio) (state_of c.code_group.new.self) (Err c.in-Err.end) is.0 c.in-Err.ensures.group)
