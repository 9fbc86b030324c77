use Rattle.std.proofs.Common.{◌≡◌, ℕ, List, length, take, map, sym, subst, ap, ap₂, ◌∙◌}
use Rattle.std.specs.Prelude.{Result}
use Rattle.std.proofs.lemmas.List.{with_items_is}
use Rattle.enc_edge.specs.declared.studio.Out.TheVariants.{Recon}
use Rattle.enc_edge.specs.Calls.{wrote}
use Rattle.enc_edge.specs.declared.studio.Place.TheVariants.{Output}
use Rattle.y4m_film.specs.Writes.{FrontWritten}
use Rattle.spec_film.specs.declared.FilmHead.{FilmHead}
use Rattle.picture_planes.specs.declared.picture.Picture.{Picture}
use Rattle.picture_planes.specs.Pictures.{planes_of}
use Rattle.spec_session.specs.Groups.{group_steps}
use Rattle.enc_session.specs.declared.ends.GroupEnd.{GroupEnd}
use Rattle.spec_coding.specs.Encoding.{State}
use Rattle.spec_session.specs.Encodings.{encoding_from}
use Rattle.enc_session.specs.declared.engine.Engine.{Engine}
use Rattle.enc_session.specs.Grouped.{StepsLeft}
use Rattle.enc_session.specs.Left.{GroupLeft}
use Rattle.enc_session.specs.Ready.{state_in}
use Rattle.enc_session.specs.Sessions.{settings_of, state_of, place_of, slots_of}
use Rattle.enc_session.specs.Showing.{coded_planes, newest_planes, shown_text}
use Rattle.enc_session.proofs.Leaving.{cut_group, cut_is, group_cut, group_shown, left_by, not_cut}
use Rattle.enc_session.proofs.Passing.{if_both, if_ok, keeps_on, place_is}
use Rattle.enc_session.proofs.session.Session.code_group.Goals as goal

pub returns-in-Some-clause-group : goal.returns-in-Some-clause-group
returns-in-Some-clause-group g c =
    let steps = group_steps (settings_of c.args.self.now) (place_of c.args.self.now) (take (length c.args.steps.now) (map planes_of (slots_of c.args.self.now))) in
    let left = left_by (settings_of c.args.self.now) (state_of c.args.self.now) (place_of c.args.self.now) (length c.args.steps.now) c.as_mut_slice-slots.result.now (slots_of c.args.self.now) (g.S.Studio.seen c.args.studio.now) (g.S.Studio.seen c.code_steps-count.new.studio)
    (state_in c.code_steps-count.new.engine) (map planes_of c.code_steps-count.new.slots) (newest_planes c.code_steps-count.new.engine.store) c.code_steps-count.result.0 c.code_steps-count.result.1 c.as_mut_slice-slots.ensures.value c.code_steps-count.ensures.left in
    let end = cut_is c.code_steps-count.result.1 c.in-Some.out (sym c.failed_output.ensures ∙ c.in-Some.is) in
    cut_group (settings_of c.args.self.now) (state_of c.args.self.now) steps (g.S.Studio.seen c.args.studio.now) (g.S.Studio.seen c.code_steps-count.new.studio)
    (state_in c.code_steps-count.new.engine) (map planes_of c.code_steps-count.new.slots) (newest_planes c.code_steps-count.new.engine.store) c.code_steps-count.result.0 c.in-Some.out
    (subst (λ (r : Result (Unit {0}) GroupEnd). StepsLeft (settings_of c.args.self.now) (state_of c.args.self.now) steps (g.S.Studio.seen c.args.studio.now) (g.S.Studio.seen c.code_steps-count.new.studio)
    (state_in c.code_steps-count.new.engine) (map planes_of c.code_steps-count.new.slots) (newest_planes c.code_steps-count.new.engine.store) c.code_steps-count.result.0 r)
    end left)

pub returns-in-Err-clause-group : goal.returns-in-Err-clause-group
returns-in-Err-clause-group g c =
    let steps = group_steps (settings_of c.args.self.now) (place_of c.args.self.now) (take (length c.args.steps.now) (map planes_of (slots_of c.args.self.now))) in
    let left = left_by (settings_of c.args.self.now) (state_of c.args.self.now) (place_of c.args.self.now) (length c.args.steps.now) c.as_mut_slice-slots.result.now (slots_of c.args.self.now) (g.S.Studio.seen c.args.studio.now) (g.S.Studio.seen c.code_steps-count.new.studio)
    (state_in c.code_steps-count.new.engine) (map planes_of c.code_steps-count.new.slots) (newest_planes c.code_steps-count.new.engine.store) c.code_steps-count.result.0 c.code_steps-count.result.1 c.as_mut_slice-slots.ensures.value c.code_steps-count.ensures.left in
    let slots = c.as_slice-shown.ensures.value ∙ with_items_is c.args.self.now.slots c.code_steps-count.new.slots (c.code_steps-count.ensures.slots ∙ c.as_mut_slice-slots.ensures.len) in
    let text = ap₂ (λ (h : FilmHead) (ps : List Picture). shown_text h (coded_planes c.code_steps-count.result.0 (map planes_of ps) (newest_planes c.code_steps-count.new.engine.store))) c.code_steps-count.ensures.same.head slots in
    group_cut (settings_of c.args.self.now) (state_of c.args.self.now) steps (g.S.Studio.seen c.args.studio.now) (g.S.Studio.seen c.code_steps-count.new.studio) (g.S.Studio.seen c.show_group.new.studio)
    (state_in c.code_steps-count.new.engine) (state_in c.code_steps-count.new.engine) (map planes_of c.code_steps-count.new.slots) (newest_planes c.code_steps-count.new.engine.store) c.code_steps-count.result.0 c.code_steps-count.result.1 left
    (subst (λ (xs : List ℕ). FrontWritten Recon xs (g.S.Studio.seen c.code_steps-count.new.studio) (g.S.Studio.seen c.show_group.new.studio)) text c.in-Err.ensures)
    (not_cut c.code_steps-count.result.1 c.failed_output.result c.failed_output.ensures c.in_default.not-Some)

pub returns-clause-group : goal.returns-clause-group
returns-clause-group g c =
    let steps = group_steps (settings_of c.args.self.now) (place_of c.args.self.now) (take (length c.args.steps.now) (map planes_of (slots_of c.args.self.now))) in
    let left = left_by (settings_of c.args.self.now) (state_of c.args.self.now) (place_of c.args.self.now) (length c.args.steps.now) c.as_mut_slice-slots.result.now (slots_of c.args.self.now) (g.S.Studio.seen c.args.studio.now) (g.S.Studio.seen c.code_steps-count.new.studio)
    (state_in c.code_steps-count.new.engine) (map planes_of c.code_steps-count.new.slots) (newest_planes c.code_steps-count.new.engine.store) c.code_steps-count.result.0 c.code_steps-count.result.1 c.as_mut_slice-slots.ensures.value c.code_steps-count.ensures.left in
    let slots = c.as_slice-shown.ensures.value ∙ with_items_is c.args.self.now.slots c.code_steps-count.new.slots (c.code_steps-count.ensures.slots ∙ c.as_mut_slice-slots.ensures.len) in
    let text = ap₂ (λ (h : FilmHead) (ps : List Picture). shown_text h (coded_planes c.code_steps-count.result.0 (map planes_of ps) (newest_planes c.code_steps-count.new.engine.store))) c.code_steps-count.ensures.same.head slots in
    subst (λ (s : State). GroupLeft (settings_of c.args.self.now) (state_of c.args.self.now) (encoding_from (settings_of c.args.self.now) (state_of c.args.self.now) steps) (g.S.Studio.seen c.args.studio.now) (g.S.Studio.seen c.show_group.new.studio) s c.code_steps-count.result.1)
    (sym (ap (λ (e : Engine). state_in e) c.pass.ensures))
    (group_shown (settings_of c.args.self.now) (state_of c.args.self.now) steps (g.S.Studio.seen c.args.studio.now) (g.S.Studio.seen c.code_steps-count.new.studio) (g.S.Studio.seen c.show_group.new.studio)
    (state_in c.code_steps-count.new.engine) (map planes_of c.code_steps-count.new.slots) (newest_planes c.code_steps-count.new.engine.store) c.code_steps-count.result.0 c.code_steps-count.result.1 left
    (subst (λ (xs : List ℕ). g.S.Studio.seen c.show_group.new.studio ≡ wrote (Output Recon) xs (g.S.Studio.seen c.code_steps-count.new.studio)) text c.in-Ok.ensures)
    (not_cut c.code_steps-count.result.1 c.failed_output.result c.failed_output.ensures c.in_default.not-Some))

pub returns-clause-next : goal.returns-clause-next
returns-clause-next g c = if_ok c.code_steps-count.result.1 (place_is c.args.self.now.engine c.code_steps-count.new.engine c.pass.new.self c.args.steps.now c.requires.steps c.code_steps-count.ensures.same c.pass.ensures)

pub returns-clause-ready : goal.returns-clause-ready
returns-clause-ready g c =
    if_both c.code_steps-count.result.1 c.code_steps-count.ensures.holds c.code_steps-count.ensures.gone
    (λ holds gone. keeps_on c.args.self.now.engine c.code_steps-count.new.engine c.pass.new.self c.args.steps.now c.requires.ready c.requires.steps holds gone c.code_steps-count.ensures.same c.pass.ensures)
