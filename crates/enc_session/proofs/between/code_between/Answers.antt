use Rattle.std.proofs.Common.{ℕ, ◌≤◌, ◌<◌, ◌+◌, false, length, map, get_or, Ok, Err, refl, sym, subst, ◌∙◌, arith}
use Rattle.std.specs.Prelude.{if◌then◌else◌}
use Rattle.std.proofs.lemmas.List.{length-set}
use Rattle.enc_tables.specs.declared.records.PlanStep.{PlanStep}
use Rattle.enc_tables.specs.declared.records.SliceKind.TheVariants.{I}
use Rattle.picture_coder.specs.Sizes.{HasSizes}
use Rattle.picture_planes.specs.Pictures.{planes_of}
use Rattle.ref_lists.specs.Stored.{held_of}
use Rattle.spec_film.specs.declared.FilmHead.{FilmHead}
use Rattle.spec_session.specs.Settings.{SessionSettings}
use Rattle.spec_session.specs.Encodings.{reorders}
use Rattle.enc_session.specs.Going.{IsBetween, paired}
use Rattle.enc_session.specs.Ready.{settings_in, state_in, units_in}
use Rattle.enc_session.specs.Stepping.{StepLeft}
use Rattle.enc_session.proofs.Growing.{all_at, all_set, late_at, going_none, going_on, going_failed, going_end, same_settings, same_then, same_none, map_at, no_planes, length-planes}
use Rattle.enc_session.proofs.between.code_between.Goals as goal

abbrev none : PlanStep
none = record { display = 0; kind = I; idr = false; frame_num = 0; poc = 0 }

pub loop-k-init : goal.loop-k-init
loop-k-init g c = record {
  going = going_none (settings_in c.args.engine.now) (state_in c.args.engine.now) (paired c.args.steps.now (map planes_of c.args.slots.now)) (g.S.Studio.seen c.args.studio.now) (map planes_of c.args.slots.now);
  holds = c.requires.holds;
  same = same_none c.args.engine.now;
  store = refl;
  long = refl;
  sizes = c.requires.sizes;
}

pub code_picture-requires-clause-late : goal.code_picture-requires-clause-late
code_picture-requires-clause-late g c = λ κs p.
    let l = c.loop-k.invariant in
    let a = late_at (reorders (settings_in c.args.engine.now)) (units_in c.args.engine.now) c.args.steps.now c.loop-k.k none c.requires.late c.loop-k-test.true in
    subst (λ (f : SessionSettings). units_in c.loop-k.engine ≤ (get_or c.args.steps.now c.loop-k.k none).display + (if reorders f then 1 else 0)) (sym (same_settings c.args.engine.now c.loop-k.engine l.same))
    (subst (λ (n : ℕ). n ≤ (get_or c.args.steps.now c.loop-k.k none).display + (if reorders (settings_in c.args.engine.now) then 1 else 0)) (sym l.going.units) a)

pub returns-in-Err-clause-left : goal.returns-in-Err-clause-left
returns-in-Err-clause-left g c =
    let l = c.loop-k.invariant in
    let few = c.requires.slots in
    let first = length-planes c.args.slots.now in
    let inside : c.loop-k.k < length c.loop-k.slots = omega (arith, c.loop-k-test.true, few, l.long) in
    going_failed (settings_in c.args.engine.now) (state_in c.args.engine.now) c.args.steps.now (map planes_of c.args.slots.now) c.loop-k.slots c.loop-k.k (state_in c.loop-k.engine) (state_in c.code_picture.new.self)
    (g.S.Studio.seen c.args.studio.now) (g.S.Studio.seen c.loop-k.studio) (g.S.Studio.seen c.code_picture.new.studio) (get_or c.args.steps.now c.loop-k.k none) (planes_of (get_or c.loop-k.slots c.loop-k.k c.index-slots-k.result)) c.code_picture.new.slot none c.in-Err.end
    l.going c.loop-k-test.true (omega (arith, few, first)) refl (sym (map_at planes_of c.loop-k.slots c.loop-k.k c.index-slots-k.result no_planes inside))
    (subst (λ (f : SessionSettings). StepLeft f (state_in c.loop-k.engine) (get_or c.args.steps.now c.loop-k.k none) (planes_of (get_or c.loop-k.slots c.loop-k.k c.index-slots-k.result)) c.code_picture.new.slot (g.S.Studio.seen c.loop-k.studio) (g.S.Studio.seen c.code_picture.new.studio) (state_in c.code_picture.new.self) (Err c.in-Err.end)) (same_settings c.args.engine.now c.loop-k.engine l.same) c.in-Err.ensures.left)

pub loop-k-preserved : goal.loop-k-preserved
loop-k-preserved g c =
    let l = c.loop-k.invariant in
    let few = c.requires.slots in
    let first = length-planes c.args.slots.now in
    let now = length-planes c.loop-k.slots in
    let inside : c.loop-k.k < length c.loop-k.slots = omega (arith, c.loop-k-test.true, few, l.long) in
    let b : IsBetween (held_of c.args.engine.now.store) (get_or c.args.steps.now c.loop-k.k none) = all_at (IsBetween (held_of c.args.engine.now.store)) c.args.steps.now c.loop-k.k none c.requires.between c.loop-k-test.true in
    record {
      going = going_on (settings_in c.args.engine.now) (state_in c.args.engine.now) c.args.steps.now (map planes_of c.args.slots.now) c.loop-k.slots c.loop-k.k (state_in c.loop-k.engine) (state_in c.code_picture.new.self)
          (g.S.Studio.seen c.args.studio.now) (g.S.Studio.seen c.loop-k.studio) (g.S.Studio.seen c.code_picture.new.studio) (get_or c.args.steps.now c.loop-k.k none) (planes_of (get_or c.loop-k.slots c.loop-k.k c.index-slots-k.result)) c.code_picture.new.slot none
          l.going c.loop-k-test.true (omega (arith, few, first)) (now ∙ l.long ∙ sym first) refl (sym (map_at planes_of c.loop-k.slots c.loop-k.k c.index-slots-k.result no_planes inside)) b.kind
          (subst (λ (f : SessionSettings). StepLeft f (state_in c.loop-k.engine) (get_or c.args.steps.now c.loop-k.k none) (planes_of (get_or c.loop-k.slots c.loop-k.k c.index-slots-k.result)) c.code_picture.new.slot (g.S.Studio.seen c.loop-k.studio) (g.S.Studio.seen c.code_picture.new.studio) (state_in c.code_picture.new.self) (Ok tt)) (same_settings c.args.engine.now c.loop-k.engine l.same) c.in-Ok.ensures.left);
      holds = c.in-Ok.ensures.holds;
      same = same_then c.args.engine.now c.loop-k.engine c.code_picture.new.self l.same c.in-Ok.ensures.same;
      store = c.in-Ok.ensures.store b.kind b.idr ∙ l.store;
      long = length-set c.loop-k.slots c.loop-k.k c.code_picture.new.slot ∙ l.long;
      sizes = all_set (HasSizes c.args.engine.now.head.width c.args.engine.now.head.height) c.loop-k.slots c.loop-k.k c.code_picture.new.slot l.sizes (subst (λ (h : FilmHead). HasSizes h.width h.height c.code_picture.new.slot) l.same.head c.in-Ok.ensures.slot);
    }

pub returns-clause-left : goal.returns-clause-left
returns-clause-left g c =
    let l = c.loop-k.invariant in
    going_end (settings_in c.args.engine.now) (state_in c.args.engine.now) c.args.steps.now (map planes_of c.args.slots.now) (map planes_of c.loop-k.slots) c.loop-k.k (state_in c.loop-k.engine) (g.S.Studio.seen c.args.studio.now) (g.S.Studio.seen c.loop-k.studio) l.going c.loop-k-test.false c.loop-k.auto.k-end
