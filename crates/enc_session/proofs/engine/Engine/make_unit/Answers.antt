use Rattle.std.proofs.Common.{ℕ, ◌%◌, ◌==◌, ◌≡◌, false, length, Ok, Err, refl, ap, sym, subst, ◌∙◌}
use Rattle.bit_strings.specs.BitText.{BitText}
use Rattle.spec_bits.specs.Bits.{bits_of_bytes}
use Rattle.spec_coding.specs.Trials.{delays_of, picked_by}
use Rattle.spec_film_coder.specs.Pictures.{film_coder}
use Rattle.spec_session.specs.Settings.{SessionSettings}
use Rattle.spec_session.specs.Encodings.{coder_of, sequence_of}
use Rattle.spec_film.specs.Films.{Planes}
use Rattle.spec_coding.specs.Encoding.{State, Refused}
use Rattle.picture_planes.specs.Pictures.{planes_of}
use Rattle.enc_session.specs.declared.engine.Engine.{Engine}
use Rattle.enc_session.specs.declared.units.Made.{Made}
use Rattle.enc_session.specs.Asking.{MayFollow, compared_of}
use Rattle.enc_session.specs.Ready.{settings_in, state_in, unit_room}
use Rattle.enc_session.specs.Steps.{film_in, front_in}
use Rattle.enc_session.specs.Trying.{trial_of}
use Rattle.enc_session.proofs.Fronts.{front_some}
use Rattle.enc_session.proofs.Accessing.{Laws, made_is, refused_here}
use Rattle.enc_session.proofs.Begun.{may_follow, kept_is, whole_bits, picked_whole, left_is, have_is, filler_is, compared_is}
use Rattle.enc_session.proofs.engine.Engine.make_unit.Goals as goal

pub code_slices-requires-clause-step : goal.code_slices-requires-clause-step
code_slices-requires-clause-step g c = λ κs p.
    subst (λ (e : Engine). MayFollow e.store c.args.step) (sym c.begin.ensures.unit)
    (may_follow c.args.step c.args.self.now.store c.reset_before.new.store c.reset_before.ensures c.requires.step c.requires.follows)

pub code_slices-requires-clause-whole : goal.code_slices-requires-clause-whole
code_slices-requires-clause-whole g c = λ κs p.
    subst (λ (e : Engine). length e.unit.text % 8 ≡ 0) (sym c.begin.ensures.unit) (whole_bits (front_in c.args.self.now c.args.step))

pub code_slices-requires-clause-begun : goal.code_slices-requires-clause-begun
code_slices-requires-clause-begun g c = λ κs p.
    let f : SessionSettings = settings_in c.args.self.now in
    subst (λ (e : Engine). (length e.unit.text == 0) ≡ false) (sym c.begin.ensures.unit) (front_some (sequence_of f) f.t8x8 c.args.step.idr (delays_of (film_in f) (state_in c.args.self.now) c.args.step))

pub fill_unit-bits-requires-clause-whole : goal.fill_unit-bits-requires-clause-whole
fill_unit-bits-requires-clause-whole g c =
    picked_whole _ c.start_qp-start.result c.available-have.result c.begin.new.self.unit c.code_slices.new.unit c.code_slices.new.coder.reference c.in-Ok.pick
    (subst (λ (e : Engine). length e.unit.text % 8 ≡ 0) (sym c.begin.ensures.unit) (whole_bits (front_in c.args.self.now c.args.step))) c.in-Ok.ensures.left.0

pub returns-in-Ok-clause-left : goal.returns-in-Ok-clause-left
returns-in-Ok-clause-left g c =
    let e : Engine = c.args.self.now in
    let f : SessionSettings = settings_in e in
    let s : State = state_in e in
    let src : Planes = planes_of c.args.source.now in
    let b : BitText = record { text = bits_of_bytes (front_in e c.args.step); room = unit_room e.settings.cpb; made = unit_room e.settings.cpb } in
    let k = kept_is c.args.step.idr e.store c.reset_before.new.store c.reset_before.ensures in
    let laws : Laws = record { idr = c.units_make_accesses.ensures.idr; other = c.units_make_accesses.ensures.other; units = c.picture_units_make_accesses.ensures; plain = c.pictures_count_in_turns.ensures.plain; coarsest = c.pictures_count_in_turns.ensures.coarsest } in
    let mid : BitText = c.code_slices.new.unit in
    let left = left_is e c.begin.new.self c.reset_before.new.store b c.args.step src (planes_of c.pad_edges.new.self) c.start_qp-start.result c.available-have.result mid c.code_slices.new.coder.reference (Ok c.in-Ok.pick)
    c.begin.ensures.unit c.requires.holds k c.pad_edges.ensures.samples c.start_qp-start.ensures c.available-have.ensures.value c.in-Ok.ensures.left.0 in
    let m : Made = record { qp = c.in-Ok.pick.qp; coarsest = c.in-Ok.pick.coarsest; bits = c.fill_unit-bits.result.0; filler = c.fill_unit-bits.result.1; have = c.available-have.result; compared = c.in-Ok.compared } in (
      picked_by (film_in f) (film_coder (coder_of f)) s c.args.step src (trial_of c.in-Ok.pick),
      made_is laws f s c.args.step src b mid c.fill_unit-bits.new.unit c.code_slices.new.coder.reference c.in-Ok.pick m c.fill_unit-bits.result.1 refl left refl refl c.fill_unit-bits.ensures.bits refl
          (filler_is e c.begin.new.self c.reset_before.new.store b c.fill_unit-bits.result.1 (length mid.text) c.begin.ensures.unit c.requires.holds c.fill_unit-bits.ensures.filler)
          (have_is e c.begin.new.self c.reset_before.new.store b c.available-have.result c.begin.ensures.unit c.requires.holds c.available-have.ensures.value)
          (compared_is e c.begin.new.self c.reset_before.new.store b c.args.step src (planes_of c.pad_edges.new.self) c.in-Ok.compared compared_of c.begin.ensures.unit c.requires.holds k c.pad_edges.ensures.samples c.in-Ok.ensures.left.1)
          c.in-Ok.ensures.left.2
          (ap (λ (x : BitText). x.text) c.fill_unit-bits.ensures.unit)
          c.requires.holds.head.num_least,
    )

pub returns-in-Err-clause-left : goal.returns-in-Err-clause-left
returns-in-Err-clause-left g c =
    let e : Engine = c.args.self.now in
    let f : SessionSettings = settings_in e in
    let s : State = state_in e in
    let src : Planes = planes_of c.args.source.now in
    let b : BitText = record { text = bits_of_bytes (front_in e c.args.step); room = unit_room e.settings.cpb; made = unit_room e.settings.cpb } in
    let k = kept_is c.args.step.idr e.store c.reset_before.new.store c.reset_before.ensures in
    let laws : Laws = record { idr = c.units_make_accesses.ensures.idr; other = c.units_make_accesses.ensures.other; units = c.picture_units_make_accesses.ensures; plain = c.pictures_count_in_turns.ensures.plain; coarsest = c.pictures_count_in_turns.ensures.coarsest } in
    let left = left_is e c.begin.new.self c.reset_before.new.store b c.args.step src (planes_of c.pad_edges.new.self) c.start_qp-start.result c.available-have.result c.code_slices.new.unit c.code_slices.new.coder.reference (Err c.in-Err.need)
    c.begin.ensures.unit c.requires.holds k c.pad_edges.ensures.samples c.start_qp-start.ensures c.available-have.ensures.value c.in-Err.ensures.left in (
      refl,
      refused_here laws f s c.args.step src c.in-Err.need left.0 left.1
          ∙ ap (λ (n : ℕ). Refused c.in-Err.need n) (sym (have_is e c.begin.new.self c.reset_before.new.store b c.available-have.result c.begin.ensures.unit c.requires.holds c.available-have.ensures.value)),
    )
