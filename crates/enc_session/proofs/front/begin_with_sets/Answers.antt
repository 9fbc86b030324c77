use Rattle.std.proofs.Common.{Bool, true, sym, ap, ◌∙◌, arith}
use Rattle.bit_strings.specs.BitText.{BitText}
use Rattle.spec_bits.specs.Bits.{bits_of_bytes}
use Rattle.unit_writer.specs.Parts.{set_bytes}
use Rattle.enc_session.proofs.Fronts.{first_units, no_units, sets_short}
use Rattle.enc_session.proofs.front.begin_with_sets.Goals as goal

pub returns-then-idr-clause-unit : goal.returns-then-idr-clause-unit
returns-then-idr-clause-unit c =
    let u = set_bytes c.args.head.now (true, c.args.t8x8) true in
    let short = sets_short c.args.head.now c.args.t8x8 true in
    first_units c.args.unit.now c.write_parameter_sets.new.out u c.write_parameter_sets.result c.requires.empty (omega (arith, short, c.requires.room)) c.write_parameter_sets.ensures.sets
    ∙ ap (λ (b : Bool). (let x : BitText = record c.args.unit.now { text = bits_of_bytes (set_bytes c.args.head.now (true, c.args.t8x8) b) } in x)) (sym c.if-idr.true)

pub returns-else-idr-clause-unit : goal.returns-else-idr-clause-unit
returns-else-idr-clause-unit c =
    no_units c.args.unit.now c.requires.empty
    ∙ ap (λ (b : Bool). (let x : BitText = record c.args.unit.now { text = bits_of_bytes (set_bytes c.args.head.now (true, c.args.t8x8) b) } in x)) (sym c.if-idr.false)
