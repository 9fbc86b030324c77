use Rattle.std.proofs.Common.{List, ℕ, ◌≤◌, subst}
use Rattle.spec_bits.specs.Bits.{bits_of_bytes}
use Rattle.spec_bits.specs.Units.{filler_unit}
use Rattle.bit_strings.specs.BitText.{Appends}
use Rattle.unit_writer.proofs.Joining.{no_filler, filler_is, whole_behind}
use Rattle.unit_writer.proofs.units.write_filler.Goals as goal

pub returns-then-bytes-eq0-clause-filler : goal.returns-then-bytes-eq0-clause-filler
returns-then-bytes-eq0-clause-filler c = no_filler c.args.bytes c.args.out.now c.if-bytes-eq0.true (subst (λ (n : ℕ). n ≤ c.args.out.now.room) c.len-held.ensures.len c.len-held.ensures.within)

pub returns-clause-filler : goal.returns-clause-filler
returns-clause-filler c =
    subst (λ (u : List ℕ). Appends c.args.out.now c.filler.new.out (bits_of_bytes u) c.filler.result) (filler_is c.args.bytes c.max.result c.if-bytes-eq0.false c.max.ensures) c.filler.ensures

pub returns-clause-whole : goal.returns-clause-whole
returns-clause-whole c = whole_behind c.filler.result c.args.out.now c.filler.new.out (filler_unit c.max.result) c.requires.whole c.filler.ensures
