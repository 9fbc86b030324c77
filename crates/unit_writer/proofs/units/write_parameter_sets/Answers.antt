use Rattle.std.proofs.Common.{List, ℕ, Bool, true, sym, subst, ◌∙◌, ◌<◌, ◌≤◌, ◌+◌, ◌≡◌, length}
use Rattle.std.proofs.lemmas.Bool.{false≢true}
use Rattle.spec_bits.specs.Bits.{bits_of_bytes}
use Rattle.spec_bits.specs.Units.{written}
use Rattle.spec_pictures.specs.Accesses.{sequence_nal, picture_nal}
use Rattle.unit_writer.proofs.Making.{with_more}
use Rattle.unit_writer.proofs.Joining.{first_full, first_written, second_full, both_written, whole_behind, sets_are}
use Rattle.unit_writer.proofs.units.write_parameter_sets.Goals as goal

pub returns-then-is_err-clause-sets : goal.returns-then-is_err-clause-sets
returns-then-is_err-clause-sets c =
    let flags : Bool × Bool = (true, c.args.t8x8) in
    subst (λ (u : List ℕ). (c.args.out.now.room < length c.args.out.now.text + length (bits_of_bytes u)) × (c.put_sequence.new.out ≡ c.args.out.now)) (sets_are c.args.head.now flags)
    (first_full c.put_sequence.result c.args.out.now c.put_sequence.new.out (written (true, sequence_nal c.args.head.now)) (written (true, picture_nal flags)) (sym c.is_err.ensures.value ∙ c.if-is_err.true) c.put_sequence.ensures.unit)

pub put_picture_set-requires-clause-whole : goal.put_picture_set-requires-clause-whole
put_picture_set-requires-clause-whole c =
    whole_behind c.put_sequence.result c.args.out.now c.put_sequence.new.out (written (true, sequence_nal c.args.head.now)) c.requires.whole c.put_sequence.ensures.unit

pub returns-then-is_err-2-clause-sets : goal.returns-then-is_err-2-clause-sets
returns-then-is_err-2-clause-sets c =
    let flags : Bool × Bool = (true, c.args.t8x8) in
    let first = first_written c.put_sequence.result c.args.out.now c.put_sequence.new.out (written (true, sequence_nal c.args.head.now)) (λ bad. false≢true (sym c.if-is_err.false ∙ c.is_err.ensures.value ∙ bad)) c.put_sequence.ensures.unit in
    subst (λ (u : List ℕ). (c.args.out.now.room < length c.args.out.now.text + length (bits_of_bytes u)) × (c.cut.new.self ≡ c.args.out.now)) (sets_are c.args.head.now flags)
    (second_full c.put_picture_set.result c.args.out.now c.put_sequence.new.out c.put_picture_set.new.out c.cut.new.self (written (true, sequence_nal c.args.head.now)) (written (true, picture_nal flags))
    c.len-start.result c.len-start.ensures.len first (sym c.is_err-2.ensures.value ∙ c.if-is_err-2.true) c.put_picture_set.ensures.unit c.cut.ensures)

pub returns-clause-sets : goal.returns-clause-sets
returns-clause-sets c =
    let flags : Bool × Bool = (true, c.args.t8x8) in
    let first = first_written c.put_sequence.result c.args.out.now c.put_sequence.new.out (written (true, sequence_nal c.args.head.now)) (λ bad. false≢true (sym c.if-is_err.false ∙ c.is_err.ensures.value ∙ bad)) c.put_sequence.ensures.unit in
    subst (λ (u : List ℕ). (length c.args.out.now.text + length (bits_of_bytes u) ≤ c.args.out.now.room) × (c.put_picture_set.new.out ≡ with_more c.args.out.now (bits_of_bytes u))) (sets_are c.args.head.now flags)
    (both_written c.put_picture_set.result c.args.out.now c.put_sequence.new.out c.put_picture_set.new.out (written (true, sequence_nal c.args.head.now)) (written (true, picture_nal flags))
    first (λ bad. false≢true (sym c.if-is_err-2.false ∙ c.is_err-2.ensures.value ∙ bad)) c.put_picture_set.ensures.unit)

pub returns-clause-whole : goal.returns-clause-whole
returns-clause-whole c =
    let first = whole_behind c.put_sequence.result c.args.out.now c.put_sequence.new.out (written (true, sequence_nal c.args.head.now)) c.requires.whole c.put_sequence.ensures.unit in
    whole_behind c.put_picture_set.result c.put_sequence.new.out c.put_picture_set.new.out (written (true, picture_nal (true, c.args.t8x8))) first c.put_picture_set.ensures.unit
