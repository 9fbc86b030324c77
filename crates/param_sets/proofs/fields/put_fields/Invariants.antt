use Rattle.std.proofs.Common.{length, drop, ◌≤◌}
use Rattle.spec_bits.specs.Fields.{fields_bits}
use Rattle.param_sets.proofs.Steps.{Going}
use Rattle.param_sets.proofs.fields.put_fields.Given as goal

abbrev pub invariant-loop-field : goal.invariant-loop-field
invariant-loop-field l = record {
  going : Going l.initial.out l.out (fields_bits (drop l.field-index l.fields)) (fields_bits l.fields);
  fits : length l.out.text ≤ l.out.room;
}
