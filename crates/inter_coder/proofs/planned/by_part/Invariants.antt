use Rattle.std.proofs.Common.{◌≡◌, ◌<◌, ℕ, get_or, length}
use Rattle.enc_tables.specs.Records.{zero_vector}
use Rattle.spec_partitions.specs.Near.{View}
use Rattle.spec_coded.specs.Planned.{planned_difference}
use Rattle.inter_coder.specs.Given.{IsBeside}
use Rattle.inter_coder.proofs.planned.by_part.Given as goal

abbrev pub invariant-loop-part : goal.invariant-loop-part
invariant-loop-part l = record {
  long : length l.vectors ≡ 4;
  told : (view : View) → IsBeside view l.beside → (k : ℕ) → k < l.part → get_or l.vectors k zero_vector ≡ planned_difference view l.plan l.shape l.list k;
}
