use Rattle.std.proofs.Common.{◌≡◌, ◌<◌, ◌/◌, ◌%◌, ℕ, length, slice_index}
use Rattle.spec_filter.specs.Macroblocks.{horizontal_strength}
use Rattle.deblock.proofs.strengths.horizontal_strengths.Given as goal

abbrev pub invariant-loop-i : goal.invariant-loop-i
invariant-loop-i l = record {
  long : length l.out ≡ 16;
  so_far : (j : ℕ) → j < l.i → slice_index l.out j ≡ horizontal_strength l.pictures0 l.pictures1 l.before l.mb (j / 4) (j % 4);
}
