use Rattle.std.proofs.Common.{◌≡◌, ◌<◌, ℕ}
use Rattle.std.specs.Prelude.{slice_index_or}
use Rattle.enc_tables.specs.Records.{no_motion}
use Rattle.inter_coder.proofs.blocks.is_one.Given as goal

abbrev pub invariant-loop-k : goal.invariant-loop-k
invariant-loop-k l = (j : ℕ) → j < l.k → slice_index_or l.motion j no_motion ≡ slice_index_or l.motion 0 no_motion
