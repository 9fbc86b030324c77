use Rattle.std.proofs.Common.{◌≡◌, ◌<◌, ℕ, get_or}
use Rattle.enc_tables.specs.Records.{zero_vector}
use Rattle.tool_records.proofs.inter.are_still.Given as goal

abbrev pub invariant-loop-place : goal.invariant-loop-place
invariant-loop-place l = (i : ℕ) → i < l.place → get_or l.mb.mvd i zero_vector ≡ zero_vector
