use Rattle.std.proofs.Common.{◌+◌, ◌*◌, ◌/◌}
use Rattle.std.specs.Prelude.{slice_index_or}
use Rattle.enc_tables.specs.Records.{no_motion}
use Rattle.spec_reconstruction.specs.Inter.{predicted_by}
use Rattle.inter_coder.specs.Given.{wide_of, sources_in, luma_sample}
use Rattle.inter_coder.proofs.Puts.{Parted16}
use Rattle.inter_coder.proofs.luma.luma_quarters.Given as goal

abbrev pub invariant-loop-k : goal.invariant-loop-k
invariant-loop-k l = Parted16 (λ i j. predicted_by (luma_sample (wide_of l.pictures) (l.site.x + i) (l.site.y + j)) (sources_in l.pictures) (slice_index_or l.motion (2 * (j / 8) + i / 8) no_motion)) l.k l.out
