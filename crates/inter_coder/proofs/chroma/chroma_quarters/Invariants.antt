use Rattle.std.proofs.Common.{◌+◌, ◌*◌, ◌/◌}
use Rattle.std.specs.Prelude.{slice_index_or}
use Rattle.enc_tables.specs.Records.{no_motion}
use Rattle.spec_reconstruction.specs.Inter.{predicted_by}
use Rattle.inter_coder.specs.Given.{wide_of, sources_in, chroma_sample, component}
use Rattle.inter_coder.proofs.Puts.{Parted8}
use Rattle.inter_coder.proofs.chroma.chroma_quarters.Given as goal

abbrev pub invariant-loop-k : goal.invariant-loop-k
invariant-loop-k l = Parted8 (λ i j. predicted_by (chroma_sample (component l.number) (wide_of l.pictures / 2) (l.site.x / 2 + i) (l.site.y / 2 + j)) (sources_in l.pictures) (slice_index_or l.motion (2 * (j / 4) + i / 4) no_motion)) l.k l.out
