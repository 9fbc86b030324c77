use Rattle.std.proofs.Common.{◌≡◌, ◌++◌}
use Rattle.std.specs.List.{All}
use Rattle.spec_bits.specs.Bits.{IsByte, bits_of_bytes}
use Rattle.spec_stream.specs.Stored.{block_at}
use Rattle.picture_planes.specs.Samples.{samples_of}
use Rattle.stored_picture.proofs.blocks.append_block.Given as goal

abbrev pub invariant-loop-row : goal.invariant-loop-row
invariant-loop-row l = record {
  out : l.out ≡ record l.initial.out { text = l.initial.out.text ++ bits_of_bytes (block_at l.plane.width l.size l.row l.x l.y (samples_of l.plane)) };
  bytes : All IsByte (block_at l.plane.width l.size l.row l.x l.y (samples_of l.plane));
}
