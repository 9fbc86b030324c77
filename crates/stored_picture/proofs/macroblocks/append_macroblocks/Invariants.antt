use Rattle.std.proofs.Common.{◌≡◌, ◌≤◌, ◌+◌, ◌*◌, ◌%◌, ◌<◌, ◌++◌, length, map}
use Rattle.std.specs.Prelude.{ℕ}
use Rattle.std.specs.List.{All, range_with_len}
use Rattle.spec_bits.specs.Bits.{IsByte}
use Rattle.spec_stream.specs.Stored.{pcm_slice_bits, macroblock_samples}
use Rattle.picture_planes.specs.Pictures.{planes_of}
use Rattle.stored_picture.proofs.macroblocks.append_macroblocks.Given as goal

abbrev pub invariant-loop-k : goal.invariant-loop-k
invariant-loop-k l = record {
  text : l.out ≡ record l.initial.out { text = l.initial.out.text ++ pcm_slice_bits (length l.initial.out.text) (map (macroblock_samples l.across (planes_of l.picture)) (range_with_len 0 l.k)) };
  size : length l.out.text ≤ length l.initial.out.text + 3088 * l.k;
  bytes : (k : ℕ) → k < l.k → All IsByte (macroblock_samples l.across (planes_of l.picture) k);
  whole : 0 < l.k → length l.out.text % 8 ≡ 0;
}
