use Rattle.std.proofs.Common.{◌≡◌, ◌<◌, ℕ, length}
use Rattle.std.specs.Prelude.{slice_index, slice_index_or}
use Rattle.enc_tables.specs.Records.{zero_vector}
use Rattle.spec_search.specs.Refine.{IsRefined}
use Rattle.subpel_filter.specs.Halves.{AreHalves}
use Rattle.motion_search.specs.Quarters.{quarter_costs, kept_costs}
use Rattle.nine_search.specs.Partitions.{partition_block}
use Rattle.nine_search.specs.NineSearches.{dx_at, dy_at}
use Rattle.nine_search.proofs.refinements.refine_nine.Given as goal

abbrev pub invariant-loop-k : goal.invariant-loop-k
invariant-loop-k l = record {
  kept : (k : ℕ) → k < l.k → IsRefined (kept_costs l.source l.reference l.halves (partition_block l.x l.y k)) (dx_at l.nine k) (dy_at l.nine k) (slice_index_or l.vectors k zero_vector) (slice_index l.sads k);
  same : AreHalves l.reference l.halves → (k : ℕ) → k < l.k → IsRefined (quarter_costs l.source l.reference (partition_block l.x l.y k)) (dx_at l.nine k) (dy_at l.nine k) (slice_index_or l.vectors k zero_vector) (slice_index l.sads k);
  vectors : length l.vectors ≡ 9;
  sads : length l.sads ≡ 9;
}
