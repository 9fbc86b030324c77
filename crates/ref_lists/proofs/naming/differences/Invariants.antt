use Rattle.std.proofs.Common.{◌≡◌, map, take}
use Rattle.arrayvec.specs.ArrayVec.{array_vec_len}
use Rattle.picture_planes.specs.Samples.{samples_of}
use Rattle.spec_lists.specs.Reordering.{difference}
use Rattle.ref_lists.specs.Held.{all_seen}
use Rattle.ref_lists.specs.Entries.{entries}
use Rattle.ref_lists.proofs.naming.differences.Given as goal

abbrev pub invariant-loop-k : goal.invariant-loop-k
invariant-loop-k l =
    (array_vec_len l.numbers ≡ l.k)
    × (l.numbers.items ≡ map (λ r. difference (samples_of l.fn.source) r.planes.luma) (entries (all_seen l.fn.held) (take l.k l.fn.places)))
