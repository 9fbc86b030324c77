use Rattle.std.proofs.Common.{◌≡◌, take}
use Rattle.arrayvec.specs.ArrayVec.{array_vec_len}
use Rattle.spec_lists.specs.Lists.{pictures_of}
use Rattle.ref_lists.specs.Held.{all_seen}
use Rattle.ref_lists.specs.Entries.{entries}
use Rattle.picture_coder.proofs.filter.counts_at.Given as goal

abbrev pub invariant-loop-k : goal.invariant-loop-k
invariant-loop-k l = (array_vec_len l.counts ≡ l.k) × (l.counts.items ≡ pictures_of (entries (all_seen l.held) (take l.k l.places)))
