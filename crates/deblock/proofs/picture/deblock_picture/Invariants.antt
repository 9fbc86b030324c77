use Rattle.spec_filter.specs.Pictures.{edges_of}
use Rattle.deblock.specs.Buffers.{FilteredTo}
use Rattle.deblock.proofs.picture.deblock_picture.Given as goal

abbrev pub invariant-loop-m : goal.invariant-loop-m
invariant-loop-m l = FilteredTo (edges_of l.pictures0 l.pictures1 l.records l.width) l.width l.m l.fn.picture l.picture
