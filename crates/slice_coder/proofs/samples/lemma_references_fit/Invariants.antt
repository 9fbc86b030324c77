use Rattle.std.proofs.Common.{◌<◌, ℕ, get_or}
use Rattle.picture_planes.specs.Pictures.{planes_of}
use Rattle.spec_record_laws.specs.Coded.{PlanesFit}
use Rattle.ref_lists.specs.declared.held.Reference.{Reference}
use Rattle.slice_coder.proofs.samples.lemma_references_fit.Given as goal

abbrev pub invariant-loop-k : goal.invariant-loop-k
invariant-loop-k l = (j : ℕ) (d : Reference) → j < l.k → PlanesFit (planes_of (get_or l.held j d).picture)
