use Rattle.std.proofs.Common.{◌≡◌, length, take}
use Rattle.residual_coder.specs.Stripes.{planes_in}
use Rattle.picture_planes.specs.Pictures.{SameShapes}
use Rattle.spec_reconstruction.specs.Records.{slice_built}
use Rattle.bin_writer.specs.Coding.{seen}
use Rattle.inter_coder.specs.Given.{sources_in}
use Rattle.slice_coder.specs.Given.{task_in}
use Rattle.slice_coder.specs.Records.{records_by}
use Rattle.slice_coder.specs.Strings.{Opened, string_at}
use Rattle.slice_coder.proofs.data.code_macroblocks.Given as goal

abbrev pub invariant-loop-n : goal.invariant-loop-n
invariant-loop-n l = record {
  long : length l.records ≡ length l.fn.records;
  same_reference : l.stripe.picture.ghost_name ≡ l.fn.stripe.picture.ghost_name;
  begins : l.stripe.first ≡ l.fn.stripe.first;
  shapes : SameShapes l.fn.stripe.picture.now l.stripe.picture.now;
  coded : take l.n l.records ≡ records_by l.coarsest (task_in l.place l.head l.pictures l.plans) (planes_in l.fn.stripe) l.n;
  built : planes_in l.stripe ≡ slice_built l.place.across (sources_in l.pictures) l.head.first_mb (records_by l.coarsest (task_in l.place l.head l.pictures l.plans) (planes_in l.fn.stripe) l.n) (planes_in l.fn.stripe);
  opened : Opened (string_at l.place l.head) (length l.fn.records) (records_by l.coarsest (task_in l.place l.head l.pictures l.plans) (planes_in l.fn.stripe) l.n) (seen l.fn.coder l.fn.contexts) (seen l.coder l.contexts);
}
