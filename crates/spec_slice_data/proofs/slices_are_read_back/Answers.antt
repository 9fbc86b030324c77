use Rattle.spec_cabac.proofs.Law.{code_ends}
use Rattle.spec_slice_data.specs.Coding.{asked, slice_string}
use Rattle.spec_slice_data.proofs.Slices.{slice_bins, slice_read_back}
use Rattle.spec_slice_data.proofs.slices_are_read_back.Goals as goal

pub returns : goal.returns
returns g c = record {
  bins = λ mb string n records l h. slice_bins mb string n records l h;
  code = λ mb string n states records rest l h. slice_read_back mb string n states records rest l h;
  ends = λ string states records. code_ends (asked states (slice_string string records));
}
