use Rattle.spec_slice_data.proofs.Strings.{strings_none, strings_push, strings_more}
use Rattle.spec_slice_data.proofs.slices_grow.Goals as goal

pub returns : goal.returns
returns g c = record {
  none = λ string n. strings_none string n;
  one_more = λ string n before r. strings_push string n before r;
  next = λ string n records k unused h. strings_more string n records k unused h;
}
