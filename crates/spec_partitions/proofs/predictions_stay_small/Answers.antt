use Rattle.spec_partitions.proofs.Small.{predicted_small, skip_small, direct_small}
use Rattle.spec_partitions.proofs.SmallVectors.{vectors_small}
use Rattle.spec_partitions.proofs.predictions_stay_small.Goals as goal

pub returns : goal.returns
returns c = record {
  predicted = λ most shape part list r f h. predicted_small shape part list r most f h;
  skip = skip_small;
  direct = λ most list r still f h. direct_small list r still most f h;
  macroblock = vectors_small;
}
