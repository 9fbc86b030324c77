use Rattle.std.proofs.Common.{◌+◌, ℕ, arith}
use Rattle.spec_search.specs.Scan.{dx_of, dy_of}
use Rattle.motion_search.specs.Planes.{costs}
use Rattle.nine_search.specs.Partitions.{sub_macroblock}
use Rattle.nine_search.proofs.Fours.{four, four_small, sub_searchable}
use Rattle.nine_search.proofs.nine.four_differences.Goals as goal

pub sub_difference-first-requires-clause-planes : goal.sub_difference-first-requires-clause-planes
sub_difference-first-requires-clause-planes c = sub_searchable c.args.source.now c.args.reference.now c.args.x c.args.y c.args.x c.args.y c.requires.planes (omega arith) (omega arith)

pub sub_difference-right-requires-clause-planes : goal.sub_difference-right-requires-clause-planes
sub_difference-right-requires-clause-planes c = sub_searchable c.args.source.now c.args.reference.now c.args.x c.args.y (c.args.x + 8) c.args.y c.requires.planes (omega arith) (omega arith)

pub sub_difference-below-requires-clause-planes : goal.sub_difference-below-requires-clause-planes
sub_difference-below-requires-clause-planes c = sub_searchable c.args.source.now c.args.reference.now c.args.x c.args.y c.args.x (c.args.y + 8) c.requires.planes (omega arith) (omega arith)

pub sub_difference-last-requires-clause-planes : goal.sub_difference-last-requires-clause-planes
sub_difference-last-requires-clause-planes c = sub_searchable c.args.source.now c.args.reference.now c.args.x c.args.y (c.args.x + 8) (c.args.y + 8) c.requires.planes (omega arith) (omega arith)

pub returns-clause-value : goal.returns-clause-value
returns-clause-value c q p =
    four (λ (q : ℕ). costs c.args.source.now c.args.reference.now (sub_macroblock c.args.x c.args.y q) (dx_of c.args.spot) (dy_of c.args.spot)) _ _ _ _
    c.sub_difference-first.ensures.value c.sub_difference-right.ensures.value c.sub_difference-below.ensures.value c.sub_difference-last.ensures.value q p

pub returns-clause-small : goal.returns-clause-small
returns-clause-small c = record {
  item = four_small _ _ _ _ c.sub_difference-first.ensures.small c.sub_difference-right.ensures.small c.sub_difference-below.ensures.small c.sub_difference-last.ensures.small;
}
