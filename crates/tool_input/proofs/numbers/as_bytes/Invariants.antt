use Rattle.std.proofs.Common.{◌≡◌, map, take}
use Rattle.std.specs.Prelude.{pos}
use Rattle.tool_input.proofs.numbers.as_bytes.Given as goal

abbrev pub invariant-loop-k : goal.invariant-loop-k
invariant-loop-k l = map pos l.bytes.items ≡ take l.k l.numbers
