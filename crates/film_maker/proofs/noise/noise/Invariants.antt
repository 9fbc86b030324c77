use Rattle.std.proofs.Common.{◌≡◌}
use Rattle.film_maker.specs.Made.{state_after}
use Rattle.film_maker.proofs.Filling.{Filled, byte_at}
use Rattle.film_maker.proofs.noise.noise.Given as goal

abbrev pub invariant-loop-k : goal.invariant-loop-k
invariant-loop-k l = (l.state ≡ state_after l.k l.fn.seed) × Filled 64 (byte_at l.fn.seed) l.k l.numbers
