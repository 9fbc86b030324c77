use Rattle.std.proofs.Common.{◌+◌, ◌*◌, ◌/◌, ◌%◌, get_or}
use Rattle.film_maker.proofs.Filling.{Filled}
use Rattle.film_maker.proofs.bands.luma_band.Given as goal

abbrev pub invariant-loop-k : goal.invariant-loop-k
invariant-loop-k l = Filled 15872 (λ k. get_or l.noise (8 * (k / 1984) + k % 1984 % 64 / 8) 0) l.k l.band
