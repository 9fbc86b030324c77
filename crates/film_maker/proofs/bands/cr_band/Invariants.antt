use Rattle.std.proofs.Common.{◌*◌, get_or}
use Rattle.film_maker.specs.Bands.{cr_of}
use Rattle.film_maker.proofs.Filling.{Filled}
use Rattle.film_maker.proofs.bands.cr_band.Given as goal

abbrev pub invariant-loop-k : goal.invariant-loop-k
invariant-loop-k l = Filled 7936 (λ k. cr_of (get_or l.luma (2 * k) 0)) l.k l.band
