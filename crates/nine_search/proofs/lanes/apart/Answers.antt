use Rattle.std.proofs.Common.{◌<◌, arith, get_or, w16, Fits}
use Rattle.std.proofs.lemmas.Simd.{Each1-get_or}
use Rattle.nine_search.proofs.Counting.{apart_at}
use Rattle.nine_search.proofs.lanes.apart.Goals as goal

pub returns : goal.returns
returns c i p =
    let l = c.requires in
    let f = (Each1-get_or (Fits w16) c.args.sums i 0 (omega arith) c.fits-sums.1).fits in
    let small : c.args.own < 65536 = c.ranges.own.fits in
    let low : get_or c.args.sums i 0 < 65536 = f in
    apart_at i c.args.own c.args.sums p l small low
