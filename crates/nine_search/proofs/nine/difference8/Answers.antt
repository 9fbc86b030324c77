use Rattle.std.proofs.Common.{◌+◌, ◌*◌, arith}
use Rattle.spec_kernels.specs.Sums.{strided}
use Rattle.nine_search.proofs.Fours.{difference_small}
use Rattle.nine_search.proofs.nine.difference8.Goals as goal

pub returns-clause-small : goal.returns-clause-small
returns-clause-small c =
    let e = c.sad_block8.ensures in
    let m = difference_small (strided c.args.own.now c.args.stride_own) (strided c.args.moved.now c.args.stride_moved)
    (λ i j p q. omega (arith, c.type_inv.own (j * c.args.stride_own + i))) (λ i j p q. omega (arith, c.type_inv.moved (j * c.args.stride_moved + i))) in
    omega arith
