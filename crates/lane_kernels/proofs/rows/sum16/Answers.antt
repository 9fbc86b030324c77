use Rattle.std.proofs.Common.{◌≡◌, refl, ◌∙◌, subst, replicate, arith}
use Rattle.std.proofs.lemmas.Simd.{dot4_Fits, sum_dots, sum_by-ones}
use lib.Lanes.{sum_l, products, dots}
use Rattle.lane_kernels.proofs.Apart.{wrapped_sum, sum_is, lanes_most, bytes_most}
use Rattle.lane_kernels.proofs.rows.sum16.Goals as goal

pub dot4 : goal.dot4
dot4 c = (dot4_Fits c.args.x (replicate 16 1) c.fits-x.1 tt, tt)

pub returns : goal.returns
returns c =
    let d = sum_dots 4 c.args.x (replicate 16 1) c.fits-x.0 refl in
    let o = subst (λ n. sum_l (products c.args.x (replicate n 1)) ≡ sum_l c.args.x) c.fits-x.0 (sum_by-ones c.args.x) in
    let i = sum_is c.args.x in
    let j = sum_is (dots c.args.x (replicate 16 1)) in
    let m = lanes_most 16 255 c.args.x c.fits-x.0 (bytes_most c.args.x c.fits-x.1) in
    wrapped_sum 0 (dots c.args.x (replicate 16 1)) (omega (arith, d.0)) ∙ omega (arith, d.0)
