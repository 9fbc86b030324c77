use Rattle.std.proofs.Common.{arith}
use Rattle.spec_stream.specs.Stored.{macroblock_samples}
use Rattle.picture_planes.specs.Pictures.{planes_of}
use Rattle.stored_picture.proofs.BlockText.{macroblocks_bytes, no_macroblocks, macroblock_more, macroblocks_all}
use Rattle.stored_picture.proofs.macroblocks.append_macroblocks.Goals as goal

pub loop-k-init : goal.loop-k-init
loop-k-init c = record { text = no_macroblocks c.args.out.now (macroblock_samples c.args.across (planes_of c.args.picture.now)); size = omega arith; bytes = λ k below. absurd (omega arith); whole = λ some. absurd (omega arith) }

pub loop-k-preserved : goal.loop-k-preserved
loop-k-preserved c =
    let i = c.loop-k.invariant in
    let l = c.append_macroblock.ensures.length in
    let n = i.size in
    record {
      text = macroblock_more c.args.out.now c.loop-k.out c.append_macroblock.new.out (macroblock_samples c.args.across (planes_of c.args.picture.now)) c.loop-k.k i.text c.append_macroblock.ensures.text;
      size = omega (arith, l, n);
      bytes = macroblocks_bytes c.args.across (planes_of c.args.picture.now) c.loop-k.k i.bytes c.append_macroblock.ensures.bytes;
      whole = λ _. c.append_macroblock.ensures.whole;
    }

pub returns-clause-text : goal.returns-clause-text
returns-clause-text c =
    let past = c.loop-k-test.false in
    let most = c.loop-k.auto.k-end in
    macroblocks_all c.args.out.now c.loop-k.out c.args.across c.args.down c.loop-k.k (planes_of c.args.picture.now) (omega arith) c.loop-k.invariant.text

pub returns-clause-bytes : goal.returns-clause-bytes
returns-clause-bytes c =
    let past = c.loop-k-test.false in
    λ k below. c.loop-k.invariant.bytes k (omega arith)
