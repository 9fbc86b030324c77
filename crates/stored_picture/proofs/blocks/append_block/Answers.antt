use Rattle.std.proofs.Common.{ℕ, ◌≡◌, ◌+◌, ◌*◌, ◌-◌, ◌∙◌, ap, length, take, drop, arith}
use Rattle.picture_planes.specs.Samples.{row_of, samples_of}
use Rattle.stored_picture.proofs.BlockText.{block_bytes_all, more_block_bytes, no_block_bytes, block_none, block_more, block_length, part_length, row_room}
use Rattle.stored_picture.proofs.blocks.append_block.Goals as goal

pub loop-row-init : goal.loop-row-init
loop-row-init c = record { out = block_none c.args.out.now c.args.plane.now.width c.args.size c.args.x c.args.y (samples_of c.args.plane.now); bytes = no_block_bytes c.args.plane.now.width c.args.size c.args.x c.args.y (samples_of c.args.plane.now) }

pub append_bytes-requires-clause-whole : goal.append_bytes-requires-clause-whole
append_bytes-requires-clause-whole c =
    let below = c.loop-row-test.true in
    let w = c.requires.whole in
    let r = c.requires.rows in
    let l = block_length c.args.plane.now c.args.size c.loop-row.row c.args.x c.args.y c.args.out.now c.loop-row.out (omega arith) c.requires.columns c.loop-row.invariant.out in
    omega arith

pub append_bytes-requires-clause-room : goal.append_bytes-requires-clause-room
append_bytes-requires-clause-room c =
    let below = c.loop-row-test.true in
    let r = c.requires.rows in
    let room = c.requires.room in
    let l = block_length c.args.plane.now c.args.size c.loop-row.row c.args.x c.args.y c.args.out.now c.loop-row.out (omega arith) c.requires.columns c.loop-row.invariant.out in
    let n = ap (λ xs. length (take (c.args.x + c.args.size - c.args.x) (drop c.args.x xs))) c.row.ensures.value ∙ part_length c.args.plane.now c.args.size c.args.x (c.args.y + c.loop-row.row) (omega arith) c.requires.columns in
    let m = row_room c.loop-row.row c.args.size below in
    let same = ap (λ (t : _). t.room) c.loop-row.invariant.out in
    omega arith

pub loop-row-preserved : goal.loop-row-preserved
loop-row-preserved c =
    let below = c.loop-row-test.true in
    let r = c.requires.rows in
    let part = take (c.args.x + c.args.size - c.args.x) (drop c.args.x c.row.result.now) in
    let is : part ≡ take c.args.size (drop c.args.x (row_of c.args.plane.now (c.args.y + c.loop-row.row)))
    = ap (λ n. take n (drop c.args.x c.row.result.now)) (span c.args.x c.args.size) ∙ ap (λ xs. take c.args.size (drop c.args.x xs)) c.row.ensures.value in
    record {
      out = block_more c.args.plane.now c.args.size c.loop-row.row c.args.x c.args.y c.args.out.now c.loop-row.out c.append_bytes.new.out part (omega arith) c.requires.columns c.loop-row.invariant.out is c.append_bytes.ensures.text;
      bytes = more_block_bytes c.args.plane.now c.args.size c.loop-row.row c.args.x c.args.y part (omega arith) c.requires.columns is c.append_bytes.ensures.bytes c.loop-row.invariant.bytes;
    }
  where
    span : (x n : ℕ) → x + n - x ≡ n
    span x n = omega arith

pub returns-clause-length : goal.returns-clause-length
returns-clause-length c =
    let all = c.loop-row-test.false in
    let most = c.loop-row.auto.row-end in
    let r = c.requires.rows in
    let same : c.loop-row.row ≡ c.args.size = omega arith in
    block_length c.args.plane.now c.args.size c.loop-row.row c.args.x c.args.y c.args.out.now c.loop-row.out (omega arith) c.requires.columns c.loop-row.invariant.out
    ∙ ap (λ n. length c.args.out.now.text + 8 * (n * c.args.size)) same

pub returns-clause-bytes : goal.returns-clause-bytes
returns-clause-bytes c =
    let all = c.loop-row-test.false in
    let most = c.loop-row.auto.row-end in
    block_bytes_all c.args.plane.now.width c.args.size c.loop-row.row c.args.x c.args.y (samples_of c.args.plane.now) (omega arith) c.loop-row.invariant.bytes
