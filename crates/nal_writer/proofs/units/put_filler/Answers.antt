use Rattle.std.proofs.Common.{ℕ, ◌≡◌, ◌%◌, ◌++◌, List, [], ◌∷◌, length, replicate}
use Rattle.std.proofs.lemmas.Result.{err_from_is_err_and}
use Rattle.spec_bits.specs.Bits.{bits_of_bytes}
use Rattle.bit_strings.specs.BitText.{BitText}
use Rattle.nal_writer.proofs.Pieces.{more, Going, going_start, going_more, last_piece, stopped, stopped_grown}
use Rattle.nal_writer.proofs.units.put_filler.Goals as goal

abbrev tail : ℕ → List ℕ
tail count = replicate count 255 ++ (128 ∷ [])

abbrev all : ℕ → List ℕ
all count = 0 ∷ 0 ∷ 1 ∷ 12 ∷ tail count

begun : (old new : BitText) (count : ℕ) → length old.text % 8 ≡ 0 → new ≡ more old (bits_of_bytes (0 ∷ 0 ∷ 1 ∷ 12 ∷ [])) → Going old new (tail count) (all count)
begun old new count h e = going_more old old new (0 ∷ 0 ∷ 1 ∷ 12 ∷ []) (tail count) (all count) (going_start old (all count) h) e

pub returns-in_err-put_head : goal.returns-in_err-put_head
returns-in_err-put_head c = let p = err_from_is_err_and c.from_residual.result c.from_residual.ensures.1 in rw (p.1)
    (stopped c.args.out.now c.args.out.now c.put_head.new.out (0 ∷ 0 ∷ 1 ∷ 12 ∷ []) (tail c.args.count) (all c.args.count) (going_start c.args.out.now (all c.args.count) c.requires) c.in_err-put_head.ensures)

pub put_fill-requires : goal.put_fill-requires
put_fill-requires c = (begun c.args.out.now c.put_head.new.out c.args.count c.requires c.in_ok-put_head.ensures.1).whole

pub returns-in_err-put_fill : goal.returns-in_err-put_fill
returns-in_err-put_fill c = let p = err_from_is_err_and c.from_residual-in_err-put_fill.result c.from_residual-in_err-put_fill.ensures.1 in rw (p.1)
    (stopped_grown c.args.out.now c.put_head.new.out c.put_fill.new.out (replicate c.args.count 255) (128 ∷ []) (all c.args.count) (begun c.args.out.now c.put_head.new.out c.args.count c.requires c.in_ok-put_head.ensures.1) c.in_err-put_fill.ensures)

pub put_bytes-requires : goal.put_bytes-requires
put_bytes-requires c = (going_more c.args.out.now c.put_head.new.out c.put_fill.new.out (replicate c.args.count 255) (128 ∷ []) (all c.args.count) (begun c.args.out.now c.put_head.new.out c.args.count c.requires c.in_ok-put_head.ensures.1) c.in_ok-put_fill.ensures.1).whole

pub returns : goal.returns
returns c = last_piece c.args.out.now c.put_fill.new.out c.put_bytes.new.self (128 ∷ []) (all c.args.count) c.put_bytes.result
    (going_more c.args.out.now c.put_head.new.out c.put_fill.new.out (replicate c.args.count 255) (128 ∷ []) (all c.args.count) (begun c.args.out.now c.put_head.new.out c.args.count c.requires c.in_ok-put_head.ensures.1) c.in_ok-put_fill.ensures.1)
    c.put_bytes.ensures
