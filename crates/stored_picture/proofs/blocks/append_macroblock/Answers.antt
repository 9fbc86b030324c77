use Rattle.std.proofs.Common.{ℕ, ◌≡◌, ◌*◌, ◌/◌, ◌%◌, ◌∙◌, ap, sym, refl, length, Bool, List, arith}
use Rattle.spec_bits.specs.Bits.{bits_of_bytes}
use Rattle.spec_bits.specs.Golomb.{ue_bits, align_bits}
use Rattle.spec_stream.specs.Stored.{block_at}
use Rattle.spec_stream.proofs.StoredLaws.{ue_25}
use Rattle.picture_planes.specs.Samples.{samples_of}
use Rattle.picture_planes.specs.Pictures.{planes_of}
use Rattle.stored_picture.proofs.BlockText.{macroblock_bytes, with_more, typed_length, zeros_length, same_room, pcm_text}
use Rattle.stored_picture.proofs.blocks.append_macroblock.Goals as goal

pub append_ue-requires-clause-room : goal.append_ue-requires-clause-room
append_ue-requires-clause-room c = let r = c.requires.room in let n = ap (λ (bits : List Bool). length bits) ue_25 in omega (arith, n)

pub append_zeros_to_byte-requires : goal.append_zeros_to_byte-requires
append_zeros_to_byte-requires c =
    let r = c.requires.room in
    let n = typed_length c.args.out.now c.append_ue.new.out c.append_ue.ensures in
    let s = same_room c.args.out.now c.append_ue.new.out (ue_bits 25) c.append_ue.ensures in
    record { room = omega (arith, n, s) }

pub append_block-requires-clause-whole : goal.append_block-requires-clause-whole
append_block-requires-clause-whole c = let n = zeros_length c.append_ue.new.out c.append_zeros_to_byte.new.out c.append_zeros_to_byte.ensures in omega (arith, n)

pub append_block-requires-clause-room : goal.append_block-requires-clause-room
append_block-requires-clause-room c =
    let r = c.requires.room in
    let m = typed_length c.args.out.now c.append_ue.new.out c.append_ue.ensures in
    let s = same_room c.args.out.now c.append_ue.new.out (ue_bits 25) c.append_ue.ensures in
    let n = zeros_length c.append_ue.new.out c.append_zeros_to_byte.new.out c.append_zeros_to_byte.ensures in
    let t = same_room c.append_ue.new.out c.append_zeros_to_byte.new.out (align_bits (length c.append_ue.new.out.text)) c.append_zeros_to_byte.ensures in
    omega (arith, m, n, s, t)

pub append_block-requires-2-clause-whole : goal.append_block-requires-2-clause-whole
append_block-requires-2-clause-whole c =
    let n = zeros_length c.append_ue.new.out c.append_zeros_to_byte.new.out c.append_zeros_to_byte.ensures in
    let l = c.append_block.ensures.length in
    omega (arith, n, l)

pub append_block-requires-2-clause-room : goal.append_block-requires-2-clause-room
append_block-requires-2-clause-room c =
    let r = c.requires.room in
    let m = typed_length c.args.out.now c.append_ue.new.out c.append_ue.ensures in
    let s = same_room c.args.out.now c.append_ue.new.out (ue_bits 25) c.append_ue.ensures in
    let n = zeros_length c.append_ue.new.out c.append_zeros_to_byte.new.out c.append_zeros_to_byte.ensures in
    let t = same_room c.append_ue.new.out c.append_zeros_to_byte.new.out (align_bits (length c.append_ue.new.out.text)) c.append_zeros_to_byte.ensures in
    let l = c.append_block.ensures.length in
    let u = ap (λ (b : _). b.room) c.append_block.ensures.text in
    omega (arith, m, n, s, t, l, u)

pub append_block-requires-3-clause-whole : goal.append_block-requires-3-clause-whole
append_block-requires-3-clause-whole c =
    let n = zeros_length c.append_ue.new.out c.append_zeros_to_byte.new.out c.append_zeros_to_byte.ensures in
    let l = c.append_block.ensures.length in
    let k = c.append_block-2.ensures.length in
    omega (arith, n, l, k)

pub append_block-requires-3-clause-room : goal.append_block-requires-3-clause-room
append_block-requires-3-clause-room c =
    let r = c.requires.room in
    let m = typed_length c.args.out.now c.append_ue.new.out c.append_ue.ensures in
    let s = same_room c.args.out.now c.append_ue.new.out (ue_bits 25) c.append_ue.ensures in
    let n = zeros_length c.append_ue.new.out c.append_zeros_to_byte.new.out c.append_zeros_to_byte.ensures in
    let t = same_room c.append_ue.new.out c.append_zeros_to_byte.new.out (align_bits (length c.append_ue.new.out.text)) c.append_zeros_to_byte.ensures in
    let l = c.append_block.ensures.length in
    let u = ap (λ (b : _). b.room) c.append_block.ensures.text in
    let k = c.append_block-2.ensures.length in
    let v = ap (λ (b : _). b.room) c.append_block-2.ensures.text in
    omega (arith, m, n, s, t, l, u, k, v)

pub returns-clause-length : goal.returns-clause-length
returns-clause-length c =
    let m = typed_length c.args.out.now c.append_ue.new.out c.append_ue.ensures in
    let n = zeros_length c.append_ue.new.out c.append_zeros_to_byte.new.out c.append_zeros_to_byte.ensures in
    let l = c.append_block.ensures.length in
    let k = c.append_block-2.ensures.length in
    let j = c.append_block-3.ensures.length in
    omega (arith, m, n, l, k, j)

pub returns-clause-whole : goal.returns-clause-whole
returns-clause-whole c =
    let n = zeros_length c.append_ue.new.out c.append_zeros_to_byte.new.out c.append_zeros_to_byte.ensures in
    let l = c.append_block.ensures.length in
    let k = c.append_block-2.ensures.length in
    let j = c.append_block-3.ensures.length in
    omega (arith, n, l, k, j)

pub returns-clause-text : goal.returns-clause-text
returns-clause-text c =
    let p = c.args.picture.now in
    let a = c.args.across in
    let wide : p.y.width ≡ 16 * a = sym c.requires.picture.wide in
    let w = p.widths in
    let cb : p.cb.width ≡ 8 * a = let x = w.0 in omega arith in
    let cr : p.cr.width ≡ 8 * a = let x = w.1 in omega arith in
    pcm_text a c.args.k (length c.args.out.now.text) (planes_of p) c.args.out.now c.append_ue.new.out c.append_zeros_to_byte.new.out c.append_block.new.out c.append_block-2.new.out c.append_block-3.new.out refl
    c.append_ue.ensures c.append_zeros_to_byte.ensures
    (c.append_block.ensures.text ∙ ap (λ (w : ℕ). with_more c.append_zeros_to_byte.new.out (bits_of_bytes (block_at w 16 16 (16 * (c.args.k % a)) (16 * (c.args.k / a)) (samples_of p.y)))) wide)
    (c.append_block-2.ensures.text ∙ ap (λ (w : ℕ). with_more c.append_block.new.out (bits_of_bytes (block_at w 8 8 (8 * (c.args.k % a)) (8 * (c.args.k / a)) (samples_of p.cb)))) cb)
    (c.append_block-3.ensures.text ∙ ap (λ (w : ℕ). with_more c.append_block-2.new.out (bits_of_bytes (block_at w 8 8 (8 * (c.args.k % a)) (8 * (c.args.k / a)) (samples_of p.cr)))) cr)

pub returns-clause-bytes : goal.returns-clause-bytes
returns-clause-bytes c =
    let p = c.args.picture.now in
    let a = c.args.across in
    let wide : p.y.width ≡ 16 * a = sym c.requires.picture.wide in
    let w = p.widths in
    let cb : p.cb.width ≡ 8 * a = let x = w.0 in omega arith in
    let cr : p.cr.width ≡ 8 * a = let x = w.1 in omega arith in
    macroblock_bytes a c.args.k (planes_of p) p.y.width p.cb.width p.cr.width wide cb cr c.append_block.ensures.bytes c.append_block-2.ensures.bytes c.append_block-3.ensures.bytes
