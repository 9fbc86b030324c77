-- No bin of a macroblock ends the code.
use Rattle.std.proofs.Common.{◌≡◌, ℕ, zero, suc, ◌+◌, ◌*◌, ◌/◌, ◌%◌, ◌≤◌, Bool, true, false, cond, not, ◌&&◌, List, [], ◌∷◌, ◌++◌, Option, refl, ap, arith, get_or, length, slice_range}
use Rattle.std.specs.Prelude.{◌==◌, nat_le, ℤ}
use Rattle.enc_tables.specs.declared.records.MbKind.{MbKind}
use Rattle.enc_tables.specs.declared.records.MbRecord.{MbRecord}
use Rattle.enc_tables.specs.declared.records.SliceKind.{SliceKind}
use Rattle.enc_tables.specs.Kinds.{is_nxn, is_16x16, is_intra, is_skipped, has_motion, is_pcm}
use Rattle.spec_syntax.specs.Blocks.{block_string}
use Rattle.spec_contexts.specs.Increments.{weight, plain, doubled, bit_of, inc_skip, inc_type_i, inc_type_b, inc_transform, inc_chroma_mode, inc_luma_cbp, inc_chroma_cbp, inc_qp_delta, inc_luma_dc, inc_luma, inc_chroma_dc, inc_chroma_ac, inc_coded}
use Rattle.spec_syntax.specs.declared.ListUse.{ListUse}
use Rattle.spec_syntax.specs.Syntax.{flag_string}
use Rattle.spec_syntax.specs.Sequences.{string_where}
use Rattle.spec_syntax.specs.Elements.{IntraType, mode_flag, NxN, Pcm, Whole, intra_type_of, intra_type_string, mode_rem_string, chroma_mode_string, luma_pattern_string, inc_of, chroma_pattern_string, transform_flag, qp_delta_string, delta_at, chroma_mode_at, chroma_pattern_at}
use Rattle.spec_syntax.specs.Numbers.{low_first}
use Rattle.spec_syntax.specs.Inter.{has_inter, skip_at, type_string, p_type_of, p_type_by, b_type_of, b_type_by, block_use}
use Rattle.spec_slice_data.specs.Coding.{GoesOn}
use Rattle.spec_slice_data.proofs.Decoded.{goes_on_append}
use Rattle.spec_partitions.specs.Near.{Near, has_pattern, can_have_8x8, has_residual}
use Rattle.spec_partitions.specs.Inter.{is_four, sub_types_string}
use Rattle.spec_partitions.specs.Parts.{parts_string}
use Rattle.spec_macroblock.specs.Modes.{predicted, mode_count, mode_string, rem_of_mode}
use Rattle.spec_macroblock.specs.Strings.{inc_type, macroblock_string, head_string, mb_type_string, inter_transform_string, transform_string, mode_part_string, modes_string, intra_chroma_string, luma_pattern_incs, luma_cbp_string, chroma_cbp_string, difference, qp_string, luma_dc_string, luma4_string, luma8_string, luma_string, chroma_dc_part_string, chroma_dc_string, chroma_ac_part_string, chroma_ac_string}
use Rattle.spec_partitions.specs.Records.{is_in}
use Rattle.spec_macroblock.specs.Records.{IsRecord}
use Rattle.spec_partitions.proofs.InterGoesOn.{IsRead, ReadP, ReadB, skip_inc, type_b_inc, goes_p, goes_b, goes_subs, goes_inter}
use Rattle.spec_partitions.proofs.Contexts.{Plain, plain_below, plain_above, one_bin, goes_flag, goes_string, goes_where, goes_parts, goes_some, goes_block}

-- ---- increments

weight_small : (b : Bool) → weight b ≤ 1
weight_small true = omega arith
weight_small false = omega arith

plain_small : (a b : Bool) → plain a b ≤ 2
plain_small a b = omega (arith, weight_small a, weight_small b)

doubled_small : (a b : Bool) → doubled a b ≤ 3
doubled_small a b = omega (arith, weight_small a, weight_small b)

pub type_inc : (left above : Option MbRecord) → inc_type_i left above ≤ 2
unfolding inc_type_i
type_inc left above = plain_small _ _

transform_inc : (left above : Option MbRecord) → inc_transform left above ≤ 2
unfolding inc_transform
transform_inc left above = plain_small _ _

chroma_mode_inc : (left above : Option MbRecord) → inc_chroma_mode left above ≤ 2
unfolding inc_chroma_mode
chroma_mode_inc left above = plain_small _ _

luma_cbp_inc : (mb : MbRecord) (left above : Option MbRecord) (k : ℕ) → inc_luma_cbp mb left above k ≤ 3
unfolding inc_luma_cbp
luma_cbp_inc mb left above k = doubled_small _ _

chroma_cbp_inc : (left above : Option MbRecord) (second : Bool) → inc_chroma_cbp left above second ≤ 3
unfolding inc_chroma_cbp
chroma_cbp_inc left above second = doubled_small _ _

one_of_four : (p q r : Bool) (a b c d : ℕ) → a ≤ 3 → b ≤ 3 → c ≤ 3 → d ≤ 3 → cond p a (cond q b (cond r c d)) ≤ 3
one_of_four true q r a b c d ha hb hc hd = ha
one_of_four false true r a b c d ha hb hc hd = hb
one_of_four false false true a b c d ha hb hc hd = hc
one_of_four false false false a b c d ha hb hc hd = hd

coded_inc : (mb : MbRecord) (left above : Option MbRecord) (category component b : ℕ) → inc_coded mb left above category component b ≤ 3
unfolding inc_coded
coded_inc mb left above category component b =
    one_of_four (category == 0) (nat_le category 2) (category == 3) (inc_luma_dc mb left above) (inc_luma mb left above b) (inc_chroma_dc mb left above component) (inc_chroma_ac mb left above component b)
    (doubled_small _ _) (doubled_small _ _) (doubled_small _ _) (doubled_small _ _)

-- ---- elements

goes_whole : (inc mode chroma : ℕ) (ac : Bool) → inc ≤ 2 → chroma ≤ 2 → GoesOn (intra_type_string inc (Whole mode chroma ac))
unfolding intra_type_string GoesOn
goes_whole inc mode zero ac h k = (ap (λ t. t && true) (plain_below (3 + inc) (omega arith)), (refl, (refl, (refl, (refl, (refl, tt))))))
goes_whole inc mode (suc zero) ac h k = (ap (λ t. t && true) (plain_below (3 + inc) (omega arith)), (refl, (refl, (refl, (refl, (refl, (refl, tt)))))))
goes_whole inc mode (suc (suc zero)) ac h k = (ap (λ t. t && true) (plain_below (3 + inc) (omega arith)), (refl, (refl, (refl, (refl, (refl, (refl, tt)))))))
goes_whole inc mode (suc (suc (suc chroma))) ac h k = absurd (omega arith)

goes_nxn : (inc : ℕ) → inc ≤ 2 → GoesOn (intra_type_string inc NxN)
unfolding intra_type_string
goes_nxn inc h = one_bin (3 + inc) false (plain_below (3 + inc) (omega arith))

goes_i : (inc : ℕ) (t : IntraType) → inc ≤ 2 → IsRead t → GoesOn (intra_type_string inc t)
unfolding IsRead
goes_i inc NxN h k = goes_nxn inc h
goes_i inc Pcm h k = absurd k
goes_i inc (Whole mode chroma ac) h k = goes_whole inc mode chroma ac h k

-- I_PCM isn't among them
not_pcm : (s : SliceKind) (k : MbKind) → is_in s k ≡ true → is_pcm k ≡ false
not_pcm SliceKind.I MbKind.Pcm e = absurd cc
not_pcm SliceKind.P MbKind.Pcm e = absurd cc
not_pcm SliceKind.B MbKind.Pcm e = absurd cc
not_pcm s _ e = refl

is_read : (w p : Bool) (mode chroma : ℕ) (ac : Bool) → chroma ≤ 2 → p ≡ false → IsRead (cond w (Whole mode chroma ac) (cond p Pcm NxN))
unfolding IsRead
is_read true p mode chroma ac h e = h
is_read false true mode chroma ac h e = absurd cc
is_read false false mode chroma ac h e = tt

read_p : (k : MbKind) (t : IntraType) → IsRead t → ReadP (p_type_by k t)
unfolding ReadP
read_p MbKind.P16 t h = tt
read_p MbKind.P16x8 t h = tt
read_p MbKind.P8x16 t h = tt
read_p MbKind.P8x8 t h = tt
read_p _ t h = h

read_b : (k : MbKind) (u v w : ListUse) (t : IntraType) → IsRead t → ReadB (b_type_by k u v w t)
unfolding ReadB
read_b MbKind.BDirect u v w t h = tt
read_b MbKind.B16 u v w t h = tt
read_b MbKind.B16x8 u v w t h = tt
read_b MbKind.B8x16 u v w t h = tt
read_b MbKind.B8x8 u v w t h = tt
read_b _ u v w t h = h

pub goes_type : (near : Near) (mb : MbRecord) (s : SliceKind) → near.kind ≡ s → IsRecord near mb → GoesOn (type_string s (inc_type s near) mb)
goes_type near mb s e h = go s (is_read (is_16x16 mb.kind) (is_pcm mb.kind) (get_or mb.modes 0 0) mb.chroma_cbp (not (mb.luma_cbp == 0)) h.chroma_cbp_fits (not_pcm near.kind mb.kind h.in_slice))
  where
    go : (s : SliceKind) → IsRead (intra_type_of mb) → GoesOn (type_string s (inc_type s near) mb)
    go SliceKind.I r = goes_i (inc_type_i near.left near.above) (intra_type_of mb) (type_inc near.left near.above) r
    go SliceKind.P r = goes_p (p_type_of mb) (read_p mb.kind (intra_type_of mb) r)
    go SliceKind.B r = goes_b (inc_type_b near.left near.above) (b_type_of mb) (type_b_inc near.left near.above) (read_b mb.kind (block_use mb 0) (block_use mb 1) (block_use mb 2) (intra_type_of mb) r)

goes_mb_type : (near : Near) (mb : MbRecord) → IsRecord near mb → GoesOn (mb_type_string near mb)
unfolding mb_type_string
goes_mb_type near mb h = goes_type near mb near.kind refl h

skip_plain : (s : SliceKind) (inc : ℕ) → inc ≤ 2 → Plain (skip_at s inc)
skip_plain SliceKind.I inc h = plain_below (11 + inc) (omega arith)
skip_plain SliceKind.P inc h = plain_below (11 + inc) (omega arith)
skip_plain SliceKind.B inc h = plain_below (24 + inc) (omega arith)

goes_head : (near : Near) (mb : MbRecord) → IsRecord near mb → GoesOn (head_string near mb)
unfolding head_string
goes_head near mb h =
    let c = skip_at near.kind (inc_skip near.left near.above) in
    goes_on_append (string_where (has_inter near.kind) (flag_string c (is_skipped mb.kind))) _
    (goes_where (has_inter near.kind) (flag_string c (is_skipped mb.kind)) (goes_flag c (is_skipped mb.kind) (skip_plain near.kind (inc_skip near.left near.above) (skip_inc near.left near.above))))
    (goes_where (not (is_skipped mb.kind)) _ (goes_on_append (mb_type_string near mb) _ (goes_mb_type near mb h)
    (goes_on_append (string_where (is_four mb.kind) (sub_types_string near.kind mb)) _ (goes_where (is_four mb.kind) _ (goes_subs near.kind mb)) (goes_where (has_motion mb.kind) _ (goes_inter near mb)))))

goes_transform : (near : Near) (mb : MbRecord) → GoesOn (transform_string near mb)
unfolding transform_string
goes_transform near mb =
    let c = transform_flag (inc_transform near.left near.above) in
    goes_where (near.t8x8 && is_nxn mb.kind) (flag_string c mb.transform8) (goes_flag c mb.transform8 (plain_above c (omega (arith, transform_inc near.left near.above))))

goes_rem : (rem : ℕ) → GoesOn (mode_rem_string rem)
unfolding mode_rem_string
goes_rem rem = goes_string (λ before. 69) [] (low_first 3 rem) (λ xs. refl)

goes_mode : (p m : ℕ) → GoesOn (mode_string p m)
unfolding mode_string
goes_mode p m = go (m == p)
  where
    go : (b : Bool) → GoesOn (cond b (flag_string mode_flag true) (flag_string mode_flag false ++ mode_rem_string (rem_of_mode p m)))
    go true = goes_flag mode_flag true refl
    go false = goes_on_append (flag_string mode_flag false) (mode_rem_string (rem_of_mode p m)) (goes_flag mode_flag false refl) (goes_rem (rem_of_mode p m))

goes_inter_transform : (near : Near) (mb : MbRecord) → GoesOn (inter_transform_string near mb)
unfolding inter_transform_string
goes_inter_transform near mb =
    let c = transform_flag (inc_transform near.left near.above) in
    goes_where (near.t8x8 && can_have_8x8 mb) (flag_string c mb.transform8) (goes_flag c mb.transform8 (plain_above c (omega (arith, transform_inc near.left near.above))))

goes_modes : (near : Near) (mb : MbRecord) → GoesOn (modes_string near mb)
unfolding modes_string
goes_modes near mb = goes_where (is_nxn mb.kind) _ (goes_parts (mode_part_string near mb) (mode_count mb) (λ b lt. goes_mode (predicted mb near.left near.above b) (get_or mb.modes b 0)))

chroma_mode_plain : (inc : ℕ) → inc ≤ 2 → (xs : List Bool) → Plain (chroma_mode_at inc xs)
chroma_mode_plain inc h [] = plain_below (64 + inc) (omega arith)
chroma_mode_plain inc h (x ∷ xs) = refl

goes_chroma_mode : (inc mode : ℕ) → inc ≤ 2 → GoesOn (chroma_mode_string inc mode)
unfolding chroma_mode_string
goes_chroma_mode inc mode h = goes_string (chroma_mode_at inc) [] _ (chroma_mode_plain inc h)

goes_intra_chroma : (near : Near) (mb : MbRecord) → GoesOn (intra_chroma_string near mb)
unfolding intra_chroma_string
goes_intra_chroma near mb = goes_where (is_intra mb.kind) _ (goes_chroma_mode (inc_chroma_mode near.left near.above) mb.chroma_mode (chroma_mode_inc near.left near.above))

inc_small : (a b c d : ℕ) → a ≤ 3 → b ≤ 3 → c ≤ 3 → d ≤ 3 → (n : ℕ) → get_or (a ∷ b ∷ c ∷ d ∷ []) n 0 ≤ 3
inc_small a b c d ha hb hc hd zero = ha
inc_small a b c d ha hb hc hd (suc zero) = hb
inc_small a b c d ha hb hc hd (suc (suc zero)) = hc
inc_small a b c d ha hb hc hd (suc (suc (suc zero))) = hd
inc_small a b c d ha hb hc hd (suc (suc (suc (suc n)))) = omega arith

goes_luma_pattern : (inc : List Bool → ℕ) (pattern : ℕ) → ((xs : List Bool) → inc xs ≤ 3) → GoesOn (luma_pattern_string inc pattern)
unfolding luma_pattern_string
goes_luma_pattern inc pattern h = goes_string (λ before. 73 + inc before) [] (low_first 4 pattern) (λ xs. plain_below (73 + inc xs) (omega (arith, h xs)))

goes_luma_cbp : (near : Near) (mb : MbRecord) → GoesOn (luma_cbp_string near mb)
unfolding luma_cbp_string
goes_luma_cbp near mb =
    let small = luma_cbp_inc mb near.left near.above in
    goes_where (has_pattern mb.kind) _ (goes_luma_pattern (inc_of (luma_pattern_incs near mb)) mb.luma_cbp (λ xs. inc_small _ _ _ _ (small 0) (small 1) (small 2) (small 3) (length xs)))

chroma_pattern_plain : (first second : ℕ) → first ≤ 3 → second ≤ 3 → (xs : List Bool) → Plain (chroma_pattern_at first second xs)
chroma_pattern_plain first second h k [] = plain_below (77 + first) (omega arith)
chroma_pattern_plain first second h k (x ∷ xs) = plain_below (81 + second) (omega arith)

goes_chroma_pattern : (first second pattern : ℕ) → first ≤ 3 → second ≤ 3 → GoesOn (chroma_pattern_string first second pattern)
unfolding chroma_pattern_string
goes_chroma_pattern first second pattern h k = goes_string (chroma_pattern_at first second) [] _ (chroma_pattern_plain first second h k)

goes_chroma_cbp : (near : Near) (mb : MbRecord) → GoesOn (chroma_cbp_string near mb)
unfolding chroma_cbp_string
goes_chroma_cbp near mb =
    goes_where (has_pattern mb.kind) _ (goes_chroma_pattern (inc_chroma_cbp near.left near.above false) (inc_chroma_cbp near.left near.above true) mb.chroma_cbp (chroma_cbp_inc near.left near.above false) (chroma_cbp_inc near.left near.above true))

delta_plain : (inc : ℕ) → inc ≤ 1 → (xs : List Bool) → Plain (delta_at inc xs)
delta_plain inc h [] = plain_below (60 + inc) (omega arith)
delta_plain inc h (x ∷ []) = refl
delta_plain inc h (x ∷ y ∷ xs) = refl

goes_delta : (inc : ℕ) (d : ℤ) → inc ≤ 1 → GoesOn (qp_delta_string inc d)
unfolding qp_delta_string
goes_delta inc d h = goes_string (delta_at inc) [] _ (delta_plain inc h)

goes_qp : (near : Near) (mb : MbRecord) → GoesOn (qp_string near mb)
unfolding qp_string
goes_qp near mb = goes_where (has_residual mb) _ (goes_delta (inc_qp_delta near.last_delta) (difference near.qp mb.qp) (weight_small near.last_delta))

-- ---- the residual

goes_luma_dc : (near : Near) (mb : MbRecord) → GoesOn (luma_dc_string near mb)
unfolding luma_dc_string
goes_luma_dc near mb = goes_where (is_16x16 mb.kind) _ (goes_block 0 (inc_coded mb near.left near.above 0 0 0) 15 mb.luma_dc (coded_inc mb near.left near.above 0 0 0) (omega arith))

goes_luma4 : (near : Near) (mb : MbRecord) (b : ℕ) → GoesOn (luma4_string near mb b)
goes_luma4 near mb b = goes_where (bit_of mb.luma_cbp (b / 4)) _ (go (is_16x16 mb.kind))
  where
    go : (w : Bool) → GoesOn (elim w [
      | true ↦ block_string 1 (inc_coded mb near.left near.above 1 0 b) 14 (slice_range mb.luma (16 * b + 1) (16 * b + 16))
      | false ↦ block_string 2 (inc_coded mb near.left near.above 2 0 b) 15 (slice_range mb.luma (16 * b) (16 * b + 16))
    ])
    go true = goes_block 1 (inc_coded mb near.left near.above 1 0 b) 14 _ (coded_inc mb near.left near.above 1 0 b) (omega arith)
    go false = goes_block 2 (inc_coded mb near.left near.above 2 0 b) 15 _ (coded_inc mb near.left near.above 2 0 b) (omega arith)

goes_luma8 : (mb : MbRecord) (k : ℕ) → GoesOn (luma8_string mb k)
goes_luma8 mb k = goes_where (bit_of mb.luma_cbp k) _ (goes_some 5 63 _ (omega arith))

goes_luma : (near : Near) (mb : MbRecord) → GoesOn (luma_string near mb)
unfolding luma_string
goes_luma near mb = go mb.transform8
  where
    go : (t : Bool) → GoesOn (elim t [ true ↦ parts_string (luma8_string mb) 4 | false ↦ parts_string (luma4_string near mb) 16 ])
    go true = goes_parts (luma8_string mb) 4 (λ k lt. goes_luma8 mb k)
    go false = goes_parts (luma4_string near mb) 16 (λ b lt. goes_luma4 near mb b)

goes_chroma_dc : (near : Near) (mb : MbRecord) → GoesOn (chroma_dc_string near mb)
unfolding chroma_dc_string
goes_chroma_dc near mb = goes_parts (chroma_dc_part_string near mb) 2 (λ c lt.
    goes_where (not (mb.chroma_cbp == 0)) _ (goes_block 3 (inc_coded mb near.left near.above 3 c 0) 3 _ (coded_inc mb near.left near.above 3 c 0) (omega arith)))

goes_chroma_ac : (near : Near) (mb : MbRecord) → GoesOn (chroma_ac_string near mb)
unfolding chroma_ac_string
goes_chroma_ac near mb = goes_parts (chroma_ac_part_string near mb) 8 (λ j lt.
    goes_where (mb.chroma_cbp == 2) _ (goes_block 4 (inc_coded mb near.left near.above 4 (j / 4) (j % 4)) 14 _ (coded_inc mb near.left near.above 4 (j / 4) (j % 4)) (omega arith)))

-- ---- all of it

pub macroblock_goes_on : (near : Near) (mb : MbRecord) → IsRecord near mb → GoesOn (macroblock_string near mb)
unfolding macroblock_string
macroblock_goes_on near mb h =
    goes_on_append _ (chroma_ac_string near mb) (goes_on_append _ (chroma_dc_string near mb) (goes_on_append _ (luma_string near mb) (goes_on_append _ (luma_dc_string near mb) (goes_on_append _ (qp_string near mb)
    (goes_on_append _ (inter_transform_string near mb) (goes_on_append _ (chroma_cbp_string near mb) (goes_on_append _ (luma_cbp_string near mb) (goes_on_append _ (intra_chroma_string near mb) (goes_on_append _ (modes_string near mb)
    (goes_on_append (head_string near mb) (transform_string near mb) (goes_head near mb h) (goes_transform near mb)) (goes_modes near mb)) (goes_intra_chroma near mb)) (goes_luma_cbp near mb)) (goes_chroma_cbp near mb)) (goes_inter_transform near mb))
    (goes_qp near mb)) (goes_luma_dc near mb)) (goes_luma near mb)) (goes_chroma_dc near mb)) (goes_chroma_ac near mb)
