-- The parts of a macroblock's string, by what their writers test.
use Rattle.std.proofs.Common.{◌≡◌, Bool, not, sym, ap, subst, ◌∙◌, ℕ, suc, ◌+◌, ◌/◌, ◌<◌, true, false, ◌==◌, List, [], ◌∷◌, ◌++◌, length, refl, arith}
use Rattle.std.specs.Prelude.{◌&&◌, pos}
use Rattle.std.proofs.lemmas.Bool.Decides.{nat_tests}
use Rattle.std.proofs.lemmas.List.{length-append, append-nil}
use Rattle.std.proofs.lemmas.Int.{ints}
use Rattle.enc_tables.specs.declared.records.MbRecord.{MbRecord}
use Rattle.enc_tables.specs.declared.records.MbKind.{MbKind}
use Rattle.enc_tables.specs.Kinds.{is_nxn, is_16x16, is_intra, is_skipped}
use Rattle.enc_tables.specs.declared.records.SliceKind.{SliceKind}
use Rattle.spec_syntax.specs.Sequences.{string_where}
use Rattle.spec_contexts.specs.Increments.{bit_of, inc_skip, inc_transform, inc_chroma_mode, inc_luma_cbp, inc_chroma_cbp, inc_qp_delta, inc_coded}
use Rattle.spec_syntax.specs.declared.Bin.{Bin}
use Rattle.spec_syntax.specs.Syntax.{at, flag_string}
use Rattle.spec_syntax.specs.Elements.{IntraType, NxN, Pcm, Whole, chroma_mode_string, luma_pattern_string, inc_of, chroma_pattern_string, qp_delta_string, mode_rem_string, intra_type_string}
use Rattle.spec_syntax.specs.Inter.{has_inter, skip_at, type_string}
use Rattle.spec_syntax.specs.Blocks.{block_string}
use Rattle.spec_partitions.specs.Near.{Near, has_pattern, can_have_8x8, has_residual}
use Rattle.spec_partitions.specs.Inter.{sub_part_string, sub_types_string}
use Rattle.spec_partitions.specs.Parts.{parts_string}
use Rattle.spec_macroblock.specs.Modes.{mode_count, mode_string, rem_of_mode}
use Rattle.spec_macroblock.specs.Strings.{inc_type, head_string, partitions_string, inter_transform_string, mb_type_string, transform_string, mode_part_string, modes_string, intra_chroma_string, luma_cbp_string, chroma_cbp_string, difference, qp_string, luma_dc_string, luma4_string, luma8_string, luma_string, chroma_dc_part_string, chroma_dc_string, chroma_ac_part_string, chroma_ac_string, macroblock_string}
use Rattle.spec_partitions.specs.Records.{is_in}
use Rattle.spec_macroblock.specs.Records.{IsRecord}

pub type_is : (near : Near) (mb : MbRecord) (inc : ℕ) → inc ≡ inc_type near.kind near → mb_type_string near mb ≡ type_string near.kind inc mb
unfolding mb_type_string
type_is near mb inc e = rw e refl

-- a test that a part goes by
pub where_true : (b : Bool) (bins : List Bin) → b ≡ true → string_where b bins ≡ bins
where_true true bins e = refl
where_true false bins e = absurd cc

pub where_false : (b : Bool) (bins : List Bin) → b ≡ false → string_where b bins ≡ []
where_false true bins e = absurd cc
where_false false bins e = refl

pub subs_are : (kind : SliceKind) (mb : MbRecord) → sub_types_string kind mb ≡ parts_string (sub_part_string kind mb) 4
unfolding sub_types_string
subs_are kind mb = refl

pub head_skipped : (near : Near) (mb : MbRecord) → is_skipped mb.kind ≡ true → head_string near mb ≡ string_where (has_inter near.kind) (flag_string (skip_at near.kind (inc_skip near.left near.above)) (is_skipped mb.kind))
unfolding head_string
head_skipped near mb e =
    ap (λ b. string_where (has_inter near.kind) (flag_string (skip_at near.kind (inc_skip near.left near.above)) (is_skipped mb.kind)) ++ string_where (not b) (mb_type_string near mb ++ partitions_string mb.kind near mb)) e
    ∙ append-nil (string_where (has_inter near.kind) (flag_string (skip_at near.kind (inc_skip near.left near.above)) (is_skipped mb.kind)))

pub head_coded : (near : Near) (mb : MbRecord) → is_skipped mb.kind ≡ false
    → head_string near mb ≡ string_where (has_inter near.kind) (flag_string (skip_at near.kind (inc_skip near.left near.above)) (is_skipped mb.kind)) ++ (mb_type_string near mb ++ partitions_string mb.kind near mb)
unfolding head_string
head_coded near mb e =
    ap (λ b. string_where (has_inter near.kind) (flag_string (skip_at near.kind (inc_skip near.left near.above)) (is_skipped mb.kind)) ++ string_where (not b) (mb_type_string near mb ++ partitions_string mb.kind near mb)) e

pub inter_transform_some : (near : Near) (mb : MbRecord) (inc : ℕ) → (near.t8x8 && can_have_8x8 mb) ≡ true → inc ≡ inc_transform near.left near.above → inter_transform_string near mb ≡ at (399 + inc) mb.transform8 ∷ []
unfolding inter_transform_string flag_string
inter_transform_some near mb inc h e = rw (h, e) refl

pub inter_transform_none : (near : Near) (mb : MbRecord) → (near.t8x8 && can_have_8x8 mb) ≡ false → inter_transform_string near mb ≡ []
unfolding inter_transform_string
inter_transform_none near mb h = rw h refl

pub transform_some : (near : Near) (mb : MbRecord) (inc : ℕ) → (near.t8x8 && is_nxn mb.kind) ≡ true → inc ≡ inc_transform near.left near.above → transform_string near mb ≡ at (399 + inc) mb.transform8 ∷ []
unfolding transform_string flag_string
transform_some near mb inc h e = rw (h, e) refl

pub transform_none : (near : Near) (mb : MbRecord) → (near.t8x8 && is_nxn mb.kind) ≡ false → transform_string near mb ≡ []
unfolding transform_string
transform_none near mb h = rw h refl

pub chroma_mode_is : (near : Near) (mb : MbRecord) (inc : ℕ) → is_intra mb.kind ≡ true → inc ≡ inc_chroma_mode near.left near.above → intra_chroma_string near mb ≡ chroma_mode_string inc mb.chroma_mode
unfolding intra_chroma_string
chroma_mode_is near mb inc h e = rw (h, e) refl

pub chroma_mode_none : (near : Near) (mb : MbRecord) → is_intra mb.kind ≡ false → intra_chroma_string near mb ≡ []
unfolding intra_chroma_string
chroma_mode_none near mb h = rw h refl

-- ---- modes

pub mode_same : (p m : ℕ) → m ≡ p → mode_string p m ≡ at 68 true ∷ []
unfolding mode_string flag_string
mode_same p m h = let e : (m == p) ≡ true = grind (arith, nat_tests) in rw e refl

pub mode_other : (p m : ℕ) → (m ≡ p → ⊥) → mode_string p m ≡ (at 68 false ∷ []) ++ mode_rem_string (rem_of_mode p m)
unfolding mode_string flag_string
mode_other p m h = let e : (m == p) ≡ false = grind (arith, nat_tests) in rw e refl

pub parts_none : (string : ℕ → List Bin) → parts_string string 0 ≡ []
unfolding parts_string
parts_none string = refl

pub parts_more : (string : ℕ → List Bin) (n : ℕ) → parts_string string (n + 1) ≡ parts_string string n ++ string n
unfolding parts_string
parts_more string n = let e : n + 1 ≡ suc n = omega arith in rw e refl

pub modes_some : (near : Near) (mb : MbRecord) → is_nxn mb.kind ≡ true → modes_string near mb ≡ parts_string (mode_part_string near mb) (mode_count mb)
unfolding modes_string
modes_some near mb h = rw h refl

pub modes_none : (near : Near) (mb : MbRecord) → is_nxn mb.kind ≡ false → modes_string near mb ≡ []
unfolding modes_string
modes_none near mb h = rw h refl

-- ---- patterns

pub luma_cbp_none : (near : Near) (mb : MbRecord) → has_pattern mb.kind ≡ false → luma_cbp_string near mb ≡ []
unfolding luma_cbp_string
luma_cbp_none near mb h = rw h refl

pub luma_cbp_some : (near : Near) (mb : MbRecord) (a b c d : ℕ) → has_pattern mb.kind ≡ true → a ≡ inc_luma_cbp mb near.left near.above 0 → b ≡ inc_luma_cbp mb near.left near.above 1
    → c ≡ inc_luma_cbp mb near.left near.above 2 → d ≡ inc_luma_cbp mb near.left near.above 3 → luma_cbp_string near mb ≡ luma_pattern_string (inc_of (a ∷ b ∷ c ∷ d ∷ [])) mb.luma_cbp
unfolding luma_cbp_string
luma_cbp_some near mb a b c d h p q r s = rw (h, p, q, r, s) refl

pub chroma_cbp_none : (near : Near) (mb : MbRecord) → has_pattern mb.kind ≡ false → chroma_cbp_string near mb ≡ []
unfolding chroma_cbp_string
chroma_cbp_none near mb h = rw h refl

pub chroma_cbp_some : (near : Near) (mb : MbRecord) (a b : ℕ) → has_pattern mb.kind ≡ true → a ≡ inc_chroma_cbp near.left near.above false → b ≡ inc_chroma_cbp near.left near.above true
    → chroma_cbp_string near mb ≡ chroma_pattern_string a b mb.chroma_cbp
unfolding chroma_cbp_string
chroma_cbp_some near mb a b h p q = rw (h, p, q) refl

no_difference : (qp : ℕ) → difference qp qp ≡ pos 0
no_difference qp = omega (arith, ints)

pub qp_some : (near : Near) (mb : MbRecord) (inc : ℕ) → near.qp ≡ mb.qp → has_residual mb ≡ true → inc ≡ inc_qp_delta near.last_delta → qp_string near mb ≡ qp_delta_string inc (pos 0)
unfolding qp_string
qp_some near mb inc q h e = rw (h, e, q, no_difference mb.qp) refl

pub qp_none : (near : Near) (mb : MbRecord) → has_residual mb ≡ false → qp_string near mb ≡ []
unfolding qp_string
qp_none near mb h = rw h refl

-- ---- the residual

pub luma_dc_some : (near : Near) (mb : MbRecord) (inc : ℕ) → is_16x16 mb.kind ≡ true → inc ≡ inc_coded mb near.left near.above 0 0 0 → luma_dc_string near mb ≡ block_string 0 inc 15 mb.luma_dc
unfolding luma_dc_string
luma_dc_some near mb inc h e = rw (h, e) refl

pub luma_dc_none : (near : Near) (mb : MbRecord) → is_16x16 mb.kind ≡ false → luma_dc_string near mb ≡ []
unfolding luma_dc_string
luma_dc_none near mb h = rw h refl

pub luma_by8 : (near : Near) (mb : MbRecord) → mb.transform8 ≡ true → luma_string near mb ≡ parts_string (luma8_string mb) 4
unfolding luma_string
luma_by8 near mb h = rw h refl

pub luma_by4 : (near : Near) (mb : MbRecord) → mb.transform8 ≡ false → luma_string near mb ≡ parts_string (luma4_string near mb) 16
unfolding luma_string
luma_by4 near mb h = rw h refl

pub chroma_dc_is : (near : Near) (mb : MbRecord) → chroma_dc_string near mb ≡ parts_string (chroma_dc_part_string near mb) 2
unfolding chroma_dc_string
chroma_dc_is near mb = refl

pub chroma_ac_is : (near : Near) (mb : MbRecord) → chroma_ac_string near mb ≡ parts_string (chroma_ac_part_string near mb) 8
unfolding chroma_ac_string
chroma_ac_is near mb = refl

pub luma4_none : (near : Near) (mb : MbRecord) (b : ℕ) → bit_of mb.luma_cbp (b / 4) ≡ false → luma4_string near mb b ≡ []
luma4_none near mb b h = rw h refl

pub luma8_none : (mb : MbRecord) (k : ℕ) → bit_of mb.luma_cbp k ≡ false → luma8_string mb k ≡ []
luma8_none mb k h = rw h refl

pub chroma_dc_none : (near : Near) (mb : MbRecord) (c : ℕ) → mb.chroma_cbp ≡ 0 → chroma_dc_part_string near mb c ≡ []
chroma_dc_none near mb c h = rw h refl

pub chroma_ac_none : (near : Near) (mb : MbRecord) (j : ℕ) → (mb.chroma_cbp ≡ 2 → ⊥) → chroma_ac_part_string near mb j ≡ []
chroma_ac_none near mb j h = let e : (mb.chroma_cbp == 2) ≡ false = grind (arith, nat_tests) in rw e refl

-- ---- all of it

longer : (xs ys : List Bin) → 0 < length xs → 0 < length (xs ++ ys)
longer xs ys h = omega (arith, h, length-append xs ys)

-- in I slices the type has a bin, in others the skip flag is one
i_bin : (inc : ℕ) (t : IntraType) → 0 < length (intra_type_string inc t)
unfolding intra_type_string
i_bin inc NxN = omega arith
i_bin inc Pcm = omega arith
i_bin inc (Whole mode chroma ac) = omega arith

flag_bin : (c : ℕ) (b : Bool) → 0 < length (flag_string c b)
unfolding flag_string
flag_bin c b = omega arith

-- skipped macroblocks aren't in I slices
not_skipped : (k : MbKind) → is_in SliceKind.I k ≡ true → is_skipped k ≡ false
not_skipped MbKind.PSkip e = absurd cc
not_skipped MbKind.BSkip e = absurd cc
not_skipped _ e = refl

head_bin : (near : Near) (mb : MbRecord) → IsRecord near mb → 0 < length (head_string near mb)
unfolding head_string mb_type_string
head_bin near mb h = go near.kind h.in_slice
  where
    go : (s : SliceKind) → is_in s mb.kind ≡ true
        → 0 < length (string_where (has_inter s) (flag_string (skip_at s (inc_skip near.left near.above)) (is_skipped mb.kind)) ++ string_where (not (is_skipped mb.kind)) (type_string s (inc_type s near) mb ++ partitions_string mb.kind near mb))
    go SliceKind.I e =
        subst (λ b. 0 < length (string_where (not b) (type_string SliceKind.I (inc_type SliceKind.I near) mb ++ partitions_string mb.kind near mb))) (sym (not_skipped mb.kind e))
        (longer (type_string SliceKind.I (inc_type SliceKind.I near) mb) (partitions_string mb.kind near mb) (i_bin _ _))
    go SliceKind.P e = longer (flag_string (skip_at SliceKind.P (inc_skip near.left near.above)) (is_skipped mb.kind)) _ (flag_bin _ _)
    go SliceKind.B e = longer (flag_string (skip_at SliceKind.B (inc_skip near.left near.above)) (is_skipped mb.kind)) _ (flag_bin _ _)

pub some_bin : (near : Near) (mb : MbRecord) → IsRecord near mb → 0 < length (macroblock_string near mb)
unfolding macroblock_string
some_bin near mb h =
    let a = longer (head_string near mb) (transform_string near mb) (head_bin near mb h) in
    let b = longer _ (modes_string near mb) a in
    let c = longer _ (intra_chroma_string near mb) b in
    let d = longer _ (luma_cbp_string near mb) c in
    let e = longer _ (chroma_cbp_string near mb) d in
    let t = longer _ (inter_transform_string near mb) e in
    let f = longer _ (qp_string near mb) t in
    let g = longer _ (luma_dc_string near mb) f in
    let i = longer _ (luma_string near mb) g in
    let j = longer _ (chroma_dc_string near mb) i in
    longer _ (chroma_ac_string near mb) j

pub macroblock_is : (near : Near) (mb : MbRecord) → macroblock_string near mb ≡
    (((((((((((head_string near mb ++ transform_string near mb) ++ modes_string near mb) ++ intra_chroma_string near mb) ++ luma_cbp_string near mb) ++ chroma_cbp_string near mb) ++ inter_transform_string near mb)
    ++ qp_string near mb) ++ luma_dc_string near mb) ++ luma_string near mb) ++ chroma_dc_string near mb) ++ chroma_ac_string near mb)
unfolding macroblock_string
macroblock_is near mb = refl
