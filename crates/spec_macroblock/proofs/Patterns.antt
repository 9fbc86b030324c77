-- The coded block pattern and the QP of a macroblock.
use Rattle.std.proofs.Common.{◌≡◌, ℕ, suc, ◌+◌, ◌-◌, ◌%◌, ◌<◌, ◌≤◌, Bool, true, false, cond, not, ◌&&◌, List, [], length, refl, sym, ap, ap₂, subst, ◌∙◌, arith}
use Rattle.std.specs.Prelude.{◌==◌, ℤ, pos, negsuc, ◌-ℤ◌}
use Rattle.std.proofs.lemmas.Int.{ints}
use Rattle.enc_tables.specs.declared.records.MbRecord.{MbRecord}
use Rattle.enc_tables.specs.declared.records.MbKind.{MbKind}
use Rattle.enc_tables.specs.Kinds.{is_nxn, is_16x16, is_intra, is_skipped}
use Rattle.enc_tables.specs.Records.{blank_record}
use Rattle.spec_contexts.specs.Increments.{inc_transform, inc_luma_cbp, inc_chroma_cbp, inc_qp_delta}
use Rattle.spec_syntax.specs.Syntax.{Reads, done, flag, ◌>>=◌}
use Rattle.spec_syntax.specs.Sequences.{where_present, string_where}
use Rattle.spec_syntax.specs.Elements.{luma_pattern, luma_pattern_string, inc_of, chroma_pattern, transform_flag, qp_delta, qp_delta_string}
use Rattle.spec_syntax.proofs.Blocks.{reads_to, reads_where}
use Rattle.spec_syntax.proofs.Walks.{reads_flag, reads_done}
use Rattle.spec_syntax.proofs.Elements.{reads_luma_pattern, reads_chroma_pattern, reads_qp_delta, below_16}
use Rattle.spec_partitions.specs.Near.{Near, has_pattern, can_have_8x8, has_residual}
use Rattle.spec_macroblock.specs.Macroblock.{pattern_of, with_luma_pattern, with_chroma_pattern, with_inter_transform, moved, with_qp}
use Rattle.spec_macroblock.specs.Strings.{luma_pattern_incs, luma_cbp_string, chroma_cbp_string, inter_transform_string, difference, qp_string}
use Rattle.spec_macroblock.specs.Records.{TransformFits, WholeFits, QpFits, IsRecord}
use Rattle.spec_partitions.proofs.Parts.{reads_map, reads_map_to}
use Rattle.spec_macroblock.proofs.Heads.{nxn_transform, after_chroma_mode, after_luma_pattern, after_chroma_pattern, after_inter_transform, after_qp}

-- the increments by the bits so far are those by the whole pattern
abbrev inc_so_far : Near → MbRecord → List Bool → ℕ
inc_so_far near r bits = inc_luma_cbp (record r { luma_cbp = pattern_of bits }) near.left near.above (length bits)

pattern_same : (near : Near) (mb : MbRecord) (v : ℕ) → v < 16
    → luma_pattern_string (inc_so_far near (after_chroma_mode near mb)) v ≡ luma_pattern_string (inc_of (luma_pattern_incs near (record mb { luma_cbp = v }))) v
unfolding luma_pattern_string inc_luma_cbp
pattern_same near mb v h = below_16 (λ v. luma_pattern_string (inc_so_far near (after_chroma_mode near mb)) v ≡ luma_pattern_string (inc_of (luma_pattern_incs near (record mb { luma_cbp = v }))) v)
    refl refl refl refl refl refl refl refl refl refl refl refl refl refl refl refl v h

pattern_whole : (b : Bool) (mb : MbRecord) → WholeFits b mb → b ≡ true → cond b (cond (not (mb.luma_cbp == 0)) 15 0) 0 ≡ mb.luma_cbp
pattern_whole true mb h e = turned (mb.luma_cbp == 0) 15 0 ∙ sym h.1
  where
    turned : (z : Bool) (m n : ℕ) → cond (not z) m n ≡ cond z n m
    turned true m n = refl
    turned false m n = refl
pattern_whole false mb h e = absurd cc

-- without the element: of Intra 16x16 the type has the pattern, a skipped macroblock has none
pattern_other : (w s : Bool) (mb : MbRecord) → WholeFits w mb → (s ≡ true → mb.luma_cbp ≡ 0) → (not w && not s) ≡ false → cond w (cond (not (mb.luma_cbp == 0)) 15 0) 0 ≡ mb.luma_cbp
pattern_other true s mb h k e = pattern_whole true mb h refl
pattern_other false true mb h k e = sym (k refl)
pattern_other false false mb h k e = absurd cc

chroma_other : (w s : Bool) (mb : MbRecord) → (s ≡ true → mb.chroma_cbp ≡ 0) → (not w && not s) ≡ false → cond w mb.chroma_cbp 0 ≡ mb.chroma_cbp
chroma_other true s mb k e = refl
chroma_other false true mb k e = sym (k refl)
chroma_other false false mb k e = absurd cc

pub step_luma_pattern : (near : Near) (mb : MbRecord) → IsRecord near mb → Reads (with_luma_pattern near (after_chroma_mode near mb)) (luma_cbp_string near mb) (after_luma_pattern near mb)
unfolding with_luma_pattern luma_cbp_string blank_record
step_luma_pattern near mb h =
    let f = inc_so_far near (after_chroma_mode near mb) in
    let same = pattern_same near mb mb.luma_cbp (omega (arith, h.luma_cbp_fits)) in
    let read : Reads (luma_pattern f) (luma_pattern_string (inc_of (luma_pattern_incs near mb)) mb.luma_cbp) mb.luma_cbp =
    subst (λ xs. Reads (luma_pattern f) xs mb.luma_cbp) same (reads_luma_pattern f mb.luma_cbp (omega (arith, h.luma_cbp_fits))) in
    reads_map (where_present (has_pattern mb.kind) (after_chroma_mode near mb).luma_cbp (luma_pattern f)) (λ cbp. record (after_chroma_mode near mb) { luma_cbp = cbp }) _ mb.luma_cbp
    (reads_where (has_pattern mb.kind) _ _ _ mb.luma_cbp (λ e. read) (λ e. pattern_other (is_16x16 mb.kind) (is_skipped mb.kind) mb h.whole_fits (λ s. (h.cbp_blank s).0) e))

pub step_chroma_pattern : (near : Near) (mb : MbRecord) → IsRecord near mb → Reads (with_chroma_pattern near (after_luma_pattern near mb)) (chroma_cbp_string near mb) (after_chroma_pattern near mb)
unfolding with_chroma_pattern chroma_cbp_string blank_record
step_chroma_pattern near mb h =
    let first = inc_chroma_cbp near.left near.above false in
    let second = inc_chroma_cbp near.left near.above true in
    reads_map (where_present (has_pattern mb.kind) (after_luma_pattern near mb).chroma_cbp (chroma_pattern first second)) (λ cbp. record (after_luma_pattern near mb) { chroma_cbp = cbp }) _ mb.chroma_cbp
    (reads_where (has_pattern mb.kind) _ _ _ mb.chroma_cbp (λ e. reads_chroma_pattern first second mb.chroma_cbp (omega (arith, h.chroma_cbp_fits)))
    (λ e. chroma_other (is_16x16 mb.kind) (is_skipped mb.kind) mb (λ s. (h.cbp_blank s).1) e))

-- ---- transform_size_8x8_flag of inter macroblocks

-- where it isn't written
absent : (t luma t8 : Bool) → (t8 ≡ true → (t ≡ true) × (luma ≡ true)) → (t && luma) ≡ false → false ≡ t8
absent t luma false h e = refl
absent t luma true h e = let no : true ≡ false = sym (ap₂ (λ a b. a && b) (h refl).0 (h refl).1) ∙ e in absurd cc

transform_same : (t luma : Bool) (k : MbKind) (t8 : Bool) → TransformFits t k luma t8 → (t && (not (is_intra k) && luma)) ≡ false → (is_nxn k && t8) ≡ t8
transform_same t luma MbKind.Intra4 t8 h e = refl
transform_same t luma MbKind.Intra8 t8 h e = refl
transform_same t luma MbKind.Intra16 t8 h e = sym h
transform_same t luma MbKind.Pcm t8 h e = sym h
transform_same t luma _ t8 h e = absent t luma t8 h e

pub step_inter_transform : (near : Near) (mb : MbRecord) → IsRecord near mb → Reads (with_inter_transform near (after_chroma_pattern near mb)) (inter_transform_string near mb) (after_inter_transform near mb)
unfolding with_inter_transform inter_transform_string
step_inter_transform near mb h =
    let c = transform_flag (inc_transform near.left near.above) in
    reads_map (where_present (near.t8x8 && can_have_8x8 mb) (nxn_transform mb) (flag c)) (λ t8. record (after_chroma_pattern near mb) { transform8 = t8 }) _ mb.transform8
    (reads_where (near.t8x8 && can_have_8x8 mb) _ _ _ mb.transform8 (λ e. reads_flag c mb.transform8) (λ e. transform_same near.t8x8 (not (mb.luma_cbp == 0)) mb.kind mb.transform8 h.transform_fits e))

-- ---- mb_qp_delta

moved_there : (before qp : ℕ) (d : ℤ) → qp ≤ 51 → pos qp -ℤ pos before ≡ d → moved before d ≡ qp
moved_there before qp (pos n) h e =
    let sum : before + n ≡ qp = omega (arith, ints) in
    let same : before + n + 52 ≡ qp + 52 = omega arith in
    ap (λ x. x % 52) same ∙ omega arith
moved_there before qp (negsuc n) h e =
    let sum : qp + suc n ≡ before = omega (arith, ints) in
    let same : before + 52 - suc n ≡ qp + 52 = omega arith in
    ap (λ x. x % 52) same ∙ omega arith

reads_qp : (near : Near) (r : MbRecord) (qp : ℕ) (b : Bool) → QpFits b near.qp qp
    → Reads (where_present b near.qp (qp_delta (inc_qp_delta near.last_delta) >>= λ delta. done (moved near.qp delta))) (string_where b (qp_delta_string (inc_qp_delta near.last_delta) (difference near.qp qp))) qp
reads_qp near r qp true h =
    reads_map_to (qp_delta (inc_qp_delta near.last_delta)) (λ delta. moved near.qp delta) (qp_delta_string (inc_qp_delta near.last_delta) (difference near.qp qp)) (difference near.qp qp) qp
    (reads_qp_delta (inc_qp_delta near.last_delta) (difference near.qp qp) h.1) (moved_there near.qp qp (difference near.qp qp) h.0 refl)
reads_qp near r qp false h = reads_to (done near.qp) [] near.qp qp (reads_done near.qp) (sym h)

pub step_qp : (near : Near) (mb : MbRecord) → IsRecord near mb → Reads (with_qp near (after_inter_transform near mb)) (qp_string near mb) (after_qp near mb)
unfolding with_qp qp_string
step_qp near mb h =
    reads_map (where_present (has_residual mb) near.qp (qp_delta (inc_qp_delta near.last_delta) >>= λ delta. done (moved near.qp delta))) (λ qp. record (after_inter_transform near mb) { qp = qp }) _ mb.qp
    (reads_qp near mb mb.qp (has_residual mb) h.qp_fits)
