-- The first steps of a macroblock: type, transform flag, modes, pattern and QP.
use Rattle.std.proofs.Common.{◌≡◌, ℕ, ◌+◌, ◌-◌, ◌<◌, ◌≤◌, Bool, true, false, cond, not, ◌&&◌, List, [], ◌∷◌, ◌++◌, refl, sym, ap, subst, ◌∙◌, arith, take, drop, get_or, length, replicate}
use Rattle.std.specs.Prelude.{◌==◌}
use Rattle.std.proofs.lemmas.List.{ext_get_or, get_or-drop, get_or-replicate, length-replicate, length-drop, length-take-le, take-append-drop}
use Rattle.std.proofs.Math.Seq.{take-suc}
use Rattle.enc_tables.specs.declared.records.MbKind.{MbKind}
use Rattle.enc_tables.specs.declared.records.MbRecord.{MbRecord}
use Rattle.enc_tables.specs.Kinds.{is_nxn, is_16x16, is_intra}
use Rattle.enc_tables.specs.Records.{blank_record}
use Rattle.spec_contexts.specs.Increments.{inc_transform, inc_chroma_mode}
use Rattle.spec_syntax.specs.Syntax.{Reads, done, flag, flag_string, ◌>>=◌}
use Rattle.spec_syntax.specs.Sequences.{where_present, string_where}
use Rattle.spec_syntax.specs.Elements.{transform_flag, chroma_mode}
use Rattle.spec_syntax.proofs.Walks.{reads_flag, reads_done}
use Rattle.spec_syntax.proofs.Blocks.{reads_where}
use Rattle.spec_syntax.proofs.Elements.{reads_chroma_mode}
use Rattle.spec_partitions.specs.Near.{Near}
use Rattle.spec_partitions.specs.Parts.{parts, parts_string}
use Rattle.spec_macroblock.specs.Modes.{predicted, mode_count, mode, mode_string}
use Rattle.spec_macroblock.specs.Macroblock.{kind_with, with_transform, mode_part, with_modes, with_chroma_mode}
use Rattle.spec_macroblock.specs.Strings.{transform_string, mode_part_string, modes_string, intra_chroma_string}
use Rattle.spec_macroblock.specs.Records.{TransformFits, modes_used, IsRecord}
use Rattle.spec_partitions.proofs.Parts.{reads_map, reads_map_to, reads_parts}
use Rattle.spec_macroblock.proofs.Modes.{reads_mode, predicted_small, predicted_same}
use Rattle.spec_macroblock.proofs.Types.{kind_before, after_type}

-- ---- the record as far as it is read

-- whether an I_NxN macroblock has 8x8 transforms
abbrev pub nxn_transform : MbRecord → Bool
nxn_transform mb = is_nxn mb.kind && mb.transform8

abbrev pub after_transform : Near → MbRecord → MbRecord
after_transform near mb = record (after_type near mb) { kind = mb.kind; transform8 = nxn_transform mb }

abbrev pub after_modes : Near → MbRecord → MbRecord
after_modes near mb = record (after_transform near mb) { modes = mb.modes }

abbrev pub after_chroma_mode : Near → MbRecord → MbRecord
after_chroma_mode near mb = record (after_modes near mb) { chroma_mode = mb.chroma_mode }

abbrev pub after_luma_pattern : Near → MbRecord → MbRecord
after_luma_pattern near mb = record (after_chroma_mode near mb) { luma_cbp = mb.luma_cbp }

abbrev pub after_chroma_pattern : Near → MbRecord → MbRecord
after_chroma_pattern near mb = record (after_luma_pattern near mb) { chroma_cbp = mb.chroma_cbp }

abbrev pub after_inter_transform : Near → MbRecord → MbRecord
after_inter_transform near mb = record (after_chroma_pattern near mb) { transform8 = mb.transform8 }

abbrev pub after_qp : Near → MbRecord → MbRecord
after_qp near mb = record (after_inter_transform near mb) { qp = mb.qp }

-- ---- transform_size_8x8_flag of I_NxN

-- the step, at a record of any kind
TransformBack : ℕ → MbRecord → Bool → Bool → MbKind → Bool → Type 0
TransformBack c r t luma k t8 =
    Reads (where_present (t && is_nxn (kind_before k)) false (flag c) >>= λ x. done (record r { kind = kind_with x (kind_before k); transform8 = x })) (string_where (t && is_nxn k) (flag_string c t8)) (record r { kind = k; transform8 = is_nxn k && t8 })

no_flag : (c : ℕ) (r : MbRecord) (t : Bool) (k : MbKind) (t8 : Bool)
    → Reads (where_present (t && false) false (flag c) >>= λ x. done (record r { kind = kind_with x k; transform8 = x })) (string_where (t && false) (flag_string c t8)) (record r { kind = k; transform8 = false })
no_flag c r true k t8 = reads_done (record r { kind = k; transform8 = false })
no_flag c r false k t8 = reads_done (record r { kind = k; transform8 = false })

transform_four : (c : ℕ) (r : MbRecord) (t t8 : Bool) → t8 ≡ false
    → Reads (where_present (t && true) false (flag c) >>= λ x. done (record r { kind = kind_with x MbKind.Intra4; transform8 = x })) (string_where (t && true) (flag_string c t8)) (record r { kind = MbKind.Intra4; transform8 = t8 })
transform_four c r true false e = reads_map (flag c) (λ x. record r { kind = kind_with x MbKind.Intra4; transform8 = x }) (flag_string c false) false (reads_flag c false)
transform_four c r false false e = reads_done (record r { kind = MbKind.Intra4; transform8 = false })
transform_four c r t true e = absurd cc

transform_eight : (c : ℕ) (r : MbRecord) (t t8 : Bool) → (t ≡ true) × (t8 ≡ true)
    → Reads (where_present (t && true) false (flag c) >>= λ x. done (record r { kind = kind_with x MbKind.Intra4; transform8 = x })) (string_where (t && true) (flag_string c t8)) (record r { kind = MbKind.Intra8; transform8 = t8 })
transform_eight c r true true e = reads_map (flag c) (λ x. record r { kind = kind_with x MbKind.Intra4; transform8 = x }) (flag_string c true) true (reads_flag c true)
transform_eight c r true false e = absurd cc
transform_eight c r false t8 e = absurd cc

transform_as : (c : ℕ) (r : MbRecord) (t luma : Bool) (k : MbKind) (t8 : Bool) → TransformFits t k luma t8 → TransformBack c r t luma k t8
unfolding TransformBack
transform_as c r t luma MbKind.Intra4 t8 h = transform_four c r t t8 h
transform_as c r t luma MbKind.Intra8 t8 h = transform_eight c r t t8 h
transform_as c r t luma k t8 h = no_flag c r t k t8

pub step_transform : (near : Near) (mb : MbRecord) → IsRecord near mb → Reads (with_transform near (after_type near mb)) (transform_string near mb) (after_transform near mb)
unfolding with_transform transform_string blank_record TransformBack
step_transform near mb h = transform_as (transform_flag (inc_transform near.left near.above)) (after_type near mb) near.t8x8 (not (mb.luma_cbp == 0)) mb.kind mb.transform8 h.transform_fits

-- ---- intra modes

-- a list of 16 whose places from n on are 0
blank_tail : (ms : List ℕ) (n : ℕ) → length ms ≡ 16 → n ≤ 16 → ((i : ℕ) → n ≤ i → get_or ms i 0 ≡ 0) → drop n ms ≡ replicate (16 - n) 0
blank_tail ms n l h k = ext_get_or 0 (drop n ms) (replicate (16 - n) 0) (length-drop n ms ∙ ap (λ x. x - n) l ∙ sym (length-replicate (16 - n) 0)) (λ i lt.
    let small : i < 16 - n = rw (length-drop n ms, l) at lt in
    get_or-drop n ms i 0 ∙ k (n + i) (omega arith) ∙ sym (get_or-replicate (16 - n) i 0 0 small))

padded : (ms : List ℕ) (n : ℕ) → length ms ≡ 16 → n ≤ 16 → ((i : ℕ) → n ≤ i → get_or ms i 0 ≡ 0) → take n ms ++ replicate (16 - length (take n ms)) 0 ≡ ms
padded ms n l h k =
    let long : length (take n ms) ≡ n = length-take-le n ms (omega arith) in
    ap (λ m. take n ms ++ replicate (16 - m) 0) long ∙ ap (λ xs. take n ms ++ xs) (sym (blank_tail ms n l h k)) ∙ take-append-drop n ms

one_mode : (ms : List ℕ) → length ms ≡ 16 → ((i : ℕ) → 1 ≤ i → get_or ms i 0 ≡ 0) → get_or ms 0 0 ∷ replicate 15 0 ≡ ms
one_mode [] l k = absurd (omega arith)
one_mode (m ∷ ms) l k = ap (λ (xs : List ℕ). m ∷ xs) (sym (blank_tail (m ∷ ms) 1 l (omega arith) k))

-- an I_NxN macroblock's flag
nxn_is : (mb : MbRecord) → is_nxn mb.kind ≡ true → nxn_transform mb ≡ mb.transform8
nxn_is mb e = ap (λ b. b && mb.transform8) e

mode_at : (near : Near) (mb : MbRecord) → IsRecord near mb → is_nxn mb.kind ≡ true → (k : ℕ) → k < mode_count mb
    → Reads (mode_part near (after_transform near mb) k (take k mb.modes)) (mode_part_string near mb k) (get_or mb.modes k 0 ∷ [])
mode_at near mb h e k lt =
    let r : MbRecord = record (after_transform near mb) { modes = take k mb.modes } in
    let p = predicted mb near.left near.above k in
    let same : predicted r near.left near.above k ≡ p = predicted_same r mb near.left near.above k lt (record { kind_is = refl; transform_is = nxn_is mb e; modes_is = refl }) in
    let m = get_or mb.modes k 0 in
    let read : Reads (mode p) (mode_string p m) m = reads_mode p m (predicted_small mb near.left near.above k h.left_modes h.above_modes h.modes_known) (h.modes_known k) in
    reads_map (mode (predicted r near.left near.above k)) (λ x. x ∷ []) (mode_string p m) m (subst (λ x. Reads (mode x) (mode_string p m) m) (sym same) read)

count_small : (t : Bool) → cond t 4 16 ≤ 16
count_small true = omega arith
count_small false = omega arith

modes_nxn : (near : Near) (mb : MbRecord) → IsRecord near mb → is_nxn mb.kind ≡ true
    → Reads (parts (mode_part near (after_transform near mb)) (mode_count (after_transform near mb)) >>= λ modes. done (modes ++ replicate (16 - length modes) 0)) (parts_string (mode_part_string near mb) (mode_count mb)) mb.modes
modes_nxn near mb h e =
    let n = mode_count mb in
    let few : n ≤ 16 = count_small mb.transform8 in
    let front = reads_parts (mode_part near (after_transform near mb)) (mode_part_string near mb) (λ k. take k mb.modes) (λ k. get_or mb.modes k 0 ∷ []) n refl
    (λ k lt. sym (take-suc mb.modes k 0 (omega (arith, h.modes_length)))) (mode_at near mb h e) in
    let used : modes_used mb ≡ n = nxn_used mb.kind n e in
    subst (λ m. Reads (parts (mode_part near (after_transform near mb)) m >>= λ modes. done (modes ++ replicate (16 - length modes) 0)) (parts_string (mode_part_string near mb) n) mb.modes) (sym (ap (λ t. cond t 4 16) (nxn_is mb e)))
    (reads_map_to (parts (mode_part near (after_transform near mb)) n) (λ modes. modes ++ replicate (16 - length modes) 0) (parts_string (mode_part_string near mb) n) (take n mb.modes) mb.modes front
    (padded mb.modes n h.modes_length few (λ i le. h.modes_blank i (omega arith))))
  where
    nxn_used : (k : MbKind) (n : ℕ) → is_nxn k ≡ true → cond (is_16x16 k) 1 (cond (is_nxn k) n 0) ≡ n
    nxn_used MbKind.Intra4 n e = refl
    nxn_used MbKind.Intra8 n e = refl
    nxn_used _ n e = absurd cc

modes_other : (near : Near) (mb : MbRecord) → IsRecord near mb → (n w : Bool) → is_nxn mb.kind ≡ n → is_16x16 mb.kind ≡ w → n ≡ false → cond w (get_or mb.modes 0 0 ∷ replicate 15 0) (replicate 16 0) ≡ mb.modes
modes_other near mb h n true a b e =
    let used : modes_used mb ≡ 1 = ap (λ w. cond w 1 (cond (is_nxn mb.kind) (cond mb.transform8 4 16) 0)) b in
    one_mode mb.modes h.modes_length (λ i le. h.modes_blank i (omega arith))
modes_other near mb h n false a b e =
    let used : modes_used mb ≡ 0 = ap (λ w. cond w 1 (cond (is_nxn mb.kind) (cond mb.transform8 4 16) 0)) b ∙ ap (λ x. cond x (cond mb.transform8 4 16) 0) (a ∙ e) in
    sym (blank_tail mb.modes 0 h.modes_length (omega arith) (λ i le. h.modes_blank i (omega arith)))

pub step_modes : (near : Near) (mb : MbRecord) → IsRecord near mb → Reads (with_modes near (after_transform near mb)) (modes_string near mb) (after_modes near mb)
unfolding with_modes modes_string blank_record
step_modes near mb h =
    reads_map (where_present (is_nxn mb.kind) (after_transform near mb).modes (parts (mode_part near (after_transform near mb)) (mode_count (after_transform near mb)) >>= λ modes. done (modes ++ replicate (16 - length modes) 0)))
    (λ modes. record (after_transform near mb) { modes = modes }) (modes_string near mb) mb.modes
    (reads_where (is_nxn mb.kind) _ _ _ mb.modes (λ e. modes_nxn near mb h e) (λ e. modes_other near mb h (is_nxn mb.kind) (is_16x16 mb.kind) refl refl e))

-- ---- intra_chroma_pred_mode

pub step_chroma_mode : (near : Near) (mb : MbRecord) → IsRecord near mb → Reads (with_chroma_mode near (after_modes near mb)) (intra_chroma_string near mb) (after_chroma_mode near mb)
unfolding with_chroma_mode intra_chroma_string
step_chroma_mode near mb h =
    let inc = inc_chroma_mode near.left near.above in
    reads_map (where_present (is_intra mb.kind) 0 (chroma_mode inc)) (λ mode. record (after_modes near mb) { chroma_mode = mode }) _ mb.chroma_mode
    (reads_where (is_intra mb.kind) _ _ _ mb.chroma_mode (λ e. reads_chroma_mode inc mb.chroma_mode (omega (arith, h.chroma_mode_fits))) (λ e. sym (h.chroma_mode_blank e)))
