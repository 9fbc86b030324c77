-- The head of a macroblock is read back: mb_skip_flag, mb_type, and of inter macroblocks what is written of their partitions.
use Rattle.std.proofs.Common.{◌≡◌, ℕ, zero, suc, ◌<◌, Bool, true, false, cond, not, List, [], ◌∷◌, ◌++◌, refl, sym, ap, ap₂, subst, ◌∙◌, arith, get_or, replicate}
use Rattle.std.specs.Prelude.{◌==◌, slice_index_or, pos}
use Rattle.enc_tables.specs.declared.records.MbKind.{MbKind}
use Rattle.enc_tables.specs.declared.records.MbRecord.{MbRecord}
use Rattle.enc_tables.specs.declared.records.Motion.{Motion}
use Rattle.enc_tables.specs.declared.records.Vector.{Vector}
use Rattle.enc_tables.specs.declared.records.SliceKind.{SliceKind}
use Rattle.enc_tables.specs.Kinds.{is_16x16, is_skipped, has_motion, is_pcm}
use Rattle.enc_tables.specs.Records.{blank_record, zero_vector, no_motion, is_used}
use Rattle.spec_contexts.specs.Increments.{ref_of, inc_skip, inc_type_i, inc_type_b}
use Rattle.spec_syntax.specs.declared.Bin.{Bin}
use Rattle.spec_syntax.specs.declared.ListUse.{ListUse}
use Rattle.spec_syntax.specs.Syntax.{Syntax, Reads, done, nothing, flag, flag_string, ◌>>=◌}
use Rattle.spec_syntax.specs.Sequences.{where_present, string_where}
use Rattle.spec_syntax.specs.Elements.{IntraType, NxN, Pcm, Whole, intra_type_string}
use Rattle.spec_syntax.specs.Inter.{has_inter, skip_at, PType, p_type_string, p_type_by, BType, b_type_string, b_type_by, block_use, use_of, use_from, sub_type_p, sub_type, type_string}
use Rattle.spec_syntax.proofs.Walks.{reads_then, reads_flag, reads_done}
use Rattle.spec_syntax.proofs.Blocks.{reads_to}
use Rattle.spec_syntax.proofs.Elements.{reads_intra_type, below_4}
use Rattle.spec_syntax.proofs.Inter.{reads_p_type, reads_b_type, reads_sub_type}
use Rattle.spec_partitions.specs.Near.{Near, View}
use Rattle.spec_partitions.specs.Partitions.{shape_of, part_count, first_block, by_part, written_of, mvd_from}
use Rattle.spec_partitions.specs.Derived.{motion_from, motion_by}
use Rattle.spec_partitions.specs.Inter.{sub_part, sub_types, is_four, sub_part_string, sub_types_string, inter, inter_string, uses_of}
use Rattle.spec_macroblock.specs.Macroblock.{typed, partitioned, typed_p, typed_b, type_in, skipped_in, with_type}
use Rattle.spec_macroblock.specs.Strings.{inc_type, mb_type_string, head_string}
use Rattle.spec_partitions.specs.Records.{is_in, UsesFit, HasMotion}
use Rattle.spec_macroblock.specs.Records.{WholeFits, IsRecord}
use Rattle.spec_partitions.proofs.Parts.{reads_map, reads_last}
use Rattle.spec_partitions.proofs.Written.{reads_by_part, reads_inter}

-- ---- the record behind the head

-- the kind that the type alone tells
abbrev pub kind_before : MbKind → MbKind
kind_before MbKind.Intra8 = MbKind.Intra4
kind_before k = k

abbrev pub headed : Near → MbRecord → MbKind → MbRecord
headed near mb k = record (blank_record (kind_before k) near.qp) {
  modes = cond (is_16x16 k) (get_or mb.modes 0 0 ∷ replicate 15 0) (replicate 16 0);
  motion = mb.motion;
  mvd = mb.mvd;
  luma_cbp = cond (is_16x16 k) (cond (not (mb.luma_cbp == 0)) 15 0) 0;
  chroma_cbp = cond (is_16x16 k) mb.chroma_cbp 0;
}

abbrev pub after_type : Near → MbRecord → MbRecord
after_type near mb = headed near mb mb.kind

-- the motion of a record is that of its kind
same_headed : (view : View) (mb : MbRecord) → IsRecord view.near mb → HasMotion view mb → (k : MbKind) → mb.kind ≡ k
    → record (headed view.near mb k) { motion = motion_by view k (written_of mb); mvd = cond (has_motion k) (mvd_from k (written_of mb)) (replicate 8 zero_vector) } ≡ headed view.near mb k
same_headed view mb h g k e =
    let m : mb.motion ≡ motion_by view k (written_of mb) = g.same ∙ ap (λ k. motion_by view k (written_of mb)) e in
    let v : mb.mvd ≡ cond (has_motion k) (mvd_from k (written_of mb)) (replicate 8 zero_vector) = h.mvd_is ∙ ap (λ k. cond (has_motion k) (mvd_from k (written_of mb)) (replicate 8 zero_vector)) e in
    ap₂ (λ (m : List Motion) (v : List Vector). record (headed view.near mb k) { motion = m; mvd = v }) (sym m) (sym v)

-- ---- partitions

partitioned_back : (view : View) (mb : MbRecord) → IsRecord view.near mb → HasMotion view mb → (k : MbKind) → mb.kind ≡ k → has_motion k ≡ true → (uses : List ListUse) → uses_of mb ≡ uses
    → Reads (partitioned view k uses) (inter_string view.near mb) (record (blank_record k view.near.qp) { motion = motion_from view k (written_of mb); mvd = mvd_from k (written_of mb) })
unfolding partitioned
partitioned_back view mb h g k e m uses u =
    let moves : has_motion mb.kind ≡ true = ap has_motion e ∙ m in
    let read = reads_inter view.near mb (h.parts_fit moves) (h.mvds_fit moves) in
    let here : Reads (inter view.near k uses) (inter_string view.near mb) (written_of mb) =
    subst (λ us. Reads (inter view.near k us) (inter_string view.near mb) (written_of mb)) u (subst (λ k. Reads (inter view.near k (uses_of mb)) (inter_string view.near mb) (written_of mb)) e read) in
    reads_map (inter view.near k uses) (λ w. record (blank_record k view.near.qp) { motion = motion_from view k w; mvd = mvd_from k w }) (inter_string view.near mb) (written_of mb) here

-- the lists that are used, by kind
use_in : MbRecord → MbKind → ℕ → ListUse
use_in mb k part = use_from (is_used (ref_of mb 0 (first_block (shape_of k) part))) (is_used (ref_of mb 1 (first_block (shape_of k) part)))

uses_in : (mb : MbRecord) (k : MbKind) → mb.kind ≡ k → uses_of mb ≡ by_part (use_in mb k) (part_count (shape_of k))
unfolding use_in
uses_in mb k e = ap (λ k. by_part (use_in mb k) (part_count (shape_of k))) e

-- in P slices list 0 alone
use_p : (a b : Bool) → (a ≡ true) × (b ≡ false) → use_from a b ≡ ListUse.L0
use_p true false h = refl
use_p true true h = absurd cc
use_p false b h = absurd cc

fits_in : (near : Near) (s : SliceKind) (a b : Bool) → near.kind ≡ s → UsesFit near.kind a b → UsesFit s a b
fits_in near s a b e h = subst (λ s. UsesFit s a b) e h

use_0 : (view : View) (mb : MbRecord) → IsRecord view.near mb → HasMotion view mb → view.near.kind ≡ SliceKind.P → (k : MbKind) → mb.kind ≡ k → has_motion k ≡ true → (part : ℕ) → part < part_count (shape_of k) → use_in mb k part ≡ ListUse.L0
unfolding use_in
use_0 view mb h g s k e m part lt =
    let moves : has_motion mb.kind ≡ true = ap has_motion e ∙ m in
    let inside : part < part_count (shape_of mb.kind) = subst (λ k. part < part_count (shape_of k)) (sym e) lt in
    ap (λ k. use_in mb k part) (sym e) ∙ use_p _ _ (fits_in view.near SliceKind.P _ _ s (h.parts_fit moves part inside).uses)

-- the use of a block as its type says it
record Four (ms : List Motion) : Type 0 where
  a : Motion
  b : Motion
  c : Motion
  d : Motion
  same : ms ≡ a ∷ b ∷ c ∷ d ∷ []

UseIs : List Motion → ℕ → Type 0
UseIs ms k = use_of (get_or ms k no_motion) ≡ use_from (is_used (slice_index_or (slice_index_or ms k no_motion).refs 0 (pos 0))) (is_used (slice_index_or (slice_index_or ms k no_motion).refs 1 (pos 0)))

use_at : (a b c d : Motion) (k : ℕ) → k < 4 → UseIs (a ∷ b ∷ c ∷ d ∷ []) k
unfolding UseIs
use_at a b c d = below_4 (λ k. UseIs (a ∷ b ∷ c ∷ d ∷ []) k) refl refl refl refl

block_use_is : (mb : MbRecord) → Four mb.motion → (k : ℕ) → k < 4 → block_use mb k ≡ use_from (is_used (ref_of mb 0 k)) (is_used (ref_of mb 1 k))
unfolding UseIs
block_use_is mb f k lt = subst (λ ms. UseIs ms k) (sym f.same) (use_at f.a f.b f.c f.d k lt)

cond_true : {A : Type 0} (b : Bool) (x y : A) → b ≡ true → cond b x y ≡ x
cond_true true x y e = refl
cond_true false x y e = absurd cc

-- the motion of partitions has four blocks
four_blocks : (view : View) (mb : MbRecord) → IsRecord view.near mb → HasMotion view mb → (k : MbKind) → mb.kind ≡ k → has_motion k ≡ true → Four mb.motion
unfolding motion_from
four_blocks view mb h g k e m =
    record { a = _; b = _; c = _; d = _; same = g.same ∙ ap (λ k. motion_by view k (written_of mb)) e ∙ cond_true (has_motion k) (motion_from view k (written_of mb)) _ m }

-- ---- sub_mb_type

subs_p : (mb : MbRecord) → Reads (sub_types SliceKind.P) (sub_types_string SliceKind.P mb) (by_part (λ k. ListUse.L0) 4)
unfolding sub_types sub_types_string
subs_p mb = reads_by_part (sub_part SliceKind.P) (sub_part_string SliceKind.P mb) (λ k. ListUse.L0) 4
    (λ k lt. reads_last (flag sub_type_p) (λ whole. elim whole [ true ↦ done (ListUse.L0 ∷ []) | false ↦ nothing ]) (flag_string sub_type_p true) true (ListUse.L0 ∷ []) (reads_flag sub_type_p true) (reads_done (ListUse.L0 ∷ [])))

subs_b : (mb : MbRecord) → Reads (sub_types SliceKind.B) (sub_types_string SliceKind.B mb) (by_part (λ k. use_of (get_or mb.motion k no_motion)) 4)
unfolding sub_types sub_types_string
subs_b mb = reads_by_part (sub_part SliceKind.B) (sub_part_string SliceKind.B mb) (λ k. use_of (get_or mb.motion k no_motion)) 4
    (λ k lt. reads_map sub_type (λ u. u ∷ []) _ (use_of (get_or mb.motion k no_motion)) (reads_sub_type (use_of (get_or mb.motion k no_motion))))

-- ---- mb_type

-- the type of an intra macroblock of this kind
abbrev intra_in : MbRecord → MbKind → IntraType
intra_in mb k = cond (is_16x16 k) (Whole (get_or mb.modes 0 0) mb.chroma_cbp (not (mb.luma_cbp == 0))) (cond (is_pcm k) Pcm NxN)

abbrev string_in : SliceKind → Near → MbRecord → MbKind → List Bin
string_in SliceKind.I near mb k = intra_type_string (inc_type_i near.left near.above) (intra_in mb k)
string_in SliceKind.P near mb k = p_type_string (p_type_by k (intra_in mb k))
string_in SliceKind.B near mb k = b_type_string (inc_type_b near.left near.above) (b_type_by k (block_use mb 0) (block_use mb 1) (block_use mb 2) (intra_in mb k))

abbrev rest_in : SliceKind → Near → MbRecord → MbKind → List Bin
rest_in s near mb k = string_where (is_four k) (sub_types_string s mb) ++ string_where (has_motion k) (inter_string near mb)

-- intra macroblocks, behind any type
intra_4 : (view : View) (mb : MbRecord) → IsRecord view.near mb → HasMotion view mb → mb.kind ≡ MbKind.Intra4 → Reads (typed view.near.qp NxN) [] (headed view.near mb MbKind.Intra4)
unfolding blank_record
intra_4 view mb h g e = reads_to (typed view.near.qp NxN) [] _ (headed view.near mb MbKind.Intra4) (reads_done _) (same_headed view mb h g MbKind.Intra4 e)

intra_8 : (view : View) (mb : MbRecord) → IsRecord view.near mb → HasMotion view mb → mb.kind ≡ MbKind.Intra8 → Reads (typed view.near.qp NxN) [] (headed view.near mb MbKind.Intra8)
unfolding blank_record
intra_8 view mb h g e = reads_to (typed view.near.qp NxN) [] _ (headed view.near mb MbKind.Intra8) (reads_done _) (same_headed view mb h g MbKind.Intra8 e)

intra_16 : (view : View) (mb : MbRecord) → IsRecord view.near mb → HasMotion view mb → mb.kind ≡ MbKind.Intra16 → Reads (typed view.near.qp (intra_in mb MbKind.Intra16)) [] (headed view.near mb MbKind.Intra16)
unfolding blank_record
intra_16 view mb h g e = reads_to (typed view.near.qp (intra_in mb MbKind.Intra16)) [] _ (headed view.near mb MbKind.Intra16) (reads_done _) (same_headed view mb h g MbKind.Intra16 e)

-- the type of Intra 16x16 is in its range
whole_known : (view : View) (mb : MbRecord) → IsRecord view.near mb → HasMotion view mb → mb.kind ≡ MbKind.Intra16 → (get_or mb.modes 0 0 < 4) × (mb.chroma_cbp < 3)
whole_known view mb h g e =
    let w : WholeFits true mb = subst (λ b. WholeFits b mb) (ap is_16x16 e) h.whole_fits in
    (omega (arith, w.0), omega (arith, h.chroma_cbp_fits))

by_same : {A : Type 0} (f g : ℕ → A) (n : ℕ) → ((k : ℕ) → k < n → f k ≡ g k) → by_part f n ≡ by_part g n
unfolding by_part
by_same f g zero h = refl
by_same f g (suc n) h = ap₂ (λ xs x. xs ++ x ∷ []) (by_same f g n (λ k lt. h k (omega arith))) (h n (omega arith))

-- partitions, whose type is read
inter_of : (view : View) (mb : MbRecord) → IsRecord view.near mb → HasMotion view mb → (k : MbKind) → mb.kind ≡ k → has_motion k ≡ true → (uses : List ListUse) → by_part (use_in mb k) (part_count (shape_of k)) ≡ uses
    → (record (blank_record k view.near.qp) { motion = motion_from view k (written_of mb); mvd = mvd_from k (written_of mb) }) ≡ headed view.near mb k → Reads (partitioned view k uses) (inter_string view.near mb) (headed view.near mb k)
inter_of view mb h g k e m uses u same = reads_to (partitioned view k uses) (inter_string view.near mb) _ (headed view.near mb k) (partitioned_back view mb h g k e m uses (uses_in mb k e ∙ u)) same

all_first : (view : View) (mb : MbRecord) → IsRecord view.near mb → HasMotion view mb → view.near.kind ≡ SliceKind.P → (k : MbKind) → mb.kind ≡ k → has_motion k ≡ true → by_part (use_in mb k) (part_count (shape_of k)) ≡ by_part (λ part. ListUse.L0) (part_count (shape_of k))
all_first view mb h g s k e m = by_same (use_in mb k) (λ part. ListUse.L0) (part_count (shape_of k)) (use_0 view mb h g s k e m)

type_i : (view : View) (mb : MbRecord) → IsRecord view.near mb → HasMotion view mb → (k : MbKind) → mb.kind ≡ k → is_in SliceKind.I k ≡ true → Reads (type_in SliceKind.I view) (string_in SliceKind.I view.near mb k ++ rest_in SliceKind.I view.near mb k) (headed view.near mb k)
type_i view mb h g MbKind.Intra4 e q = reads_then (λ t. typed view.near.qp t) (reads_intra_type (inc_type_i view.near.left view.near.above) NxN tt) (intra_4 view mb h g e)
type_i view mb h g MbKind.Intra8 e q = reads_then (λ t. typed view.near.qp t) (reads_intra_type (inc_type_i view.near.left view.near.above) NxN tt) (intra_8 view mb h g e)
type_i view mb h g MbKind.Intra16 e q = reads_then (λ t. typed view.near.qp t) (reads_intra_type (inc_type_i view.near.left view.near.above) (intra_in mb MbKind.Intra16) (whole_known view mb h g e)) (intra_16 view mb h g e)
type_i view mb h g _ e q = absurd cc

type_p : (view : View) (mb : MbRecord) → IsRecord view.near mb → HasMotion view mb → view.near.kind ≡ SliceKind.P → (k : MbKind) → mb.kind ≡ k → is_in SliceKind.P k ≡ true → is_skipped k ≡ false
    → Reads (type_in SliceKind.P view) (string_in SliceKind.P view.near mb k ++ rest_in SliceKind.P view.near mb k) (headed view.near mb k)
unfolding by_part blank_record
type_p view mb h g s MbKind.Intra4 e q n = reads_then (λ t. typed_p view t) (reads_p_type (PType.Intra NxN) tt) (intra_4 view mb h g e)
type_p view mb h g s MbKind.Intra8 e q n = reads_then (λ t. typed_p view t) (reads_p_type (PType.Intra NxN) tt) (intra_8 view mb h g e)
type_p view mb h g s MbKind.Intra16 e q n = reads_then (λ t. typed_p view t) (reads_p_type (PType.Intra (intra_in mb MbKind.Intra16)) (whole_known view mb h g e)) (intra_16 view mb h g e)
type_p view mb h g s MbKind.P16 e q n = reads_then (λ t. typed_p view t) (reads_p_type PType.One tt) (inter_of view mb h g MbKind.P16 e refl (ListUse.L0 ∷ []) (all_first view mb h g s MbKind.P16 e refl) (same_headed view mb h g MbKind.P16 e))
type_p view mb h g s MbKind.P16x8 e q n = reads_then (λ t. typed_p view t) (reads_p_type PType.Rows tt) (inter_of view mb h g MbKind.P16x8 e refl (ListUse.L0 ∷ ListUse.L0 ∷ []) (all_first view mb h g s MbKind.P16x8 e refl) (same_headed view mb h g MbKind.P16x8 e))
type_p view mb h g s MbKind.P8x16 e q n = reads_then (λ t. typed_p view t) (reads_p_type PType.Columns tt) (inter_of view mb h g MbKind.P8x16 e refl (ListUse.L0 ∷ ListUse.L0 ∷ []) (all_first view mb h g s MbKind.P8x16 e refl) (same_headed view mb h g MbKind.P8x16 e))
type_p view mb h g s MbKind.P8x8 e q n = reads_then (λ t. typed_p view t) (reads_p_type PType.Four tt)
    (reads_then (λ uses. partitioned view MbKind.P8x8 uses) (subs_p mb) (inter_of view mb h g MbKind.P8x8 e refl (by_part (λ part. ListUse.L0) 4) (all_first view mb h g s MbKind.P8x8 e refl) (same_headed view mb h g MbKind.P8x8 e)))
type_p view mb h g s MbKind.PSkip e q n = absurd cc
type_p view mb h g s _ e q n = absurd cc

type_b : (view : View) (mb : MbRecord) → IsRecord view.near mb → HasMotion view mb → (k : MbKind) → mb.kind ≡ k → is_in SliceKind.B k ≡ true → is_skipped k ≡ false
    → Reads (type_in SliceKind.B view) (string_in SliceKind.B view.near mb k ++ rest_in SliceKind.B view.near mb k) (headed view.near mb k)
unfolding by_part blank_record use_in
type_b view mb h g MbKind.Intra4 e q n = reads_then (λ t. typed_b view t) (reads_b_type (inc_type_b view.near.left view.near.above) (BType.Intra NxN) tt) (intra_4 view mb h g e)
type_b view mb h g MbKind.Intra8 e q n = reads_then (λ t. typed_b view t) (reads_b_type (inc_type_b view.near.left view.near.above) (BType.Intra NxN) tt) (intra_8 view mb h g e)
type_b view mb h g MbKind.Intra16 e q n = reads_then (λ t. typed_b view t) (reads_b_type (inc_type_b view.near.left view.near.above) (BType.Intra (intra_in mb MbKind.Intra16)) (whole_known view mb h g e)) (intra_16 view mb h g e)
type_b view mb h g MbKind.BDirect e q n = reads_then (λ t. typed_b view t) (reads_b_type (inc_type_b view.near.left view.near.above) BType.Direct tt) (reads_to _ [] _ (headed view.near mb MbKind.BDirect) (reads_done _) (same_headed view mb h g MbKind.BDirect e))
type_b view mb h g MbKind.B16 e q n =
    let four = four_blocks view mb h g MbKind.B16 e refl in
    reads_then (λ t. typed_b view t) (reads_b_type (inc_type_b view.near.left view.near.above) (BType.One (block_use mb 0)) tt)
    (inter_of view mb h g MbKind.B16 e refl (block_use mb 0 ∷ []) (ap (λ u. u ∷ []) (sym (block_use_is mb four 0 (omega arith)))) (same_headed view mb h g MbKind.B16 e))
type_b view mb h g MbKind.B16x8 e q n =
    let four = four_blocks view mb h g MbKind.B16x8 e refl in
    reads_then (λ t. typed_b view t) (reads_b_type (inc_type_b view.near.left view.near.above) (BType.Rows (block_use mb 0) (block_use mb 2)) tt)
    (inter_of view mb h g MbKind.B16x8 e refl (block_use mb 0 ∷ block_use mb 2 ∷ []) (ap₂ (λ u v. u ∷ v ∷ []) (sym (block_use_is mb four 0 (omega arith))) (sym (block_use_is mb four 2 (omega arith)))) (same_headed view mb h g MbKind.B16x8 e))
type_b view mb h g MbKind.B8x16 e q n =
    let four = four_blocks view mb h g MbKind.B8x16 e refl in
    reads_then (λ t. typed_b view t) (reads_b_type (inc_type_b view.near.left view.near.above) (BType.Columns (block_use mb 0) (block_use mb 1)) tt)
    (inter_of view mb h g MbKind.B8x16 e refl (block_use mb 0 ∷ block_use mb 1 ∷ []) (ap₂ (λ u v. u ∷ v ∷ []) (sym (block_use_is mb four 0 (omega arith))) (sym (block_use_is mb four 1 (omega arith)))) (same_headed view mb h g MbKind.B8x16 e))
type_b view mb h g MbKind.B8x8 e q n = reads_then (λ t. typed_b view t) (reads_b_type (inc_type_b view.near.left view.near.above) BType.Four tt)
    (reads_then (λ uses. partitioned view MbKind.B8x8 uses) (subs_b mb) (inter_of view mb h g MbKind.B8x8 e refl (by_part (λ k. use_of (get_or mb.motion k no_motion)) 4) (by_same (use_in mb MbKind.B8x8) (λ k. use_of (get_or mb.motion k no_motion)) 4 (λ k lt. refl)) (same_headed view mb h g MbKind.B8x8 e)))
type_b view mb h g MbKind.BSkip e q n = absurd cc
type_b view mb h g _ e q n = absurd cc

-- ---- mb_skip_flag

behind_flag : (c : ℕ) (y : MbRecord) (s : Syntax MbRecord) (xs : List Bin) (v : MbRecord) → Reads s xs v → Reads (flag c >>= λ skipped. elim skipped [ true ↦ done y | false ↦ s ]) (flag_string c false ++ xs) v
behind_flag c y s xs v h = reads_then (λ skipped. elim skipped [ true ↦ done y | false ↦ s ]) (reads_flag c false) h

alone : (c : ℕ) (y : MbRecord) (s : Syntax MbRecord) (v : MbRecord) → y ≡ v → Reads (flag c >>= λ skipped. elim skipped [ true ↦ done y | false ↦ s ]) (flag_string c true ++ []) v
alone c y s v e = reads_then (λ skipped. elim skipped [ true ↦ done y | false ↦ s ]) (reads_flag c true) (reads_to (done y) [] y v (reads_done y) e)

HeadBack : View → MbRecord → SliceKind → MbKind → Bool → Type 0
HeadBack view mb s k skipped =
    Reads (where_present (has_inter s) false (flag (skip_at s (inc_skip view.near.left view.near.above))) >>= λ skipped. elim skipped [ true ↦ done (skipped_in s view) | false ↦ type_in s view ])
    (string_where (has_inter s) (flag_string (skip_at s (inc_skip view.near.left view.near.above)) skipped) ++ string_where (not skipped) (string_in s view.near mb k ++ rest_in s view.near mb k)) (headed view.near mb k)

head_i : (view : View) (mb : MbRecord) → IsRecord view.near mb → HasMotion view mb → (k : MbKind) → mb.kind ≡ k → is_in SliceKind.I k ≡ true → (b : Bool) → is_skipped k ≡ b → HeadBack view mb SliceKind.I k b
unfolding HeadBack
head_i view mb h g k e q false n = type_i view mb h g k e q
head_i view mb h g MbKind.PSkip e q true n = absurd cc
head_i view mb h g MbKind.BSkip e q true n = absurd cc
head_i view mb h g _ e q true n = absurd cc

head_p : (view : View) (mb : MbRecord) → IsRecord view.near mb → HasMotion view mb → view.near.kind ≡ SliceKind.P → (k : MbKind) → mb.kind ≡ k → is_in SliceKind.P k ≡ true → (b : Bool) → is_skipped k ≡ b → HeadBack view mb SliceKind.P k b
unfolding HeadBack blank_record
head_p view mb h g s k e q false n = behind_flag _ _ _ _ _ (type_p view mb h g s k e q n)
head_p view mb h g s MbKind.PSkip e q true n = alone _ _ _ _ (same_headed view mb h g MbKind.PSkip e)
head_p view mb h g s MbKind.BSkip e q true n = absurd cc
head_p view mb h g s _ e q true n = absurd cc

head_b : (view : View) (mb : MbRecord) → IsRecord view.near mb → HasMotion view mb → (k : MbKind) → mb.kind ≡ k → is_in SliceKind.B k ≡ true → (b : Bool) → is_skipped k ≡ b → HeadBack view mb SliceKind.B k b
unfolding HeadBack blank_record
head_b view mb h g k e q false n = behind_flag _ _ _ _ _ (type_b view mb h g k e q n)
head_b view mb h g MbKind.BSkip e q true n = alone _ _ _ _ (same_headed view mb h g MbKind.BSkip e)
head_b view mb h g MbKind.PSkip e q true n = absurd cc
head_b view mb h g _ e q true n = absurd cc

head_in : (view : View) (mb : MbRecord) → IsRecord view.near mb → HasMotion view mb → (s : SliceKind) → view.near.kind ≡ s → is_in s mb.kind ≡ true → HeadBack view mb s mb.kind (is_skipped mb.kind)
head_in view mb h g SliceKind.I s q = head_i view mb h g mb.kind refl q (is_skipped mb.kind) refl
head_in view mb h g SliceKind.P s q = head_p view mb h g s mb.kind refl q (is_skipped mb.kind) refl
head_in view mb h g SliceKind.B s q = head_b view mb h g mb.kind refl q (is_skipped mb.kind) refl

-- the type's string by its slice
type_string_in : (s : SliceKind) (near : Near) (mb : MbRecord) → type_string s (inc_type s near) mb ≡ string_in s near mb mb.kind
type_string_in SliceKind.I near mb = refl
type_string_in SliceKind.P near mb = refl
type_string_in SliceKind.B near mb = refl

pub step_type : (view : View) (mb : MbRecord) → IsRecord view.near mb → HasMotion view mb → Reads (with_type view) (head_string view.near mb) (after_type view.near mb)
unfolding with_type head_string mb_type_string HeadBack
step_type view mb h g =
    subst (λ xs. Reads (with_type view) (string_where (has_inter view.near.kind) (flag_string (skip_at view.near.kind (inc_skip view.near.left view.near.above)) (is_skipped mb.kind)) ++ string_where (not (is_skipped mb.kind)) (xs ++ rest_in view.near.kind view.near mb mb.kind)) (after_type view.near mb))
    (sym (type_string_in view.near.kind view.near mb)) (head_in view mb h g view.near.kind refl h.in_slice)
