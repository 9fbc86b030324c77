-- Partitioned macroblocks of P and B slices.
use Rattle.std.proofs.Common.{◌≡◌, ◌≤◌, ◌<◌, ◌+◌, ◌*◌, ◌^◌, ◌++◌, ℕ, ℤ, pos, Bool, true, false, cond, List, get_or, replicate, refl, sym, ap, ap₂, ◌∙◌, subst, arith}
use Rattle.std.specs.Prelude.{nat_abs, slice_index_or}
use Rattle.enc_tables.specs.declared.records.MbKind.{MbKind}
use Rattle.enc_tables.specs.declared.records.MbRecord.{MbRecord}
use Rattle.enc_tables.specs.declared.records.Motion.{Motion}
use Rattle.enc_tables.specs.declared.records.Vector.{Vector}
use Rattle.enc_tables.specs.Kinds.{is_intra, is_skipped, has_motion}
use Rattle.enc_tables.specs.Records.{zero_vector, no_motion, is_used}
use Rattle.spec_syntax.specs.Inter.{IsDifference}
use Rattle.spec_partitions.specs.Near.{Near, View}
use Rattle.spec_partitions.specs.Partitions.{shape_of, part_count, first_block, part_ref, part_mvd, written_of, mvd_from, four_vectors}
use Rattle.spec_partitions.specs.Records.{is_in, RefFits, UsesFit, MvdFits, HasMotion}
use Rattle.spec_macroblock.specs.Records.{IsRecord}
use Rattle.spec_partitions.proofs.ByPart.{shape_small, below_2}
use Rattle.spec_partitions.specs.Derived.{given, given_mvd}
use Rattle.spec_partitions.proofs.Coded.{by_equal, ref_given_0, ref_given_1, mvd_given_0, mvd_given_1, coded_has_motion}
use Rattle.spec_partitions.specs.Small.{Small, AllSmall, ViewSmall}
use Rattle.spec_reconstruction.specs.declared.Site.{Site}
use Rattle.spec_record_laws.specs.Coded.{Stands}
use Rattle.spec_inter_records.proofs.Made.{inter_record, LevelsFit, FlagFits, PartsStand}
use Rattle.spec_coded.specs.Planned.{coded_difference}
use Rattle.spec_inter_records.proofs.Fits.{inter_fits}
use Rattle.spec_inter_records.proofs.Differences.{is_vector, first_small, second_small, given_small}

-- what the search gives the partitions: references of the lists, and vectors that are small, zero where a list isn't used
pub record FieldsChosen (near : Near) (most : ℕ) (shape : ℕ) (r0 r1 : ℕ → ℤ) (v0 v1 : ℕ → Vector) : Type 0 where
  pub first : (part : ℕ) → part < part_count shape → RefFits near.refs0 (r0 part)
  pub second : (part : ℕ) → part < part_count shape → RefFits near.refs1 (r1 part)
  pub uses : (part : ℕ) → part < part_count shape → UsesFit near.kind (is_used (r0 part)) (is_used (r1 part))
  pub small0 : (part : ℕ) → part < part_count shape → Small most (v0 part)
  pub small1 : (part : ℕ) → part < part_count shape → Small most (v1 part)
  pub unused0 : (part : ℕ) → part < part_count shape → is_used (r0 part) ≡ false → v0 part ≡ zero_vector
  pub unused1 : (part : ℕ) → part < part_count shape → is_used (r1 part) ≡ false → v1 part ≡ zero_vector

-- a record with that motion, and with the differences from what is predicted
pub record IsCoded (view : View) (mb : MbRecord) (r0 r1 : ℕ → ℤ) (v0 v1 : ℕ → Vector) : Type 0 where
  pub motion : mb.motion ≡ given (shape_of mb.kind) r0 r1 v0 v1
  pub mvd : mb.mvd ≡ given_mvd (shape_of mb.kind) (coded_difference view (shape_of mb.kind) mb.motion 0 r0 v0) (coded_difference view (shape_of mb.kind) mb.motion 1 r1 v1)

pub parts_move : (view : View) (most : ℕ) (mb : MbRecord) (r0 r1 : ℕ → ℤ) (v0 v1 : ℕ → Vector) → has_motion mb.kind ≡ true → IsCoded view mb r0 r1 v0 v1
    → FieldsChosen view.near most (shape_of mb.kind) r0 r1 v0 v1 → HasMotion view mb
parts_move view most mb r0 r1 v0 v1 moves c p =
    coded_has_motion view mb r0 r1 v0 v1 (coded_difference view (shape_of mb.kind) mb.motion 0 r0 v0) (coded_difference view (shape_of mb.kind) mb.motion 1 r1 v1) moves c.motion c.mvd
    (λ part lt. is_vector view (shape_of mb.kind) mb.motion 0 r0 v0 part (p.unused0 part lt)) (λ part lt. is_vector view (shape_of mb.kind) mb.motion 1 r1 v1 part (p.unused1 part lt))

unused_none : (view : View) (shape : ℕ) (motion : List Motion) (list : ℕ) (r : ℕ → ℤ) (v : ℕ → Vector) (part : ℕ) → is_used (r part) ≡ false → coded_difference view shape motion list r v part ≡ zero_vector
unfolding coded_difference
unused_none view shape motion list r v part e = rw e refl

is_difference : (most : ℕ) (z : ℤ) → most + most ≤ 2 ^ 15 → nat_abs z ≤ most + most → IsDifference z
is_difference most z h k = omega arith

-- a difference that stands in the record
mvd_fits : (mb : MbRecord) (list part most : ℕ) (d : Vector) → most + most ≤ 2 ^ 15 → part_mvd mb list part ≡ d → Small (most + most) d → (is_used (part_ref mb list part) ≡ false → d ≡ zero_vector) → MvdFits mb list part
mvd_fits mb list part most d h e s none = record {
  across = subst (λ (x : Vector). IsDifference x.x) (sym e) (is_difference most d.x h s.across);
  down = subst (λ (x : Vector). IsDifference x.y) (sym e) (is_difference most d.y h s.down);
  blank = λ u. e ∙ none u;
}

pub parts_stand : (view : View) (most : ℕ) (mb : MbRecord) (r0 r1 : ℕ → ℤ) (v0 v1 : ℕ → Vector) → has_motion mb.kind ≡ true → IsCoded view mb r0 r1 v0 v1
    → most + most ≤ 2 ^ 15 → ViewSmall most view → FieldsChosen view.near most (shape_of mb.kind) r0 r1 v0 v1 → PartsStand view.near mb
parts_stand view most mb r0 r1 v0 v1 moves c few v p =
    let shape = shape_of mb.kind in
    let n = part_count shape in
    let s = shape_small mb.kind in
    let d0 = coded_difference view shape mb.motion 0 r0 v0 in
    let d1 = coded_difference view shape mb.motion 1 r1 v1 in
    let all : AllSmall most mb.motion = subst (λ (ms : List Motion). AllSmall most ms) (sym c.motion) (given_small most shape r0 r1 v0 v1 s p.small0 p.small1) in
    let r0_is : (k : ℕ) → k < n → part_ref mb 0 k ≡ r0 k = λ k lt. ap (λ (ms : List Motion). slice_index_or (slice_index_or ms (first_block shape k) no_motion).refs 0 (pos 0)) c.motion ∙ ref_given_0 r0 r1 v0 v1 shape k s lt in
    let r1_is : (k : ℕ) → k < n → part_ref mb 1 k ≡ r1 k = λ k lt. ap (λ (ms : List Motion). slice_index_or (slice_index_or ms (first_block shape k) no_motion).refs 1 (pos 0)) c.motion ∙ ref_given_1 r0 r1 v0 v1 shape k s lt in
    let d0_is : (k : ℕ) → k < n → part_mvd mb 0 k ≡ d0 k = λ k lt. ap (λ (vs : List Vector). get_or vs (4 * 0 + first_block shape k) zero_vector) c.mvd ∙ mvd_given_0 d0 d1 shape k s lt in
    let d1_is : (k : ℕ) → k < n → part_mvd mb 1 k ≡ d1 k = λ k lt. ap (λ (vs : List Vector). get_or vs (4 * 1 + first_block shape k) zero_vector) c.mvd ∙ mvd_given_1 d0 d1 shape k s lt in
    record {
      parts_fit = λ e part lt. record {
        first = subst (λ (r : ℤ). RefFits view.near.refs0 r) (sym (r0_is part lt)) (p.first part lt);
        second = subst (λ (r : ℤ). RefFits view.near.refs1 r) (sym (r1_is part lt)) (p.second part lt);
        uses = subst (λ (r : ℤ). UsesFit view.near.kind (is_used r) (is_used (part_ref mb 1 part))) (sym (r0_is part lt)) (subst (λ (r : ℤ). UsesFit view.near.kind (is_used (r0 part)) (is_used r)) (sym (r1_is part lt)) (p.uses part lt));
      };
      mvds_fit = λ e. below_2 (λ list. (part : ℕ) → part < n → MvdFits mb list part)
          (λ part lt. mvd_fits mb 0 part most (d0 part) few (d0_is part lt) (first_small most view mb.motion r0 v0 v all shape part s lt (p.small0 part lt)) (λ u. unused_none view shape mb.motion 0 r0 v0 part (ap is_used (sym (r0_is part lt)) ∙ u)))
          (λ part lt. mvd_fits mb 1 part most (d1 part) few (d1_is part lt) (second_small most view mb.motion r1 v1 v all shape part s lt (p.small1 part lt)) (λ u. unused_none view shape mb.motion 1 r1 v1 part (ap is_used (sym (r1_is part lt)) ∙ u)));
      mvd_is = c.mvd ∙ sym (ap₂ (λ (xs ys : List Vector). four_vectors shape xs ++ four_vectors shape ys) (by_equal (part_mvd mb 0) d0 n d0_is) (by_equal (part_mvd mb 1) d1 n d1_is))
          ∙ sym (ap (λ b. cond b (mvd_from mb.kind (written_of mb)) (replicate 8 zero_vector)) moves);
    }

moves_not_skipped : (k : MbKind) → has_motion k ≡ true → is_skipped k ≡ false
moves_not_skipped MbKind.PSkip h = absurd cc
moves_not_skipped MbKind.BSkip h = absurd cc
moves_not_skipped _ h = refl

pub moves_not_intra : (k : MbKind) → has_motion k ≡ true → is_intra k ≡ false
moves_not_intra MbKind.Pcm h = absurd cc
moves_not_intra MbKind.Intra4 h = absurd cc
moves_not_intra MbKind.Intra8 h = absurd cc
moves_not_intra MbKind.Intra16 h = absurd cc
moves_not_intra _ h = refl

-- the record that the encoder makes of a partitioned macroblock
abbrev pub coded_parts : View → MbKind → Bool → (ℕ → ℤ) → (ℕ → ℤ) → (ℕ → Vector) → (ℕ → Vector) → ℕ → List ℤ → List ℤ → List ℤ → MbRecord
coded_parts view kind transform8 r0 r1 v0 v1 qp luma dc ac =
    inter_record kind transform8 (given (shape_of kind) r0 r1 v0 v1)
    (given_mvd (shape_of kind) (coded_difference view (shape_of kind) (given (shape_of kind) r0 r1 v0 v1) 0 r0 v0) (coded_difference view (shape_of kind) (given (shape_of kind) r0 r1 v0 v1) 1 r1 v1)) qp luma dc ac

coded_is : (view : View) (kind : MbKind) (transform8 : Bool) (r0 r1 : ℕ → ℤ) (v0 v1 : ℕ → Vector) (qp : ℕ) (luma dc ac : List ℤ) → IsCoded view (coded_parts view kind transform8 r0 r1 v0 v1 qp luma dc ac) r0 r1 v0 v1
unfolding inter_record
coded_is view kind transform8 r0 r1 v0 v1 qp luma dc ac = record { motion = refl; mvd = refl }

pub coded_parts_fit : (view : View) (site : Site) (most : ℕ) (kind : MbKind) (transform8 : Bool) (r0 r1 : ℕ → ℤ) (v0 v1 : ℕ → Vector) (luma dc ac : List ℤ)
    → Stands view.near site → has_motion kind ≡ true → is_in view.near.kind kind ≡ true → LevelsFit luma dc ac → FlagFits view.near.t8x8 transform8 luma
    → most + most ≤ 2 ^ 15 → ViewSmall most view → FieldsChosen view.near most (shape_of kind) r0 r1 v0 v1
    → IsRecord view.near (coded_parts view kind transform8 r0 r1 v0 v1 site.qp luma dc ac)
unfolding inter_record
coded_parts_fit view site most kind transform8 r0 r1 v0 v1 luma dc ac s moves here l t few v p =
    let skipped : is_skipped kind ≡ false = moves_not_skipped kind moves in
    inter_fits view.near site kind transform8 _ _ luma dc ac s (moves_not_intra kind moves) here l t (λ e. absurd cc)
    (parts_stand view most (coded_parts view kind transform8 r0 r1 v0 v1 site.qp luma dc ac) r0 r1 v0 v1 moves (coded_is view kind transform8 r0 r1 v0 v1 site.qp luma dc ac) few v p)

pub coded_parts_move : (view : View) (most : ℕ) (kind : MbKind) (transform8 : Bool) (r0 r1 : ℕ → ℤ) (v0 v1 : ℕ → Vector) (qp : ℕ) (luma dc ac : List ℤ)
    → has_motion kind ≡ true → FieldsChosen view.near most (shape_of kind) r0 r1 v0 v1 → HasMotion view (coded_parts view kind transform8 r0 r1 v0 v1 qp luma dc ac)
unfolding inter_record
coded_parts_move view most kind transform8 r0 r1 v0 v1 qp luma dc ac moves p =
    parts_move view most (coded_parts view kind transform8 r0 r1 v0 v1 qp luma dc ac) r0 r1 v0 v1 moves (coded_is view kind transform8 r0 r1 v0 v1 qp luma dc ac) p
