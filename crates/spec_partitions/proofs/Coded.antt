-- Motion that is predicted from the motion of both lists is what follows list by list.
use Rattle.std.proofs.Common.{◌≡◌, ℕ, zero, suc, ◌+◌, ◌*◌, ◌<◌, ◌≤◌, Bool, true, false, cond, ◌&&◌, List, [], ◌∷◌, ◌++◌, Option, Some, None, refl, sym, ap, ap₂, subst, ◌∙◌, arith, get_or, replicate}
use Rattle.std.specs.Prelude.{ℤ, pos, negsuc, nat_lt, is_none, is_some, if◌then◌else◌, slice_index_or}
use Rattle.std.specs.Option.{option_or}
use Rattle.std.specs.Ordering.{int_eq}
use borrow.Author.Tests.{ltb-true}
use Rattle.enc_tables.specs.declared.records.MbKind.{MbKind}
use Rattle.enc_tables.specs.declared.records.Motion.{Motion}
use Rattle.enc_tables.specs.declared.records.Vector.{Vector}
use Rattle.enc_tables.specs.declared.records.MbRecord.{MbRecord}
use Rattle.enc_tables.specs.Kinds.{is_skipped, is_direct, has_motion}
use Rattle.enc_tables.specs.Records.{zero_vector, no_motion, is_used}
use Rattle.spec_motion.specs.declared.Field.{Field}
use Rattle.spec_motion.specs.Neighbours.{reference_of, vector_of}
use Rattle.spec_motion.specs.Prediction.{median, only, predicted}
use Rattle.spec_syntax.proofs.Elements.{below_4}
use Rattle.spec_partitions.specs.Near.{View}
use Rattle.spec_partitions.specs.Partitions.{shape_of, part_count, first_block, part_of, by_part, Written, part_ref, part_mvd, written_of, ref_in, vector_in, block_motion, four_motions}
use Rattle.spec_partitions.specs.Derived.{part_field, in_list, own_block, own_blocks, plus, vector_after, vectors, motion_from, skip_motion, direct_motion, known_block, known_blocks, given, given_mvd, IsVector}
use Rattle.spec_partitions.specs.Records.{HasMotion}
use Rattle.spec_partitions.proofs.ByPart.{length_by, by_at, each_part, shape_small}

-- what prediction looks at in a neighbour
record Seen : Type 0 where
  none : Bool
  some : Bool
  ref : ℤ
  vector : Vector

abbrev seen : ℕ → Option Motion → Seen
seen list x = record { none = is_none x; some = is_some x; ref = reference_of list x; vector = vector_of list x }

-- the median prediction, and that with a favoured neighbour
abbrev median_seen : ℤ → Seen → Seen → Seen → Vector
median_seen r a b c =
    if (b.none && (c.none && a.some)) then a.vector else
    (if only (int_eq a.ref r) (int_eq b.ref r) (int_eq c.ref r) then a.vector else
    (if only (int_eq b.ref r) (int_eq a.ref r) (int_eq c.ref r) then b.vector else
    (if only (int_eq c.ref r) (int_eq a.ref r) (int_eq b.ref r) then c.vector else
    (let v : Vector = record { x = median a.vector.x b.vector.x c.vector.x; y = median a.vector.y b.vector.y c.vector.y } in v))))

abbrev favouring : ℤ → Seen → Vector → Vector
favouring r f v = if (f.some && int_eq f.ref r) then f.vector else v

abbrev predicted_seen : ℕ → ℕ → ℤ → Seen → Seen → Seen → Vector
predicted_seen zero part r a b c = median_seen r a b c
predicted_seen (suc zero) zero r a b c = favouring r b (median_seen r a b c)
predicted_seen (suc zero) (suc n) r a b c = favouring r a (median_seen r a b c)
predicted_seen (suc (suc zero)) zero r a b c = favouring r a (median_seen r a b c)
predicted_seen (suc (suc zero)) (suc n) r a b c = favouring r c (median_seen r a b c)
predicted_seen (suc (suc (suc m))) part r a b c = median_seen r a b c

by_seen : (list : ℕ) (r : ℤ) (f : Field) (shape part : ℕ) → shape < 4 → part < part_count shape → predicted shape part list r f ≡ predicted_seen shape part r (seen list f.a) (seen list f.b) (seen list f.c)
by_seen list r f = each_part (λ shape part. predicted shape part list r f ≡ predicted_seen shape part r (seen list f.a) (seen list f.b) (seen list f.c)) refl refl refl refl refl refl refl refl refl

-- two fields that look alike in a list
record Alike (list : ℕ) (f g : Field) : Type 0 where
  a : seen list f.a ≡ seen list g.a
  b : seen list f.b ≡ seen list g.b
  c : seen list f.c ≡ seen list g.c

predicted_alike : (list : ℕ) (r : ℤ) (f g : Field) (shape part : ℕ) → shape < 4 → part < part_count shape → Alike list f g → predicted shape part list r f ≡ predicted shape part list r g
predicted_alike list r f g shape part s p h =
    by_seen list r f shape part s p ∙ ap (λ x. predicted_seen shape part r x (seen list f.b) (seen list f.c)) h.a ∙ ap (λ x. predicted_seen shape part r (seen list g.a) x (seen list f.c)) h.b
    ∙ ap (λ x. predicted_seen shape part r (seen list g.a) (seen list g.b) x) h.c ∙ sym (by_seen list r g shape part s p)

-- where C isn't there D stands for it
or_alike : (list : ℕ) (x y z w : Option Motion) → seen list x ≡ seen list y → seen list z ≡ seen list w → seen list (option_or x z) ≡ seen list (option_or y w)
or_alike list None None z w h k = k
or_alike list (Some m) (Some n) z w h k = h
or_alike list None (Some n) z w h k = let no : true ≡ false = ap (λ (s : Seen). s.none) h in absurd cc
or_alike list (Some m) None z w h k = let no : false ≡ true = ap (λ (s : Seen). s.none) h in absurd cc

-- own blocks that look alike, at each place
record OwnAlike (list : ℕ) (own known : List (Option Motion)) : Type 0 where
  at : (k : ℕ) → k < 4 → seen list (get_or own k None) ≡ seen list (get_or known k None)

field_alike : (view : View) (list : ℕ) (own known : List (Option Motion)) → OwnAlike list own known → (shape part : ℕ) → shape < 4 → part < part_count shape → Alike list (part_field view own shape part) (part_field view known shape part)
field_alike view list own known h = each_part (λ shape part. Alike list (part_field view own shape part) (part_field view known shape part))
    (record { a = refl; b = refl; c = refl })
    (record { a = refl; b = refl; c = refl })
    (record { a = refl; b = h.at 0 (omega arith); c = refl })
    (record { a = refl; b = refl; c = refl })
    (record { a = h.at 0 (omega arith); b = refl; c = refl })
    (record { a = refl; b = refl; c = refl })
    (record { a = h.at 0 (omega arith); b = refl; c = refl })
    (record { a = refl; b = h.at 0 (omega arith); c = or_alike list _ _ _ _ (h.at 1 (omega arith)) refl })
    (record { a = h.at 2 (omega arith); b = h.at 1 (omega arith); c = h.at 0 (omega arith) })

-- ---- list by list

get_at : {A : Type 0} (f : ℕ → A) (n k : ℕ) (d : A) → k < n → f k ≡ get_or (by_part f n) k d
get_at f n k d h = sym (by_at f n k d h)

-- a block of both lists looks in each list as the block of that list
LooksAs : ℕ → ℕ → List Motion → (ℕ → ℤ) → (ℕ → Vector) → Type 0
LooksAs list shape motion r v = (k : ℕ) → k < 4 → seen list (Some (get_or motion k no_motion)) ≡ seen list (Some (in_list list (r (part_of shape k)) (v (part_of shape k))))

own_alike : (list shape n m : ℕ) (motion : List Motion) (r : ℕ → ℤ) (v : ℕ → Vector) → m ≤ n → LooksAs list shape motion r v → (k : ℕ) → k < 4
    → seen list (own_block list shape (by_part r n) (by_part v m) k) ≡ seen list (known_block shape motion m k)
unfolding LooksAs
own_alike list shape n m motion r v le looks k lt =
    ap (λ l. seen list (cond (nat_lt (part_of shape k) l) (Some (in_list list (ref_in shape (by_part r n) k) (vector_in shape (by_part v m) k))) None)) (length_by v m) ∙ go (nat_lt (part_of shape k) m) refl
  where
    go : (b : Bool) → nat_lt (part_of shape k) m ≡ b
        → seen list (cond b (Some (in_list list (ref_in shape (by_part r n) k) (vector_in shape (by_part v m) k))) None) ≡ seen list (cond b (Some (get_or motion k no_motion)) None)
    go true e =
        let inside : part_of shape k < m = ltb-true (part_of shape k) m e in
        ap₂ (λ (x : ℤ) (y : Vector). seen list (Some (in_list list x y))) (by_at r n (part_of shape k) (negsuc 0) (omega arith)) (by_at v m (part_of shape k) zero_vector inside) ∙ sym (looks k lt)
    go false e = refl

all_alike : (list shape n m : ℕ) (motion : List Motion) (r : ℕ → ℤ) (v : ℕ → Vector) → m ≤ n → LooksAs list shape motion r v
    → OwnAlike list (own_blocks list shape (by_part r n) (by_part v m)) (known_blocks shape motion m)
all_alike list shape n m motion r v le looks =
    let at = own_alike list shape n m motion r v le looks in
    record { at = below_4 (λ k. seen list (get_or (own_blocks list shape (by_part r n) (by_part v m)) k None) ≡ seen list (get_or (known_blocks shape motion m) k None)) (at 0 (omega arith)) (at 1 (omega arith)) (at 2 (omega arith)) (at 3 (omega arith)) }

vector_is : (view : View) (list shape n m : ℕ) (motion : List Motion) (r : ℕ → ℤ) (v d : ℕ → Vector) → shape < 4 → n ≡ part_count shape → m < n → LooksAs list shape motion r v → IsVector view shape motion list m (r m) (v m) (d m)
    → vector_after view list shape (by_part r n) (by_part d n) m (by_part v m) ≡ v m
unfolding vector_after
vector_is view list shape n m motion r v d s count lt looks h =
    ap₂ (λ (x : ℤ) (y : Vector). cond (is_used x) (plus (predicted shape m list x (part_field view (own_blocks list shape (by_part r n) (by_part v m)) shape m)) y) zero_vector) (by_at r n m (negsuc 0) lt) (by_at d n m zero_vector lt)
    ∙ go (is_used (r m)) refl
  where
    same : predicted shape m list (r m) (part_field view (own_blocks list shape (by_part r n) (by_part v m)) shape m) ≡ predicted shape m list (r m) (part_field view (known_blocks shape motion m) shape m)
    same = predicted_alike list (r m) (part_field view (own_blocks list shape (by_part r n) (by_part v m)) shape m) (part_field view (known_blocks shape motion m) shape m) shape m s (omega arith)
        (field_alike view list (own_blocks list shape (by_part r n) (by_part v m)) (known_blocks shape motion m) (all_alike list shape n m motion r v (omega arith) looks) shape m s (omega arith))

    go : (b : Bool) → is_used (r m) ≡ b → cond b (plus (predicted shape m list (r m) (part_field view (own_blocks list shape (by_part r n) (by_part v m)) shape m)) (d m)) zero_vector ≡ v m
    go true e = ap (λ (x : Vector). plus x (d m)) same ∙ sym (h.used e)
    go false e = sym (h.unused e)

vectors_are : (view : View) (list shape n : ℕ) (motion : List Motion) (r : ℕ → ℤ) (v d : ℕ → Vector) → shape < 4 → n ≡ part_count shape → LooksAs list shape motion r v → ((part : ℕ) → part < n → IsVector view shape motion list part (r part) (v part) (d part))
    → (m : ℕ) → m ≤ n → vectors view list shape (by_part r n) (by_part d n) m ≡ by_part v m
unfolding vectors by_part
vectors_are view list shape n motion r v d s count looks h zero le = refl
vectors_are view list shape n motion r v d s count looks h (suc m) le =
    let front = vectors_are view list shape n motion r v d s count looks h m (omega arith) in
    ap (λ (xs : List Vector). xs ++ vector_after view list shape (by_part r n) (by_part d n) m xs ∷ []) front
    ∙ ap (λ (x : Vector). by_part v m ++ x ∷ []) (vector_is view list shape n m motion r v d s count (omega arith) looks (h m (omega arith)))

pub part_inside : (shape k : ℕ) → shape < 4 → k < 4 → part_of shape k < part_count shape
part_inside shape k s h = below_4 (λ shape. (k : ℕ) → k < 4 → part_of shape k < part_count shape)
    (λ k h. omega arith) (below_4 (λ k. part_of 1 k < 2) (omega arith) (omega arith) (omega arith) (omega arith)) (below_4 (λ k. part_of 2 k < 2) (omega arith) (omega arith) (omega arith) (omega arith)) (λ k h. h) shape s k h

looks_0 : (shape : ℕ) (r0 r1 : ℕ → ℤ) (v0 v1 : ℕ → Vector) → shape < 4 → LooksAs 0 shape (given shape r0 r1 v0 v1) r0 v0
unfolding LooksAs
looks_0 shape r0 r1 v0 v1 s k h =
    below_4 (λ k. part_of shape k < part_count shape → seen 0 (Some (get_or (given shape r0 r1 v0 v1) k no_motion)) ≡ seen 0 (Some (in_list 0 (r0 (part_of shape k)) (v0 (part_of shape k))))) (at 0) (at 1) (at 2) (at 3) k h (part_inside shape k s h)
  where
    at : (k : ℕ) → part_of shape k < part_count shape
        → seen 0 (Some (block_motion shape (by_part r0 (part_count shape)) (by_part r1 (part_count shape)) (by_part v0 (part_count shape)) (by_part v1 (part_count shape)) k)) ≡ seen 0 (Some (in_list 0 (r0 (part_of shape k)) (v0 (part_of shape k))))
    at k lt = ap₂ (λ (x : ℤ) (y : Vector). seen 0 (Some (in_list 0 x y))) (by_at r0 (part_count shape) (part_of shape k) (negsuc 0) lt) (by_at v0 (part_count shape) (part_of shape k) zero_vector lt)

looks_1 : (shape : ℕ) (r0 r1 : ℕ → ℤ) (v0 v1 : ℕ → Vector) → shape < 4 → LooksAs 1 shape (given shape r0 r1 v0 v1) r1 v1
unfolding LooksAs
looks_1 shape r0 r1 v0 v1 s k h =
    below_4 (λ k. part_of shape k < part_count shape → seen 1 (Some (get_or (given shape r0 r1 v0 v1) k no_motion)) ≡ seen 1 (Some (in_list 1 (r1 (part_of shape k)) (v1 (part_of shape k))))) (at 0) (at 1) (at 2) (at 3) k h (part_inside shape k s h)
  where
    at : (k : ℕ) → part_of shape k < part_count shape
        → seen 1 (Some (block_motion shape (by_part r0 (part_count shape)) (by_part r1 (part_count shape)) (by_part v0 (part_count shape)) (by_part v1 (part_count shape)) k)) ≡ seen 1 (Some (in_list 1 (r1 (part_of shape k)) (v1 (part_of shape k))))
    at k lt = ap₂ (λ (x : ℤ) (y : Vector). seen 1 (Some (in_list 1 x y))) (by_at r1 (part_count shape) (part_of shape k) (negsuc 0) lt) (by_at v1 (part_count shape) (part_of shape k) zero_vector lt)

-- vectors that are predictions and differences, by the motion of both lists, are those that follow from what is written
pub given_is : (view : View) (kind : MbKind) (r0 r1 : ℕ → ℤ) (v0 v1 d0 d1 : ℕ → Vector)
    → ((part : ℕ) → part < part_count (shape_of kind) → IsVector view (shape_of kind) (given (shape_of kind) r0 r1 v0 v1) 0 part (r0 part) (v0 part) (d0 part))
    → ((part : ℕ) → part < part_count (shape_of kind) → IsVector view (shape_of kind) (given (shape_of kind) r0 r1 v0 v1) 1 part (r1 part) (v1 part) (d1 part))
    → motion_from view kind (record { refs0 = by_part r0 (part_count (shape_of kind)); refs1 = by_part r1 (part_count (shape_of kind)); mvds0 = by_part d0 (part_count (shape_of kind)); mvds1 = by_part d1 (part_count (shape_of kind)) })
    ≡ given (shape_of kind) r0 r1 v0 v1
unfolding motion_from
given_is view kind r0 r1 v0 v1 d0 d1 h k =
    let shape = shape_of kind in
    let n = part_count shape in
    let s = shape_small kind in
    ap₂ (λ (xs ys : List Vector). four_motions shape (by_part r0 n) (by_part r1 n) xs ys)
    (vectors_are view 0 shape n (given shape r0 r1 v0 v1) r0 v0 d0 s refl (looks_0 shape r0 r1 v0 v1 s) h n (omega arith)) (vectors_are view 1 shape n (given shape r0 r1 v0 v1) r1 v1 d1 s refl (looks_1 shape r0 r1 v0 v1 s) k n (omega arith))

-- ---- a coded record

pub ref_given_0 : (r0 r1 : ℕ → ℤ) (v0 v1 : ℕ → Vector) (shape part : ℕ) → shape < 4 → part < part_count shape → slice_index_or (slice_index_or (given shape r0 r1 v0 v1) (first_block shape part) no_motion).refs 0 (pos 0) ≡ r0 part
unfolding by_part
ref_given_0 r0 r1 v0 v1 = each_part (λ shape part. slice_index_or (slice_index_or (given shape r0 r1 v0 v1) (first_block shape part) no_motion).refs 0 (pos 0) ≡ r0 part) refl refl refl refl refl refl refl refl refl

pub ref_given_1 : (r0 r1 : ℕ → ℤ) (v0 v1 : ℕ → Vector) (shape part : ℕ) → shape < 4 → part < part_count shape → slice_index_or (slice_index_or (given shape r0 r1 v0 v1) (first_block shape part) no_motion).refs 1 (pos 0) ≡ r1 part
unfolding by_part
ref_given_1 r0 r1 v0 v1 = each_part (λ shape part. slice_index_or (slice_index_or (given shape r0 r1 v0 v1) (first_block shape part) no_motion).refs 1 (pos 0) ≡ r1 part) refl refl refl refl refl refl refl refl refl

pub mvd_given_0 : (d0 d1 : ℕ → Vector) (shape part : ℕ) → shape < 4 → part < part_count shape → get_or (given_mvd shape d0 d1) (4 * 0 + first_block shape part) zero_vector ≡ d0 part
unfolding by_part
mvd_given_0 d0 d1 = each_part (λ shape part. get_or (given_mvd shape d0 d1) (4 * 0 + first_block shape part) zero_vector ≡ d0 part) refl refl refl refl refl refl refl refl refl

pub mvd_given_1 : (d0 d1 : ℕ → Vector) (shape part : ℕ) → shape < 4 → part < part_count shape → get_or (given_mvd shape d0 d1) (4 * 1 + first_block shape part) zero_vector ≡ d1 part
unfolding by_part
mvd_given_1 d0 d1 = each_part (λ shape part. get_or (given_mvd shape d0 d1) (4 * 1 + first_block shape part) zero_vector ≡ d1 part) refl refl refl refl refl refl refl refl refl

pub by_equal : {A : Type 0} (f g : ℕ → A) (n : ℕ) → ((k : ℕ) → k < n → f k ≡ g k) → by_part f n ≡ by_part g n
unfolding by_part
by_equal f g zero h = refl
by_equal f g (suc n) h = ap₂ (λ xs x. xs ++ x ∷ []) (by_equal f g n (λ k lt. h k (omega arith))) (h n (omega arith))

-- a record whose partitions have these references, vectors and differences, where each vector is its prediction and its difference
pub coded_has_motion : (view : View) (mb : MbRecord) (r0 r1 : ℕ → ℤ) (v0 v1 d0 d1 : ℕ → Vector) → has_motion mb.kind ≡ true
    → mb.motion ≡ given (shape_of mb.kind) r0 r1 v0 v1 → mb.mvd ≡ given_mvd (shape_of mb.kind) d0 d1
    → ((part : ℕ) → part < part_count (shape_of mb.kind) → IsVector view (shape_of mb.kind) mb.motion 0 part (r0 part) (v0 part) (d0 part))
    → ((part : ℕ) → part < part_count (shape_of mb.kind) → IsVector view (shape_of mb.kind) mb.motion 1 part (r1 part) (v1 part) (d1 part))
    → HasMotion view mb
coded_has_motion view mb r0 r1 v0 v1 d0 d1 moves m d h k =
    let shape = shape_of mb.kind in
    let n = part_count shape in
    let s = shape_small mb.kind in
    let r0_is : by_part (part_ref mb 0) n ≡ by_part r0 n = by_equal (part_ref mb 0) r0 n (λ p lt. ap (λ (ms : List Motion). slice_index_or (slice_index_or ms (first_block shape p) no_motion).refs 0 (pos 0)) m ∙ ref_given_0 r0 r1 v0 v1 shape p s lt) in
    let r1_is : by_part (part_ref mb 1) n ≡ by_part r1 n = by_equal (part_ref mb 1) r1 n (λ p lt. ap (λ (ms : List Motion). slice_index_or (slice_index_or ms (first_block shape p) no_motion).refs 1 (pos 0)) m ∙ ref_given_1 r0 r1 v0 v1 shape p s lt) in
    let d0_is : by_part (part_mvd mb 0) n ≡ by_part d0 n = by_equal (part_mvd mb 0) d0 n (λ p lt. ap (λ (vs : List Vector). get_or vs (4 * 0 + first_block shape p) zero_vector) d ∙ mvd_given_0 d0 d1 shape p s lt) in
    let d1_is : by_part (part_mvd mb 1) n ≡ by_part d1 n = by_equal (part_mvd mb 1) d1 n (λ p lt. ap (λ (vs : List Vector). get_or vs (4 * 1 + first_block shape p) zero_vector) d ∙ mvd_given_1 d0 d1 shape p s lt) in
    let make : List ℤ → List ℤ → List Vector → List Vector → Written = λ a b c e. record { refs0 = a; refs1 = b; mvds0 = c; mvds1 = e } in
    let w : written_of mb ≡ make (by_part r0 n) (by_part r1 n) (by_part d0 n) (by_part d1 n) =
    ap₂ (λ a b. make a b (by_part (part_mvd mb 0) n) (by_part (part_mvd mb 1) n)) r0_is r1_is ∙ ap₂ (λ c e. make (by_part r0 n) (by_part r1 n) c e) d0_is d1_is in
    let same : motion_from view mb.kind (written_of mb) ≡ given shape r0 r1 v0 v1 =
    ap (λ x. motion_from view mb.kind x) w ∙ given_is view mb.kind r0 r1 v0 v1 d0 d1
    (λ p lt. subst (λ (ms : List Motion). IsVector view shape ms 0 p (r0 p) (v0 p) (d0 p)) m (h p lt)) (λ p lt. subst (λ (ms : List Motion). IsVector view shape ms 1 p (r1 p) (v1 p) (d1 p)) m (k p lt)) in
    record { same = m ∙ sym same ∙ sym (ap (λ b. cond b (motion_from view mb.kind (written_of mb)) (cond (is_direct mb.kind) (direct_motion view) (cond (is_skipped mb.kind) (skip_motion view) (replicate 4 no_motion)))) moves) }
