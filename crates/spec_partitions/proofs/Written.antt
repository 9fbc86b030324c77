-- What is written of partitions is read back.
use Rattle.std.proofs.Common.{◌≡◌, ℕ, ◌<◌, ◌≤◌, Bool, true, false, List, [], ◌∷◌, ◌++◌, refl, sym, ap, subst, ◌∙◌, arith, get_or, map}
use Rattle.std.specs.Prelude.{nat_lt, nat_abs, ℤ, pos, negsuc}
use Rattle.std.proofs.lemmas.Bool.{ltb-false}
use Rattle.std.proofs.lemmas.Bool.Decides.{nat_tests}
use Rattle.std.proofs.lemmas.List.{get_or-map}
use Rattle.enc_tables.specs.declared.records.MbRecord.{MbRecord}
use Rattle.enc_tables.specs.declared.records.Vector.{Vector}
use Rattle.enc_tables.specs.declared.records.SliceKind.{SliceKind}
use Rattle.enc_tables.specs.Records.{zero_vector, is_used}
use Rattle.spec_syntax.specs.declared.Bin.{Bin}
use Rattle.spec_syntax.specs.Syntax.{Syntax, Reads, done, ◌>>=◌}
use Rattle.spec_syntax.specs.Sequences.{where_present, string_where}
use Rattle.spec_syntax.specs.Inter.{ref_index, ref_index_string, mvd, mvd_string, IsDifference, use_from}
use Rattle.spec_syntax.proofs.Walks.{reads_then, reads_done}
use Rattle.spec_syntax.proofs.Blocks.{reads_to, reads_where}
use Rattle.spec_syntax.proofs.Inter.{reads_ref_index, reads_mvd}
use Rattle.spec_partitions.specs.Near.{Near}
use Rattle.spec_partitions.specs.Parts.{parts, parts_string}
use Rattle.spec_partitions.specs.Partitions.{shape_of, part_count, by_part, Written, part_ref, part_mvd, written_of}
use Rattle.spec_partitions.specs.Inter.{in_first, in_second, entry, ref_part, references, ref_part_string, references_string, mvd_part, differences, mvd_part_string, differences_string, inter, inter_string, part_use, uses_of}
use Rattle.spec_partitions.specs.Records.{RefFits, UsesFit, PartFits, MvdFits}
use Rattle.spec_partitions.proofs.Parts.{reads_map, reads_last, reads_parts}
use Rattle.spec_partitions.proofs.ByPart.{length_by, by_at, ref_inc_same, mvd_inc_same}

-- each partition's value behind those before it
pub reads_by_part : {A : Type 0} (part : ℕ → List A → Syntax (List A)) (string : ℕ → List Bin) (f : ℕ → A) (n : ℕ) → ((k : ℕ) → k < n → Reads (part k (by_part f k)) (string k) (f k ∷ []))
    → Reads (parts part n) (parts_string string n) (by_part f n)
unfolding by_part
reads_by_part part string f n h = reads_parts part string (λ k. by_part f k) (λ k. f k ∷ []) n refl (λ k lt. refl) h

-- ---- references

not_more : (n entries : ℕ) → nat_lt 1 entries ≡ false → n < entries → 0 ≡ n
not_more n entries e h = let le : entries ≤ 1 = ltb-false 1 entries e in omega arith

entry_there : (entries n : ℕ) → n < entries → Reads (entry entries n) [] (pos n ∷ [])
entry_there entries n h = let e : nat_lt n entries ≡ true = grind (arith, nat_tests) in rw e (reads_done (pos n ∷ []))

reads_ref : (entries : ℕ) (used : Bool) (inc inc' : ℕ) (r : ℤ) → used ≡ is_used r → inc ≡ inc' → RefFits entries r
    → Reads (where_present used (negsuc 0 ∷ []) (where_present (nat_lt 1 entries) 0 (ref_index inc) >>= λ index. entry entries index))
    (string_where (is_used r) (string_where (nat_lt 1 entries) (ref_index_string inc' (nat_abs r)))) (r ∷ [])
reads_ref entries used inc inc' (pos n) e i h =
    let index : Reads (where_present (nat_lt 1 entries) 0 (ref_index inc)) (string_where (nat_lt 1 entries) (ref_index_string inc' n)) n =
    reads_where (nat_lt 1 entries) 0 _ _ n (λ k. subst (λ x. Reads (ref_index inc) (ref_index_string x n) n) i (reads_ref_index inc n h.1)) (λ k. not_more n entries k h.0) in
    let there : Reads (where_present (nat_lt 1 entries) 0 (ref_index inc) >>= λ index. entry entries index) (string_where (nat_lt 1 entries) (ref_index_string inc' n)) (pos n ∷ []) =
    reads_last (where_present (nat_lt 1 entries) 0 (ref_index inc)) (λ index. entry entries index) _ n (pos n ∷ []) index (entry_there entries n h.0) in
    subst (λ b. Reads (where_present b (negsuc 0 ∷ []) (where_present (nat_lt 1 entries) 0 (ref_index inc) >>= λ index. entry entries index)) (string_where (nat_lt 1 entries) (ref_index_string inc' n)) (pos n ∷ [])) (sym e) there
reads_ref entries used inc inc' (negsuc n) e i h =
    let absent : Reads (done (negsuc 0 ∷ [])) [] (negsuc n ∷ []) = reads_to (done (negsuc 0 ∷ [])) [] (negsuc 0 ∷ []) (negsuc n ∷ []) (reads_done (negsuc 0 ∷ [])) (ap (λ m. negsuc m ∷ []) (sym h)) in
    subst (λ b. Reads (where_present b (negsuc 0 ∷ []) (where_present (nat_lt 1 entries) 0 (ref_index inc) >>= λ index. entry entries index)) [] (negsuc n ∷ [])) (sym e) absent

reads_references : (near : Near) (mb : MbRecord) (list entries : ℕ) (used : List Bool) → list < 2
    → ((part : ℕ) → part < part_count (shape_of mb.kind) → RefFits entries (part_ref mb list part)) → ((part : ℕ) → part < part_count (shape_of mb.kind) → get_or used part false ≡ is_used (part_ref mb list part))
    → Reads (references near mb.kind list entries used) (references_string near mb list entries) (by_part (part_ref mb list) (part_count (shape_of mb.kind)))
unfolding references references_string
reads_references near mb list entries used l fits uses =
    reads_by_part (ref_part near mb.kind list entries used) (ref_part_string near mb list entries) (part_ref mb list) (part_count (shape_of mb.kind))
    (λ part lt. reads_ref entries (get_or used part false) _ _ (part_ref mb list part) (uses part lt) (ref_inc_same mb near.left near.above list part l lt) (fits part lt))

-- ---- vector differences

reads_difference : (u used : Bool) (a a' b b' : ℕ) (v : Vector) → u ≡ used → a ≡ a' → b ≡ b' → IsDifference v.x → IsDifference v.y → (used ≡ false → v ≡ zero_vector)
    → Reads (where_present u (zero_vector ∷ []) (mvd false a >>= λ x. mvd true b >>= λ y. done (record { x = x; y = y } ∷ []))) (string_where used (mvd_string false a' v.x ++ mvd_string true b' v.y)) (v ∷ [])
reads_difference u used a a' b b' v e i j h k z =
    let across : Reads (mvd false a) (mvd_string false a' v.x) v.x = subst (λ n. Reads (mvd false a) (mvd_string false n v.x) v.x) i (reads_mvd false a v.x h) in
    let down : Reads (mvd true b) (mvd_string true b' v.y) v.y = subst (λ n. Reads (mvd true b) (mvd_string true n v.y) v.y) j (reads_mvd true b v.y k) in
    let make : ℤ → ℤ → List Vector = λ x y. record { x = x; y = y } ∷ [] in
    let both : Reads (mvd false a >>= λ x. mvd true b >>= λ y. done (record { x = x; y = y } ∷ [])) (mvd_string false a' v.x ++ mvd_string true b' v.y) (v ∷ []) =
    reads_then (λ x. mvd true b >>= λ y. done (make x y)) across (reads_map (mvd true b) (λ y. make v.x y) (mvd_string true b' v.y) v.y down) in
    subst (λ c. Reads (where_present c (zero_vector ∷ []) (mvd false a >>= λ x. mvd true b >>= λ y. done (record { x = x; y = y } ∷ []))) (string_where used (mvd_string false a' v.x ++ mvd_string true b' v.y)) (v ∷ [])) (sym e)
    (reads_where used (zero_vector ∷ []) _ _ (v ∷ []) (λ t. both) (λ f. ap (λ w. w ∷ []) (sym (z f))))

reads_differences : (near : Near) (mb : MbRecord) (list : ℕ) → list < 2 → ((part : ℕ) → part < part_count (shape_of mb.kind) → MvdFits mb list part)
    → Reads (differences near mb.kind list (by_part (part_ref mb list) (part_count (shape_of mb.kind)))) (differences_string near mb list) (by_part (part_mvd mb list) (part_count (shape_of mb.kind)))
unfolding differences differences_string
reads_differences near mb list l fits =
    let refs = by_part (part_ref mb list) (part_count (shape_of mb.kind)) in
    reads_by_part (mvd_part near mb.kind list refs) (mvd_part_string near mb list) (part_mvd mb list) (part_count (shape_of mb.kind))
    (λ part lt. reads_difference (is_used (get_or refs part (negsuc 0))) (is_used (part_ref mb list part)) _ _ _ _ (part_mvd mb list part)
    (ap is_used (by_at (part_ref mb list) (part_count (shape_of mb.kind)) part (negsuc 0) lt))
    (mvd_inc_same mb near.left near.above list part false l lt) (mvd_inc_same mb near.left near.above list part true l lt)
    (fits part lt).across (fits part lt).down (fits part lt).blank)

-- ---- all of it

first_of : (s : SliceKind) (a b : Bool) → UsesFit s a b → in_first (use_from a b) ≡ a
first_of SliceKind.I a b h = absurd h
first_of SliceKind.P true false h = refl
first_of SliceKind.P true true h = absurd cc
first_of SliceKind.P false b h = absurd cc
first_of SliceKind.B true true h = refl
first_of SliceKind.B true false h = refl
first_of SliceKind.B false true h = refl
first_of SliceKind.B false false h = absurd cc

second_of : (s : SliceKind) (a b : Bool) → UsesFit s a b → in_second (use_from a b) ≡ b
second_of SliceKind.I a b h = absurd h
second_of SliceKind.P true false h = refl
second_of SliceKind.P true true h = absurd cc
second_of SliceKind.P false b h = absurd cc
second_of SliceKind.B true true h = refl
second_of SliceKind.B true false h = refl
second_of SliceKind.B false true h = refl
second_of SliceKind.B false false h = absurd cc

mapped_at : {A : Type 0} (g : A → Bool) (f : ℕ → A) (n k : ℕ) → k < n → get_or (map g (by_part f n)) k false ≡ g (f k)
mapped_at g f n k h = get_or-map g (by_part f n) k (f 0) false (rw length_by h) ∙ ap g (by_at f n k (f 0) h)

pub reads_inter : (near : Near) (mb : MbRecord) → ((part : ℕ) → part < part_count (shape_of mb.kind) → PartFits near mb part) → ((list : ℕ) → list < 2 → (part : ℕ) → part < part_count (shape_of mb.kind) → MvdFits mb list part)
    → Reads (inter near mb.kind (uses_of mb)) (inter_string near mb) (written_of mb)
unfolding inter inter_string
reads_inter near mb fits mvds =
    let n = part_count (shape_of mb.kind) in
    let r0 = by_part (part_ref mb 0) n in
    let r1 = by_part (part_ref mb 1) n in
    let d0 = by_part (part_mvd mb 0) n in
    let a = reads_references near mb 0 near.refs0 (map in_first (uses_of mb)) (omega arith) (λ part lt. (fits part lt).first)
    (λ part lt. mapped_at in_first (part_use mb) n part lt ∙ first_of near.kind _ _ (fits part lt).uses) in
    let b = reads_references near mb 1 near.refs1 (map in_second (uses_of mb)) (omega arith) (λ part lt. (fits part lt).second)
    (λ part lt. mapped_at in_second (part_use mb) n part lt ∙ second_of near.kind _ _ (fits part lt).uses) in
    let c = reads_differences near mb 0 (omega arith) (mvds 0 (omega arith)) in
    let d = reads_differences near mb 1 (omega arith) (mvds 1 (omega arith)) in
    let make : List ℤ → List ℤ → List Vector → List Vector → Written = λ r0 r1 d0 d1. record { refs0 = r0; refs1 = r1; mvds0 = d0; mvds1 = d1 } in
    reads_then (λ r0. references near mb.kind 1 near.refs1 (map in_second (uses_of mb)) >>= λ r1. differences near mb.kind 0 r0 >>= λ d0. differences near mb.kind 1 r1 >>= λ d1. done (make r0 r1 d0 d1)) a
    (reads_then (λ r1. differences near mb.kind 0 r0 >>= λ d0. differences near mb.kind 1 r1 >>= λ d1. done (make r0 r1 d0 d1)) b
    (reads_then (λ d0. differences near mb.kind 1 r1 >>= λ d1. done (make r0 r1 d0 d1)) c
    (reads_map (differences near mb.kind 1 r1) (λ d1. make r0 r1 d0 d1) (differences_string near mb 1) (by_part (part_mvd mb 1) n) d)))
