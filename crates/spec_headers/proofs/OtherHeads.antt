-- Headers of P and B slices are read back.
use Rattle.std.proofs.Common.{◌⊎◌, inl, inr, ℕ, ◌≡◌, ◌+◌, ◌-◌, ◌≤◌, Bool, true, false, List, [], ◌∷◌, ◌++◌, Option, Some, None, refl, sym, subst, arith}
use Rattle.std.specs.Prelude.{nat_le, ℤ, pos, ◌+ℤ◌, ◌-ℤ◌, if◌then◌else◌}
use Rattle.spec_bits.specs.declared.fields.Field.{Field}
use Rattle.spec_bits.specs.declared.fields.Field.TheVariants.{U, Ue, Se}
use Rattle.spec_headers.specs.declared.heads.SliceHead.{SliceHead}
use Rattle.enc_tables.specs.declared.records.SliceKind.{SliceKind}
use Rattle.enc_tables.specs.declared.records.SliceKind.TheVariants.{P, B}
use Rattle.spec_bits.specs.Fields.{fields_bits}
use Rattle.spec_headers.specs.HeadFields.{moved_fields, place_fields, list_fields, marking_fields, init_fields, slice_fields}
use Rattle.spec_reading.specs.Reader.{Reader, done, ◌>>=◌, u, ue, se, only, fixed, Reads}
use Rattle.spec_headers.specs.HeadReaders.{quantiser, entries, modification_by, modification, ListFields, list_fields_by, marking_by, init_by, other_slice}
use Rattle.spec_headers.specs.Heads.{other_head, MovedFits, OtherFits}
use Rattle.spec_reading.proofs.Laws.{reads_map}
use Rattle.spec_headers.proofs.HeadLaws.{number, code, one_number, one_code, one_flag, over, passed, two_parts, is_le, over_same, signed, reads_quantiser, place_small, qp_back}

-- a count less 1
counted : (n : ℕ) → 1 ≤ n → n ≤ 4 → Reads entries (fields_bits (Ue (n - 1) ∷ [])) n
counted n h k = code (n - 1) (λ m. only (nat_le m 3) >>= λ _. done (m + 1)) [] n (omega arith) (passed (nat_le (n - 1) 3) (λ _. done (n - 1 + 1)) _ n (is_le (n - 1) 3 (omega arith)) (over_same (n - 1 + 1) n (omega arith)))

changed : (moved : Option ℕ) → MovedFits moved → Reads modification (fields_bits (moved_fields moved)) moved
unfolding modification
changed None h = let b : Option ℕ = None in one_flag false modification_by [] b (over b)
changed (Some n) h =
    let b : Option ℕ = Some n in
    one_flag true modification_by _ b (one_code 0 (λ _. ue >>= λ difference. fixed ue 3 >>= λ _. done (Some difference)) _ b (omega arith)
    (code n (λ difference. fixed ue 3 >>= λ _. done (Some difference)) _ b h (one_code 3 (λ _. done b) [] b (omega arith) (over b))))

-- what is told of lists
lists_p : (refs0 : ℕ) (moved : Option ℕ) → 1 ≤ refs0 → refs0 ≤ 4 → MovedFits moved → Reads (list_fields_by P) (fields_bits (list_fields P refs0 0 moved)) (record { refs0 = refs0; refs1 = 0; moved = moved })
unfolding list_fields
lists_p refs0 moved some few fits =
    let b : ListFields = record { refs0 = refs0; refs1 = 0; moved = moved } in
    one_number 1 1 (λ _. entries >>= λ n. modification >>= λ m. done (record { refs0 = n; refs1 = 0; moved = m })) (Ue (refs0 - 1) ∷ moved_fields moved) b (omega arith)
    (two_parts entries (λ n. modification >>= λ m. done (record { refs0 = n; refs1 = 0; moved = m })) (Ue (refs0 - 1) ∷ []) (moved_fields moved) refs0 b (counted refs0 some few)
    (reads_map modification (λ m. let x : ListFields = record { refs0 = refs0; refs1 = 0; moved = m } in x) (fields_bits (moved_fields moved)) moved b (changed moved fits) refl))

lists_b : (refs0 refs1 : ℕ) (moved : Option ℕ) → 1 ≤ refs0 → refs0 ≤ 4 → 1 ≤ refs1 → refs1 ≤ 4 → MovedFits moved → Reads (list_fields_by B) (fields_bits (list_fields B refs0 refs1 moved)) (record { refs0 = refs0; refs1 = refs1; moved = moved })
unfolding list_fields
lists_b refs0 refs1 moved some0 few0 some1 few1 fits =
    let b : ListFields = record { refs0 = refs0; refs1 = refs1; moved = moved } in
    let last : Option ℕ → Reader ListFields = λ m. fixed (u 1) 0 >>= λ _. done (record { refs0 = refs0; refs1 = refs1; moved = m }) in
    let second : ℕ → Reader ListFields = λ k. modification >>= λ m. fixed (u 1) 0 >>= λ _. done (record { refs0 = refs0; refs1 = k; moved = m }) in
    let first : ℕ → Reader ListFields = λ n. entries >>= λ k. modification >>= λ m. fixed (u 1) 0 >>= λ _. done (record { refs0 = n; refs1 = k; moved = m }) in
    one_number 1 1 (λ _. fixed (u 1) 1 >>= λ _. entries >>= first) _ b (omega arith)
    (one_number 1 1 (λ _. entries >>= first) _ b (omega arith)
    (two_parts entries first (Ue (refs0 - 1) ∷ []) (Ue (refs1 - 1) ∷ (moved_fields moved ++ (U 1 0 ∷ []))) refs0 b (counted refs0 some0 few0)
    (two_parts entries second (Ue (refs1 - 1) ∷ []) (moved_fields moved ++ (U 1 0 ∷ [])) refs1 b (counted refs1 some1 few1)
    (two_parts modification last (moved_fields moved) (U 1 0 ∷ []) moved b (changed moved fits) (one_number 1 0 (λ _. done b) [] b (omega arith) (over b))))))

-- the end of a header
marked_p : Reads (marking_by P) (fields_bits (marking_fields false P)) tt
unfolding marking_fields
marked_p = one_number 1 0 (λ _. done tt) [] tt (omega arith) (over tt)

marked_b : Reads (marking_by B) (fields_bits (marking_fields false B)) tt
unfolding marking_fields
marked_b = over tt

init_other : (cabac : Bool) → Reads (init_by cabac) (fields_bits (if cabac then Ue 0 ∷ [] else [])) tt
init_other true = one_code 0 (λ _. done tt) [] tt (omega arith) (over tt)
init_other false = over tt

init_is : (cabac : Bool) (kind : SliceKind) → (kind ≡ P) ⊎ (kind ≡ B) → init_fields cabac kind ≡ (if cabac then Ue 0 ∷ [] else [])
unfolding init_fields
init_is true kind (inl e) = rw e refl
init_is true kind (inr e) = rw e refl
init_is false kind (inl e) = refl
init_is false kind (inr e) = refl

qp_read : (qp : ℕ) (make : ℕ → SliceHead) → qp ≤ 51 → Reads (se >>= λ delta. quantiser (pos 26 +ℤ delta) >>= λ q. done (make q)) (fields_bits (Se (pos qp -ℤ pos 26) ∷ [])) (make qp)
qp_read qp make small =
    let z : ℤ = pos qp -ℤ pos 26 in
    signed z (λ delta. quantiser (pos 26 +ℤ delta) >>= λ q. done (make q)) [] (make qp) (place_small z qp (qp_back qp) small)
    (reads_quantiser z qp (λ q. done (make q)) _ (make qp) (qp_back qp) small (over (make qp)))

-- what stands behind the lists
rest_read : (h : SliceHead) (kind : SliceKind) (marking : List Field) → (kind ≡ P) ⊎ (kind ≡ B) → h.qp ≤ 51 → Reads (marking_by kind) (fields_bits marking) tt
    → Reads (marking_by kind >>= λ _. init_by h.cabac >>= λ _. se >>= λ delta. quantiser (pos 26 +ℤ delta) >>= λ q. done (record h { qp = q })) (fields_bits (marking ++ (init_fields h.cabac kind ++ (Se (pos h.qp -ℤ pos 26) ∷ [])))) h
rest_read h kind marking is small marked =
    let z : List Field = Se (pos h.qp -ℤ pos 26) ∷ [] in
    let make : ℕ → SliceHead = λ q. record h { qp = q } in
    two_parts (marking_by kind) (λ _. init_by h.cabac >>= λ _. se >>= λ delta. quantiser (pos 26 +ℤ delta) >>= λ q. done (make q)) marking (init_fields h.cabac kind ++ z) tt h marked
    (subst (λ fs. Reads (init_by h.cabac >>= λ _. se >>= λ delta. quantiser (pos 26 +ℤ delta) >>= λ q. done (make q)) (fields_bits (fs ++ z)) h) (sym (init_is h.cabac kind is))
    (two_parts (init_by h.cabac) (λ _. se >>= λ delta. quantiser (pos 26 +ℤ delta) >>= λ q. done (make q)) (if h.cabac then Ue 0 ∷ [] else []) z tt h (init_other h.cabac) (qp_read h.qp make small)))

pub reads_p : (first_mb frame_num poc refs0 : ℕ) (moved : Option ℕ) (qp : ℕ) (cabac : Bool) → OtherFits first_mb frame_num poc refs0 moved qp
    → Reads (other_slice cabac) (fields_bits (slice_fields (other_head first_mb P frame_num poc refs0 0 moved qp cabac))) (other_head first_mb P frame_num poc refs0 0 moved qp cabac)
unfolding other_slice other_head slice_fields place_fields
reads_p first_mb frame_num poc refs0 moved qp cabac k =
    let h : SliceHead = record { first_mb = first_mb; kind = P; idr = false; frame_num = frame_num; idr_id = 0; poc = poc; refs0 = refs0; refs1 = 0; moved = moved; qp = qp; cabac = cabac } in
    let l : ListFields = record { refs0 = refs0; refs1 = 0; moved = moved } in
    code first_mb _ _ h k.first_mb_fits (code 5 _ _ h (omega arith) (one_code 0 _ _ h (omega arith) (number 16 frame_num _ _ h k.frame_num_fits (number 16 poc _ _ h k.poc_fits
    (two_parts (list_fields_by P) (λ lists. marking_by P >>= λ _. init_by cabac >>= λ _. se >>= λ delta. quantiser (pos 26 +ℤ delta) >>= λ q. done (record h { refs0 = lists.refs0; refs1 = lists.refs1; moved = lists.moved; qp = q }))
    (list_fields P refs0 0 moved) (marking_fields false P ++ (init_fields cabac P ++ (Se (pos qp -ℤ pos 26) ∷ []))) l h (lists_p refs0 moved k.some k.few k.moved_fits)
    (rest_read h P (marking_fields false P) (inl refl) k.qp_fits marked_p))))))

pub reads_b : (first_mb frame_num poc refs0 refs1 : ℕ) (moved : Option ℕ) (qp : ℕ) (cabac : Bool) → OtherFits first_mb frame_num poc refs0 moved qp → 1 ≤ refs1 → refs1 ≤ 4
    → Reads (other_slice cabac) (fields_bits (slice_fields (other_head first_mb B frame_num poc refs0 refs1 moved qp cabac))) (other_head first_mb B frame_num poc refs0 refs1 moved qp cabac)
unfolding other_slice other_head slice_fields place_fields
reads_b first_mb frame_num poc refs0 refs1 moved qp cabac k some1 few1 =
    let h : SliceHead = record { first_mb = first_mb; kind = B; idr = false; frame_num = frame_num; idr_id = 0; poc = poc; refs0 = refs0; refs1 = refs1; moved = moved; qp = qp; cabac = cabac } in
    let l : ListFields = record { refs0 = refs0; refs1 = refs1; moved = moved } in
    code first_mb _ _ h k.first_mb_fits (code 6 _ _ h (omega arith) (one_code 0 _ _ h (omega arith) (number 16 frame_num _ _ h k.frame_num_fits (number 16 poc _ _ h k.poc_fits
    (two_parts (list_fields_by B) (λ lists. marking_by B >>= λ _. init_by cabac >>= λ _. se >>= λ delta. quantiser (pos 26 +ℤ delta) >>= λ q. done (record h { refs0 = lists.refs0; refs1 = lists.refs1; moved = lists.moved; qp = q }))
    (list_fields B refs0 refs1 moved) (marking_fields false B ++ (init_fields cabac B ++ (Se (pos qp -ℤ pos 26) ∷ []))) l h (lists_b refs0 refs1 moved k.some k.few some1 few1 k.moved_fits)
    (rest_read h B (marking_fields false B) (inr refl) k.qp_fits marked_b))))))
