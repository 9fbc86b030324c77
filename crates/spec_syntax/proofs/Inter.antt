use Rattle.std.proofs.Common.{◌≡◌, ℕ, zero, suc, ◌+◌, ◌-◌, ◌^◌, ◌<◌, ◌≤◌, Bool, true, false, [], ◌++◌, refl, arith, cond}
use Rattle.std.specs.Prelude.{nat_lt, nat_abs, min, ◌==◌, ℤ, pos, negsuc}
use Rattle.std.proofs.lemmas.Bool.{ltb-false}
use Rattle.std.proofs.lemmas.Bool.Decides.{nat_tests}
use borrow.Author.Tests.{ltb-true}
use Rattle.spec_syntax.specs.declared.ListUse.{ListUse}
use Rattle.spec_syntax.specs.Syntax.{done, ◌>>=◌, Walks, Reads}
use Rattle.spec_syntax.specs.Numbers.{prefix, prefix_string, golomb, golomb_string}
use Rattle.spec_syntax.specs.Elements.{IntraType, NxN, Pcm, Whole, IsIntraType}
use Rattle.spec_syntax.specs.Inter.{PType, BType, IsPType, IsBType, p_type, p_type_string, b_type, b_type_string, sub_type, sub_type_string, ref_index, ref_index_string, mvd, mvd_string, mvd_at, with_sign, sign_string, IsDifference}
use Rattle.spec_syntax.proofs.Walks.{walks_then, walks_map_to}
use Rattle.spec_syntax.proofs.Numbers.{walks_prefix_bits, walks_golomb}
use Rattle.spec_syntax.proofs.Elements.{below_4}

pub WalksP : PType → Type 0
WalksP t = Walks p_type (p_type_string t) t

walks_p_intra : (t : IntraType) → IsIntraType t → WalksP (PType.Intra t)
unfolding p_type p_type_string WalksP
walks_p_intra NxN h = assumption refl
walks_p_intra Pcm h = assumption refl
walks_p_intra (Whole mode zero false) h = below_4 (λ m. WalksP (PType.Intra (Whole m 0 false))) (assumption refl) (assumption refl) (assumption refl) (assumption refl) mode h.0
walks_p_intra (Whole mode zero true) h = below_4 (λ m. WalksP (PType.Intra (Whole m 0 true))) (assumption refl) (assumption refl) (assumption refl) (assumption refl) mode h.0
walks_p_intra (Whole mode (suc zero) false) h = below_4 (λ m. WalksP (PType.Intra (Whole m 1 false))) (assumption refl) (assumption refl) (assumption refl) (assumption refl) mode h.0
walks_p_intra (Whole mode (suc zero) true) h = below_4 (λ m. WalksP (PType.Intra (Whole m 1 true))) (assumption refl) (assumption refl) (assumption refl) (assumption refl) mode h.0
walks_p_intra (Whole mode (suc (suc zero)) false) h = below_4 (λ m. WalksP (PType.Intra (Whole m 2 false))) (assumption refl) (assumption refl) (assumption refl) (assumption refl) mode h.0
walks_p_intra (Whole mode (suc (suc zero)) true) h = below_4 (λ m. WalksP (PType.Intra (Whole m 2 true))) (assumption refl) (assumption refl) (assumption refl) (assumption refl) mode h.0
walks_p_intra (Whole mode (suc (suc (suc c))) ac) h = absurd (omega (arith, h.1))

walks_p_one : WalksP PType.One
unfolding p_type p_type_string WalksP
walks_p_one = assumption refl

walks_p_rows : WalksP PType.Rows
unfolding p_type p_type_string WalksP
walks_p_rows = assumption refl

walks_p_columns : WalksP PType.Columns
unfolding p_type p_type_string WalksP
walks_p_columns = assumption refl

walks_p_four : WalksP PType.Four
unfolding p_type p_type_string WalksP
walks_p_four = assumption refl

pub reads_p_type : (t : PType) → IsPType t → Reads p_type (p_type_string t) t
unfolding WalksP
reads_p_type PType.One h = record { walk = walks_p_one }
reads_p_type PType.Rows h = record { walk = walks_p_rows }
reads_p_type PType.Columns h = record { walk = walks_p_columns }
reads_p_type PType.Four h = record { walk = walks_p_four }
reads_p_type (PType.Intra t) h = record { walk = walks_p_intra t h }

pub WalksB : ℕ → BType → Type 0
WalksB inc t = Walks (b_type inc) (b_type_string inc t) t

walks_b_intra : (inc : ℕ) (t : IntraType) → IsIntraType t → WalksB inc (BType.Intra t)
unfolding b_type b_type_string WalksB
walks_b_intra inc NxN h = assumption refl
walks_b_intra inc Pcm h = assumption refl
walks_b_intra inc (Whole mode zero false) h = below_4 (λ m. WalksB inc (BType.Intra (Whole m 0 false))) (assumption refl) (assumption refl) (assumption refl) (assumption refl) mode h.0
walks_b_intra inc (Whole mode zero true) h = below_4 (λ m. WalksB inc (BType.Intra (Whole m 0 true))) (assumption refl) (assumption refl) (assumption refl) (assumption refl) mode h.0
walks_b_intra inc (Whole mode (suc zero) false) h = below_4 (λ m. WalksB inc (BType.Intra (Whole m 1 false))) (assumption refl) (assumption refl) (assumption refl) (assumption refl) mode h.0
walks_b_intra inc (Whole mode (suc zero) true) h = below_4 (λ m. WalksB inc (BType.Intra (Whole m 1 true))) (assumption refl) (assumption refl) (assumption refl) (assumption refl) mode h.0
walks_b_intra inc (Whole mode (suc (suc zero)) false) h = below_4 (λ m. WalksB inc (BType.Intra (Whole m 2 false))) (assumption refl) (assumption refl) (assumption refl) (assumption refl) mode h.0
walks_b_intra inc (Whole mode (suc (suc zero)) true) h = below_4 (λ m. WalksB inc (BType.Intra (Whole m 2 true))) (assumption refl) (assumption refl) (assumption refl) (assumption refl) mode h.0
walks_b_intra inc (Whole mode (suc (suc (suc c))) ac) h = absurd (omega (arith, h.1))

walks_b : (inc : ℕ) (t : BType) → IsBType t → WalksB inc t
unfolding b_type b_type_string WalksB
walks_b inc BType.Direct h = assumption refl
walks_b inc BType.Four h = assumption refl
walks_b inc (BType.One ListUse.L0) h = assumption refl
walks_b inc (BType.One ListUse.L1) h = assumption refl
walks_b inc (BType.One ListUse.Bi) h = assumption refl
walks_b inc (BType.Rows ListUse.L0 ListUse.L0) h = assumption refl
walks_b inc (BType.Rows ListUse.L0 ListUse.L1) h = assumption refl
walks_b inc (BType.Rows ListUse.L0 ListUse.Bi) h = assumption refl
walks_b inc (BType.Rows ListUse.L1 ListUse.L0) h = assumption refl
walks_b inc (BType.Rows ListUse.L1 ListUse.L1) h = assumption refl
walks_b inc (BType.Rows ListUse.L1 ListUse.Bi) h = assumption refl
walks_b inc (BType.Rows ListUse.Bi ListUse.L0) h = assumption refl
walks_b inc (BType.Rows ListUse.Bi ListUse.L1) h = assumption refl
walks_b inc (BType.Rows ListUse.Bi ListUse.Bi) h = assumption refl
walks_b inc (BType.Columns ListUse.L0 ListUse.L0) h = assumption refl
walks_b inc (BType.Columns ListUse.L0 ListUse.L1) h = assumption refl
walks_b inc (BType.Columns ListUse.L0 ListUse.Bi) h = assumption refl
walks_b inc (BType.Columns ListUse.L1 ListUse.L0) h = assumption refl
walks_b inc (BType.Columns ListUse.L1 ListUse.L1) h = assumption refl
walks_b inc (BType.Columns ListUse.L1 ListUse.Bi) h = assumption refl
walks_b inc (BType.Columns ListUse.Bi ListUse.L0) h = assumption refl
walks_b inc (BType.Columns ListUse.Bi ListUse.L1) h = assumption refl
walks_b inc (BType.Columns ListUse.Bi ListUse.Bi) h = assumption refl
walks_b inc (BType.Intra t) h = walks_b_intra inc t h

pub reads_b_type : (inc : ℕ) (t : BType) → IsBType t → Reads (b_type inc) (b_type_string inc t) t
unfolding WalksB
reads_b_type inc t h = record { walk = walks_b inc t h }

walks_sub : (u : ListUse) → Walks sub_type (sub_type_string u) u
unfolding sub_type sub_type_string
walks_sub ListUse.L0 = assumption refl
walks_sub ListUse.L1 = assumption refl
walks_sub ListUse.Bi = assumption refl

pub reads_sub_type : (u : ListUse) → Reads sub_type (sub_type_string u) u
reads_sub_type u = record { walk = walks_sub u }

walks_ref : (inc n : ℕ) → n < 4 → Walks (ref_index inc) (ref_index_string inc n) n
unfolding ref_index ref_index_string
walks_ref inc n h = below_4 (λ n. Walks (ref_index inc) (ref_index_string inc n) n) (assumption refl) (assumption refl) (assumption refl) (assumption refl) n h

pub reads_ref_index : (inc n : ℕ) → n < 4 → Reads (ref_index inc) (ref_index_string inc n) n
reads_ref_index inc n h = record { walk = walks_ref inc n h }

walks_size : (m : ℕ) → m ≤ 2 ^ 15 → Walks (cond (min m 9 == 9) (golomb 12 3 >>= λ v. done (9 + v)) (done (min m 9))) (cond (nat_lt m 9) [] (golomb_string 12 3 (m - 9))) m
walks_size m h = go (nat_lt m 9) refl
  where
    go : (b : Bool) → nat_lt m 9 ≡ b → Walks (cond (min m 9 == 9) (golomb 12 3 >>= λ v. done (9 + v)) (done (min m 9))) (cond b [] (golomb_string 12 3 (m - 9))) m
    go true e =
        let lt : m < 9 = ltb-true _ _ e in
        let small : min m 9 ≡ m = omega arith in
        let test : (m == 9) ≡ false = grind (arith, nat_tests) in
        rw (small, test) refl
    go false e =
        let le : 9 ≤ m = ltb-false _ _ e in
        let big : min m 9 ≡ 9 = omega arith in
        rw big (walks_map_to (golomb 12 3) (λ v. 9 + v) (golomb_string 12 3 (m - 9)) (m - 9) m (walks_golomb 12 3 (m - 9) (omega (arith, h))) (omega arith))

walks_sign : (d : ℤ) → Walks (with_sign (nat_abs d)) (sign_string d) d
walks_sign (pos zero) = refl
walks_sign (pos (suc m)) = (refl, refl)
walks_sign (negsuc m) = (refl, refl)

walks_mvd : (vertical : Bool) (inc : ℕ) (d : ℤ) → IsDifference d → Walks (mvd vertical inc) (mvd_string vertical inc d) d
unfolding mvd mvd_string
walks_mvd vertical inc d h =
    walks_then (prefix (mvd_at vertical inc) 0 9) (λ k. (cond (k == 9) (golomb 12 3 >>= λ v. done (9 + v)) (done k)) >>= λ m. with_sign m)
    (prefix_string (mvd_at vertical inc) 0 9 (nat_abs d)) (cond (nat_lt (nat_abs d) 9) [] (golomb_string 12 3 (nat_abs d - 9)) ++ sign_string d) (min (nat_abs d) 9) d
    (walks_prefix_bits (mvd_at vertical inc) 0 9 (nat_abs d))
    (walks_then (cond (min (nat_abs d) 9 == 9) (golomb 12 3 >>= λ v. done (9 + v)) (done (min (nat_abs d) 9))) (λ m. with_sign m)
    (cond (nat_lt (nat_abs d) 9) [] (golomb_string 12 3 (nat_abs d - 9))) (sign_string d) (nat_abs d) d (walks_size (nat_abs d) h) (walks_sign d))

pub reads_mvd : (vertical : Bool) (inc : ℕ) (d : ℤ) → IsDifference d → Reads (mvd vertical inc) (mvd_string vertical inc d) d
reads_mvd vertical inc d h = record { walk = walks_mvd vertical inc d h }
