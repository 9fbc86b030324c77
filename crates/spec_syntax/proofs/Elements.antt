use Rattle.std.proofs.Common.{ℕ, zero, suc, ◌<◌, Bool, true, false, List, refl, arith}
use Rattle.std.specs.Prelude.{ℤ, pos, negsuc}
use Rattle.spec_syntax.specs.Syntax.{Walks, Reads}
use Rattle.spec_syntax.specs.Elements.{IntraType, NxN, Pcm, Whole, IsIntraType, intra_type, intra_type_string, mode_rem, mode_rem_string, chroma_mode, chroma_mode_string, luma_pattern, luma_pattern_string, chroma_pattern, chroma_pattern_string, IsDelta, qp_delta, qp_delta_string}

pub below_3 : (P : ℕ → Type 0) → P 0 → P 1 → P 2 → (n : ℕ) → n < 3 → P n
below_3 P x0 x1 x2 zero h = x0
below_3 P x0 x1 x2 (suc zero) h = x1
below_3 P x0 x1 x2 (suc (suc zero)) h = x2
below_3 P x0 x1 x2 (suc (suc (suc n))) h = absurd (omega arith)

pub below_4 : (P : ℕ → Type 0) → P 0 → P 1 → P 2 → P 3 → (n : ℕ) → n < 4 → P n
below_4 P x0 x1 x2 x3 zero h = x0
below_4 P x0 x1 x2 x3 (suc zero) h = x1
below_4 P x0 x1 x2 x3 (suc (suc zero)) h = x2
below_4 P x0 x1 x2 x3 (suc (suc (suc zero))) h = x3
below_4 P x0 x1 x2 x3 (suc (suc (suc (suc n)))) h = absurd (omega arith)

pub below_5 : (P : ℕ → Type 0) → P 0 → P 1 → P 2 → P 3 → P 4 → (n : ℕ) → n < 5 → P n
below_5 P x0 x1 x2 x3 x4 zero h = x0
below_5 P x0 x1 x2 x3 x4 (suc zero) h = x1
below_5 P x0 x1 x2 x3 x4 (suc (suc zero)) h = x2
below_5 P x0 x1 x2 x3 x4 (suc (suc (suc zero))) h = x3
below_5 P x0 x1 x2 x3 x4 (suc (suc (suc (suc zero)))) h = x4
below_5 P x0 x1 x2 x3 x4 (suc (suc (suc (suc (suc n))))) h = absurd (omega arith)

pub below_8 : (P : ℕ → Type 0) → P 0 → P 1 → P 2 → P 3 → P 4 → P 5 → P 6 → P 7 → (n : ℕ) → n < 8 → P n
below_8 P x0 x1 x2 x3 x4 x5 x6 x7 zero h = x0
below_8 P x0 x1 x2 x3 x4 x5 x6 x7 (suc zero) h = x1
below_8 P x0 x1 x2 x3 x4 x5 x6 x7 (suc (suc zero)) h = x2
below_8 P x0 x1 x2 x3 x4 x5 x6 x7 (suc (suc (suc zero))) h = x3
below_8 P x0 x1 x2 x3 x4 x5 x6 x7 (suc (suc (suc (suc zero)))) h = x4
below_8 P x0 x1 x2 x3 x4 x5 x6 x7 (suc (suc (suc (suc (suc zero))))) h = x5
below_8 P x0 x1 x2 x3 x4 x5 x6 x7 (suc (suc (suc (suc (suc (suc zero)))))) h = x6
below_8 P x0 x1 x2 x3 x4 x5 x6 x7 (suc (suc (suc (suc (suc (suc (suc zero))))))) h = x7
below_8 P x0 x1 x2 x3 x4 x5 x6 x7 (suc (suc (suc (suc (suc (suc (suc (suc n)))))))) h = absurd (omega arith)

pub below_16 : (P : ℕ → Type 0) → P 0 → P 1 → P 2 → P 3 → P 4 → P 5 → P 6 → P 7 → P 8 → P 9 → P 10 → P 11 → P 12 → P 13 → P 14 → P 15 → (n : ℕ) → n < 16 → P n
below_16 P x0 x1 x2 x3 x4 x5 x6 x7 x8 x9 x10 x11 x12 x13 x14 x15 zero h = x0
below_16 P x0 x1 x2 x3 x4 x5 x6 x7 x8 x9 x10 x11 x12 x13 x14 x15 (suc zero) h = x1
below_16 P x0 x1 x2 x3 x4 x5 x6 x7 x8 x9 x10 x11 x12 x13 x14 x15 (suc (suc zero)) h = x2
below_16 P x0 x1 x2 x3 x4 x5 x6 x7 x8 x9 x10 x11 x12 x13 x14 x15 (suc (suc (suc zero))) h = x3
below_16 P x0 x1 x2 x3 x4 x5 x6 x7 x8 x9 x10 x11 x12 x13 x14 x15 (suc (suc (suc (suc zero)))) h = x4
below_16 P x0 x1 x2 x3 x4 x5 x6 x7 x8 x9 x10 x11 x12 x13 x14 x15 (suc (suc (suc (suc (suc zero))))) h = x5
below_16 P x0 x1 x2 x3 x4 x5 x6 x7 x8 x9 x10 x11 x12 x13 x14 x15 (suc (suc (suc (suc (suc (suc zero)))))) h = x6
below_16 P x0 x1 x2 x3 x4 x5 x6 x7 x8 x9 x10 x11 x12 x13 x14 x15 (suc (suc (suc (suc (suc (suc (suc zero))))))) h = x7
below_16 P x0 x1 x2 x3 x4 x5 x6 x7 x8 x9 x10 x11 x12 x13 x14 x15 (suc (suc (suc (suc (suc (suc (suc (suc zero)))))))) h = x8
below_16 P x0 x1 x2 x3 x4 x5 x6 x7 x8 x9 x10 x11 x12 x13 x14 x15 (suc (suc (suc (suc (suc (suc (suc (suc (suc zero))))))))) h = x9
below_16 P x0 x1 x2 x3 x4 x5 x6 x7 x8 x9 x10 x11 x12 x13 x14 x15 (suc (suc (suc (suc (suc (suc (suc (suc (suc (suc zero)))))))))) h = x10
below_16 P x0 x1 x2 x3 x4 x5 x6 x7 x8 x9 x10 x11 x12 x13 x14 x15 (suc (suc (suc (suc (suc (suc (suc (suc (suc (suc (suc zero))))))))))) h = x11
below_16 P x0 x1 x2 x3 x4 x5 x6 x7 x8 x9 x10 x11 x12 x13 x14 x15 (suc (suc (suc (suc (suc (suc (suc (suc (suc (suc (suc (suc zero)))))))))))) h = x12
below_16 P x0 x1 x2 x3 x4 x5 x6 x7 x8 x9 x10 x11 x12 x13 x14 x15 (suc (suc (suc (suc (suc (suc (suc (suc (suc (suc (suc (suc (suc zero))))))))))))) h = x13
below_16 P x0 x1 x2 x3 x4 x5 x6 x7 x8 x9 x10 x11 x12 x13 x14 x15 (suc (suc (suc (suc (suc (suc (suc (suc (suc (suc (suc (suc (suc (suc zero)))))))))))))) h = x14
below_16 P x0 x1 x2 x3 x4 x5 x6 x7 x8 x9 x10 x11 x12 x13 x14 x15 (suc (suc (suc (suc (suc (suc (suc (suc (suc (suc (suc (suc (suc (suc (suc zero))))))))))))))) h = x15
below_16 P x0 x1 x2 x3 x4 x5 x6 x7 x8 x9 x10 x11 x12 x13 x14 x15 (suc (suc (suc (suc (suc (suc (suc (suc (suc (suc (suc (suc (suc (suc (suc (suc n)))))))))))))))) h = absurd (omega arith)

walks_mode_rem : (n : ℕ) → n < 8 → Walks mode_rem (mode_rem_string n) n
unfolding mode_rem mode_rem_string
walks_mode_rem n h = below_8 (λ n. Walks mode_rem (mode_rem_string n) n) (assumption refl) (assumption refl) (assumption refl) (assumption refl) (assumption refl) (assumption refl) (assumption refl) (assumption refl) n h

pub reads_mode_rem : (n : ℕ) → n < 8 → Reads mode_rem (mode_rem_string n) n
reads_mode_rem n h = record { walk = walks_mode_rem n h }

walks_chroma_mode : (inc : ℕ) (n : ℕ) → n < 4 → Walks (chroma_mode inc) (chroma_mode_string inc n) n
unfolding chroma_mode chroma_mode_string
walks_chroma_mode inc n h = below_4 (λ n. Walks (chroma_mode inc) (chroma_mode_string inc n) n) (assumption refl) (assumption refl) (assumption refl) (assumption refl) n h

pub reads_chroma_mode : (inc : ℕ) (n : ℕ) → n < 4 → Reads (chroma_mode inc) (chroma_mode_string inc n) n
reads_chroma_mode inc n h = record { walk = walks_chroma_mode inc n h }

walks_luma_pattern : (inc : List Bool → ℕ) (n : ℕ) → n < 16 → Walks (luma_pattern inc) (luma_pattern_string inc n) n
unfolding luma_pattern luma_pattern_string
walks_luma_pattern inc n h = below_16 (λ n. Walks (luma_pattern inc) (luma_pattern_string inc n) n) (assumption refl) (assumption refl) (assumption refl) (assumption refl) (assumption refl) (assumption refl) (assumption refl) (assumption refl) (assumption refl) (assumption refl) (assumption refl) (assumption refl) (assumption refl) (assumption refl) (assumption refl) (assumption refl) n h

pub reads_luma_pattern : (inc : List Bool → ℕ) (n : ℕ) → n < 16 → Reads (luma_pattern inc) (luma_pattern_string inc n) n
reads_luma_pattern inc n h = record { walk = walks_luma_pattern inc n h }

walks_chroma_pattern : (first second : ℕ) (n : ℕ) → n < 3 → Walks (chroma_pattern first second) (chroma_pattern_string first second n) n
unfolding chroma_pattern chroma_pattern_string
walks_chroma_pattern first second n h = below_3 (λ n. Walks (chroma_pattern first second) (chroma_pattern_string first second n) n) (assumption refl) (assumption refl) (assumption refl) n h

pub reads_chroma_pattern : (first second : ℕ) (n : ℕ) → n < 3 → Reads (chroma_pattern first second) (chroma_pattern_string first second n) n
reads_chroma_pattern first second n h = record { walk = walks_chroma_pattern first second n h }

walks_qp_delta : (inc : ℕ) (d : ℤ) → IsDelta d → Walks (qp_delta inc) (qp_delta_string inc d) d
unfolding qp_delta qp_delta_string
walks_qp_delta inc (pos n) h = below_5 (λ n. Walks (qp_delta inc) (qp_delta_string inc (pos n)) (pos n)) (assumption refl) (assumption refl) (assumption refl) (assumption refl) (assumption refl) n (omega (arith, h))
walks_qp_delta inc (negsuc n) h = below_4 (λ n. Walks (qp_delta inc) (qp_delta_string inc (negsuc n)) (negsuc n)) (assumption refl) (assumption refl) (assumption refl) (assumption refl) n (omega (arith, h))

pub reads_qp_delta : (inc : ℕ) (d : ℤ) → IsDelta d → Reads (qp_delta inc) (qp_delta_string inc d) d
reads_qp_delta inc d h = record { walk = walks_qp_delta inc d h }

pub WalksType : ℕ → IntraType → Type 0
WalksType inc t = Walks (intra_type inc) (intra_type_string inc t) t

walks_type : (inc : ℕ) (t : IntraType) → IsIntraType t → WalksType inc t
unfolding intra_type intra_type_string WalksType
walks_type inc NxN h = assumption refl
walks_type inc Pcm h = assumption refl
walks_type inc (Whole mode zero false) h = below_4 (λ m. WalksType inc (Whole m 0 false)) (assumption refl) (assumption refl) (assumption refl) (assumption refl) mode h.0
walks_type inc (Whole mode zero true) h = below_4 (λ m. WalksType inc (Whole m 0 true)) (assumption refl) (assumption refl) (assumption refl) (assumption refl) mode h.0
walks_type inc (Whole mode (suc zero) false) h = below_4 (λ m. WalksType inc (Whole m 1 false)) (assumption refl) (assumption refl) (assumption refl) (assumption refl) mode h.0
walks_type inc (Whole mode (suc zero) true) h = below_4 (λ m. WalksType inc (Whole m 1 true)) (assumption refl) (assumption refl) (assumption refl) (assumption refl) mode h.0
walks_type inc (Whole mode (suc (suc zero)) false) h = below_4 (λ m. WalksType inc (Whole m 2 false)) (assumption refl) (assumption refl) (assumption refl) (assumption refl) mode h.0
walks_type inc (Whole mode (suc (suc zero)) true) h = below_4 (λ m. WalksType inc (Whole m 2 true)) (assumption refl) (assumption refl) (assumption refl) (assumption refl) mode h.0
walks_type inc (Whole mode (suc (suc (suc c))) ac) h = absurd (omega (arith, h.1))

pub reads_intra_type : (inc : ℕ) (t : IntraType) → IsIntraType t → Reads (intra_type inc) (intra_type_string inc t) t
unfolding WalksType
reads_intra_type inc t h = record { walk = walks_type inc t h }
