-- The kind of least cost is one that its slice may have.
use Rattle.std.proofs.Common.{◌≡◌, ◌⊎◌, ℕ, Bool, true, false, ◌∷◌, refl, inl, inr}
use Rattle.enc_tables.specs.declared.records.MbKind.{MbKind}
use Rattle.enc_tables.specs.declared.records.MbPlan.{MbPlan}
use Rattle.enc_tables.specs.declared.records.SliceKind.{SliceKind}
use Rattle.enc_tables.specs.Choice.{cost_of, choice_at, choice, lambda, in_one, in_rows, in_columns, in_quarters, intra_16, intra_nxn}
use Rattle.enc_tables.specs.Kinds.{is_intra, has_motion}
use Rattle.spec_partitions.specs.Records.{is_in}
use Rattle.spec_record_laws.specs.Coded.{IsCodedKind}
use Rattle.spec_record_laws.proofs.Plans.{least_is}
use Rattle.spec_inter_records.specs.Fits.{PartsChosen, InterPlanned}
use Rattle.spec_inter_records.proofs.Partitioned.{moves_not_intra}

-- an intra kind that is coded, or a kind with partitions that the slice may have
abbrev Choosable : SliceKind → Bool → MbKind × ℕ → Type 0
Choosable s t8x8 c = ((is_intra c.0 ≡ true) × IsCodedKind t8x8 c.0) ⊎ ((has_motion c.0 ≡ true) × (is_in s c.0 ≡ true))

p_choosable : (t8x8 : Bool) (plan : MbPlan) (bit : ℕ) → Choosable SliceKind.P t8x8 (choice_at SliceKind.P plan bit t8x8)
p_choosable true plan bit =
    least_is (Choosable SliceKind.P true) cost_of (in_one plan MbKind.P16 2 bit)
    (in_rows plan MbKind.P16x8 5 bit ∷ in_columns plan MbKind.P8x16 5 bit ∷ in_quarters plan MbKind.P8x8 9 bit ∷ intra_16 plan bit ∷ intra_nxn plan bit true)
    (inr (refl, refl)) (inr (refl, refl), (inr (refl, refl), (inr (refl, refl), (inl (refl, tt), (inl (refl, refl), (inl (refl, tt), tt))))))
p_choosable false plan bit =
    least_is (Choosable SliceKind.P false) cost_of (in_one plan MbKind.P16 2 bit)
    (in_rows plan MbKind.P16x8 5 bit ∷ in_columns plan MbKind.P8x16 5 bit ∷ in_quarters plan MbKind.P8x8 9 bit ∷ intra_16 plan bit ∷ intra_nxn plan bit false)
    (inr (refl, refl)) (inr (refl, refl), (inr (refl, refl), (inr (refl, refl), (inl (refl, tt), (inl (refl, tt), tt)))))

b_choosable : (t8x8 : Bool) (plan : MbPlan) (bit : ℕ) → Choosable SliceKind.B t8x8 (choice_at SliceKind.B plan bit t8x8)
b_choosable true plan bit =
    least_is (Choosable SliceKind.B true) cost_of (in_one plan MbKind.B16 3 bit)
    (in_rows plan MbKind.B16x8 8 bit ∷ in_columns plan MbKind.B8x16 8 bit ∷ in_quarters plan MbKind.B8x8 12 bit ∷ intra_16 plan bit ∷ intra_nxn plan bit true)
    (inr (refl, refl)) (inr (refl, refl), (inr (refl, refl), (inr (refl, refl), (inl (refl, tt), (inl (refl, refl), (inl (refl, tt), tt))))))
b_choosable false plan bit =
    least_is (Choosable SliceKind.B false) cost_of (in_one plan MbKind.B16 3 bit)
    (in_rows plan MbKind.B16x8 8 bit ∷ in_columns plan MbKind.B8x16 8 bit ∷ in_quarters plan MbKind.B8x8 12 bit ∷ intra_16 plan bit ∷ intra_nxn plan bit false)
    (inr (refl, refl)) (inr (refl, refl), (inr (refl, refl), (inr (refl, refl), (inl (refl, tt), (inl (refl, tt), tt)))))

i_choosable : (t8x8 : Bool) (plan : MbPlan) (bit : ℕ) → Choosable SliceKind.I t8x8 (choice_at SliceKind.I plan bit t8x8)
i_choosable true plan bit = least_is (Choosable SliceKind.I true) cost_of (intra_16 plan bit) (intra_nxn plan bit true) (inl (refl, tt)) (inl (refl, refl), (inl (refl, tt), tt))
i_choosable false plan bit = least_is (Choosable SliceKind.I false) cost_of (intra_16 plan bit) (intra_nxn plan bit false) (inl (refl, tt)) (inl (refl, tt), tt)

-- what is known of the kind that is chosen, by whether it is an intra one
pub record Chosen (s : SliceKind) (refs0 refs1 : ℕ) (t8x8 : Bool) (plan : MbPlan) (k : MbKind) : Type 0 where
  pub intra : is_intra k ≡ true → IsCodedKind t8x8 k
  pub inter : is_intra k ≡ false → (has_motion k ≡ true) × (is_in s k ≡ true) × PartsChosen s refs0 refs1 131 plan

chosen_with : (s : SliceKind) (refs0 refs1 : ℕ) (t8x8 : Bool) (plan : MbPlan) (c : MbKind × ℕ) → Choosable s t8x8 c → (has_motion c.0 ≡ true → PartsChosen s refs0 refs1 131 plan) → Chosen s refs0 refs1 t8x8 plan c.0
chosen_with s refs0 refs1 t8x8 plan c (inl h) p = record { intra = λ e. h.1; inter = λ e. let is : is_intra c.0 ≡ true = h.0 in absurd cc }
chosen_with s refs0 refs1 t8x8 plan c (inr h) p = record { intra = λ e. let not : is_intra c.0 ≡ false = moves_not_intra c.0 h.0 in absurd cc; inter = λ e. (h.0, h.1, p h.0) }

only_intra : (refs0 refs1 : ℕ) (t8x8 : Bool) (plan : MbPlan) (c : MbKind × ℕ) → Choosable SliceKind.I t8x8 c → Chosen SliceKind.I refs0 refs1 t8x8 plan c.0
only_intra refs0 refs1 t8x8 plan c (inl h) = record { intra = λ e. h.1; inter = λ e. let is : is_intra c.0 ≡ true = h.0 in absurd cc }
only_intra refs0 refs1 t8x8 plan c (inr h) = absurd (none_in_i c.0 h.0 h.1)
  where
    none_in_i : (k : MbKind) → has_motion k ≡ true → is_in SliceKind.I k ≡ true → ⊥
    none_in_i MbKind.Pcm g e = absurd cc
    none_in_i MbKind.Intra4 g e = absurd cc
    none_in_i MbKind.Intra8 g e = absurd cc
    none_in_i MbKind.Intra16 g e = absurd cc
    none_in_i _ g e = absurd cc

pub choice_is : (s : SliceKind) (refs0 refs1 : ℕ) (t8x8 : Bool) (plan : MbPlan) (qp : ℕ) → InterPlanned s refs0 refs1 131 plan → Chosen s refs0 refs1 t8x8 plan (choice s plan qp t8x8).0
unfolding choice
choice_is SliceKind.I refs0 refs1 t8x8 plan qp p = only_intra refs0 refs1 t8x8 plan (choice_at SliceKind.I plan (lambda qp) t8x8) (i_choosable t8x8 plan (lambda qp))
choice_is SliceKind.P refs0 refs1 t8x8 plan qp p = chosen_with SliceKind.P refs0 refs1 t8x8 plan (choice_at SliceKind.P plan (lambda qp) t8x8) (p_choosable t8x8 plan (lambda qp)) (λ e. p)
choice_is SliceKind.B refs0 refs1 t8x8 plan qp p = chosen_with SliceKind.B refs0 refs1 t8x8 plan (choice_at SliceKind.B plan (lambda qp) t8x8) (b_choosable t8x8 plan (lambda qp)) (λ e. p)
