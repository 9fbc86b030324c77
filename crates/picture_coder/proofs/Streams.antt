-- The units of a picture behind others of its access unit, and the parity of its number.
use Rattle.std.proofs.Common.{◌≡◌, ◌%◌, ◌++◌, ℕ, Bool, true, false, List, [], ◌∷◌, map, None, refl, ap, ◌∙◌, arith}
use Rattle.std.specs.Prelude.{if◌then◌else◌}
use Rattle.std.specs.List.{flat_map}
use Rattle.enc_tables.specs.declared.records.PlanStep.{PlanStep}
use Rattle.enc_tables.specs.declared.records.SliceKind.{SliceKind}
use Rattle.spec_bits.specs.Units.{written}
use Rattle.spec_film.specs.Films.{Planes}
use Rattle.spec_headers.specs.Heads.{idr_head}
use Rattle.spec_lists.specs.References.{Reference}
use Rattle.spec_tasks.specs.Choosing.{head_by}
use Rattle.spec_tasks.specs.Entries.{command_of}
use Rattle.spec_decoder.specs.Macroblocks.{Slice as Read}
use Rattle.spec_pictures.specs.Coded.{CodedSlice}
use Rattle.spec_pictures.specs.Accesses.{slice_nal, slice_nals, is_set}
use Rattle.spec_film_coder.specs.Pictures.{Shape, slices_to, plain_rule, coarsest_rule, plain_picture, coarsest_picture}
use Rattle.picture_coder.specs.Units.{units_of}

no_set : (idr : Bool) (kind : SliceKind) (c : CodedSlice Read) → is_set (slice_nal idr kind c) ≡ false
no_set true kind c = refl
no_set false kind c = refl

pub are_units : (st : PlanStep) (cs : List (CodedSlice Read)) → flat_map written (map (λ m. (is_set m, m)) (slice_nals st cs)) ≡ units_of false st cs
unfolding units_of
are_units st [] = refl
are_units st (c ∷ cs) =
    ap (λ (rest : List ℕ). written (is_set (slice_nal st.idr st.kind c), slice_nal st.idr st.kind c) ++ rest) (are_units st cs)
    ∙ ap (λ (b : Bool). written (b, slice_nal st.idr st.kind c) ++ units_of false st cs) (no_set st.idr st.kind c)

twice : (n : ℕ) → n % 2 % 2 ≡ n % 2
twice n = omega arith

pub plain_by_parity : (s : Shape) (held : List Reference) (st : PlanStep) (number qp : ℕ) (source : Planes) → plain_picture s held st (number % 2) qp source ≡ plain_picture s held st number qp source
unfolding plain_picture
plain_by_parity s held st number qp source =
    ap (λ (i : ℕ). slices_to s held (λ first. if st.idr then idr_head first 0 i 0 qp true else head_by st held (command_of st.kind st.frame_num source held) first qp) (plain_rule s held source) s.slices) (twice number)

pub coarsest_by_parity : (s : Shape) (held : List Reference) (st : PlanStep) (number : ℕ) (source : Planes) → coarsest_picture s held st (number % 2) source ≡ coarsest_picture s held st number source
unfolding coarsest_picture
coarsest_by_parity s held st number source =
    ap (λ (i : ℕ). slices_to s held (λ first. if st.idr then idr_head first 0 i 0 51 true else head_by st held None first 51) (coarsest_rule s held source) s.slices) (twice number)
