-- A slice's planes with one macroblock more, and what is built of a macroblock.
use Rattle.std.proofs.Common.{◌≡◌, ℕ, zero, suc, ◌+◌, ◌*◌, ◌<◌, ◌&&◌, ◌++◌, not, Bool, true, false, cond, List, [], ◌∷◌, length, replicate, refl, sym, ap, ◌∙◌, arith, length-append}
use Rattle.std.specs.Prelude.{slice_index_or}
use Rattle.std.proofs.lemmas.Grind.{common_steps}
use Rattle.enc_tables.specs.declared.records.MbKind.{MbKind}
use Rattle.enc_tables.specs.declared.records.MbKind.TheVariants as kinds
use Rattle.enc_tables.specs.declared.records.MbPlan.{MbPlan}
use Rattle.enc_tables.specs.declared.records.MbRecord.{MbRecord}
use Rattle.enc_tables.specs.Kinds.{is_16x16, is_intra, is_pcm}
use Rattle.enc_tables.specs.Records.{blank_record}
use Rattle.enc_tables.specs.Steps.{steps}
use Rattle.spec_film.specs.Films.{Planes}
use Rattle.spec_reconstruction.specs.declared.Site.{Site}
use Rattle.spec_reconstruction.specs.Inter.{Sources, inter_built}
use Rattle.spec_reconstruction.specs.Records.{site_of, slice_built, macroblock_built, intra_built, intra_record, intra4_record, intra8_record, intra16_record}
use Rattle.spec_reconstruction.specs.Slices.{coded_record, is_8x8}
use Rattle.spec_record_laws.proofs.Whole.{record_qp}

-- ---- planes

steps_same : {A : Type 0} (f g : ℕ → A → A) (n : ℕ) (a : A) → ((k : ℕ) (x : A) → k < n → f k x ≡ g k x) → steps f n a ≡ steps g n a
unfolding steps
steps_same f g zero a h = refl
steps_same f g (suc n) a h = h n (steps f n a) (omega arith) ∙ ap (λ x. g n x) (steps_same f g n a (λ k x l. h k x (omega arith)))

first_ones : (xs : List MbRecord) (mb : MbRecord) (k : ℕ) (d : MbRecord) → k < length xs → slice_index_or (xs ++ mb ∷ []) k d ≡ slice_index_or xs k d
first_ones xs mb k d h = grind (arith, common_steps)

last_one : (xs : List MbRecord) (mb : MbRecord) (d : MbRecord) → slice_index_or (xs ++ mb ∷ []) (length xs) d ≡ mb
last_one xs mb d = grind (arith, common_steps)

one_step : {A : Type 0} (f : ℕ → A → A) (n m : ℕ) (a : A) → m ≡ n + 1 → steps f m a ≡ f n (steps f n a)
unfolding steps
one_step f n m a e = let on : m ≡ suc n = omega arith in ap (λ k. steps f k a) on

-- one macroblock more
pub built_push : (width : ℕ) (o : Sources) (first : ℕ) (xs : List MbRecord) (mb : MbRecord) (p : Planes) → slice_built width o first (xs ++ mb ∷ []) p ≡ macroblock_built width o first (first + length xs) mb (slice_built width o first xs p)
unfolding slice_built
built_push width o first xs mb p =
    let d : MbRecord = blank_record kinds.Pcm 0 in
    let long : ℕ → Planes → Planes = λ k now. macroblock_built width o first (first + k) (slice_index_or (xs ++ mb ∷ []) k d) now in
    let short : ℕ → Planes → Planes = λ k now. macroblock_built width o first (first + k) (slice_index_or xs k d) now in
    one_step long (length xs) (length (xs ++ mb ∷ [])) p (length-append xs (mb ∷ []))
    ∙ ap (λ (now : Planes). long (length xs) now) (steps_same long short (length xs) p (λ k x l. ap (λ (r : MbRecord). macroblock_built width o first (first + k) r x) (first_ones xs mb k d l)))
    ∙ ap (λ (r : MbRecord). macroblock_built width o first (first + length xs) r (steps short (length xs) p)) (last_one xs mb d)

pub built_none : (width : ℕ) (o : Sources) (first : ℕ) (p : Planes) → slice_built width o first [] p ≡ p
unfolding slice_built steps
built_none width o first p = refl

-- ---- an intra macroblock

-- a coded record's kind is one of intra prediction
kind_is_intra : (width : ℕ) (site : Site) (kind : MbKind) (plan : MbPlan) (source p : Planes) → (let mb : MbRecord = coded_record width site kind plan source p in (is_intra mb.kind && not (is_pcm mb.kind)) ≡ true)
unfolding coded_record intra4_record intra8_record intra16_record intra_record
kind_is_intra width site kind plan source p = by (is_16x16 kind) (is_8x8 kind)
  where
    by : (a b : Bool)
        → (let mb : MbRecord = cond a (intra16_record (16 * width) site plan.mode16 plan.chroma_mode source p) (cond b (intra8_record (16 * width) site (plan.modes8 ++ replicate 12 0) plan.chroma_mode source p) (intra4_record (16 * width) site plan.modes4 plan.chroma_mode source p)) in
        (is_intra mb.kind && not (is_pcm mb.kind)) ≡ true)
    by true b = refl
    by false true = refl
    by false false = refl

-- whatever macroblock of intra prediction it is
pub intra_is : (width : ℕ) (s : Sources) (first address : ℕ) (site : Site) (mb : MbRecord) (p : Planes) → (is_intra mb.kind && not (is_pcm mb.kind)) ≡ true → mb.qp ≡ site.qp → site ≡ site_of width first address site.qp
    → intra_built (16 * width) site mb p ≡ macroblock_built width s first address mb p
unfolding macroblock_built
intra_is width s first address site mb p intra same is =
    ap (λ (t : Site). intra_built (16 * width) t mb p) (is ∙ ap (λ (qp : ℕ). site_of width first address qp) (sym same))
    ∙ (let e : intra_built (16 * width) (site_of width first address mb.qp) mb p ≡ macroblock_built width s first address mb p = rw (intra) refl in e)

pub built_is : (width : ℕ) (s : Sources) (first address : ℕ) (site : Site) (kind : MbKind) (plan : MbPlan) (source p now : Planes) (mb : MbRecord) → mb ≡ coded_record width site kind plan source p → site ≡ site_of width first address site.qp
    → intra_built (16 * width) site mb now ≡ macroblock_built width s first address mb now
built_is width s first address site kind plan source p now mb e is =
    intra_is width s first address site mb now
    (ap (λ (r : MbRecord). is_intra r.kind && not (is_pcm r.kind)) e ∙ kind_is_intra width site kind plan source p)
    (ap (λ (r : MbRecord). r.qp) e ∙ record_qp width site kind plan source p) is

-- ---- an inter macroblock

no_pcm : (k : MbKind) → is_intra k ≡ false → is_pcm k ≡ false
no_pcm kinds.Pcm e = absurd cc
no_pcm kinds.Intra4 e = refl
no_pcm kinds.Intra8 e = refl
no_pcm kinds.Intra16 e = refl
no_pcm _ e = refl

pub inter_is : (width : ℕ) (s : Sources) (first address : ℕ) (site : Site) (mb : MbRecord) (p : Planes) → is_intra mb.kind ≡ false → mb.qp ≡ site.qp → site ≡ site_of width first address site.qp
    → inter_built (16 * width) s site mb p ≡ macroblock_built width s first address mb p
unfolding macroblock_built
inter_is width s first address site mb p inter same is =
    ap (λ (t : Site). inter_built (16 * width) s t mb p) (is ∙ ap (λ (qp : ℕ). site_of width first address qp) (sym same))
    ∙ (let e : inter_built (16 * width) s (site_of width first address mb.qp) mb p ≡ macroblock_built width s first address mb p = rw (inter, no_pcm mb.kind inter) refl in e)

-- ---- a record by its kind

pub coded16 : (across : ℕ) (site : Site) (kind : MbKind) (plan : MbPlan) (source p : Planes) → is_16x16 kind ≡ true → intra16_record (16 * across) site plan.mode16 plan.chroma_mode source p ≡ coded_record across site kind plan source p
unfolding coded_record
coded16 across site kind plan source p e = rw e refl

pub coded8 : (across : ℕ) (site : Site) (kind : MbKind) (plan : MbPlan) (source p : Planes) → is_16x16 kind ≡ false → is_8x8 kind ≡ true
    → intra8_record (16 * across) site (plan.modes8 ++ replicate 12 0) plan.chroma_mode source p ≡ coded_record across site kind plan source p
unfolding coded_record
coded8 across site kind plan source p e h = rw (e, h) refl

pub coded4 : (across : ℕ) (site : Site) (kind : MbKind) (plan : MbPlan) (source p : Planes) → is_16x16 kind ≡ false → is_8x8 kind ≡ false → intra4_record (16 * across) site plan.modes4 plan.chroma_mode source p ≡ coded_record across site kind plan source p
unfolding coded_record
coded4 across site kind plan source p e h = rw (e, h) refl
