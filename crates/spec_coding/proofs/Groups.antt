-- Groups one after another, a refusal, and one picture for each.
use Rattle.std.proofs.Common.{ℕ, suc, ◌+◌, ◌≡◌, List, [], ◌∷◌, ◌++◌, length, true, false, cond, Option, Some, None, refl, ap, sym, ◌∙◌, arith, append_assoc}
use Rattle.std.specs.Prelude.{nat_lt}
use Rattle.std.proofs.lemmas.List.{length-map}
use Rattle.enc_tables.specs.declared.records.PlanStep.{PlanStep}
use Rattle.spec_film.specs.Films.{Planes}
use Rattle.spec_headers.specs.declared.heads.SeqHead.{SeqHead}
use Rattle.spec_decoder.specs.Output.{placed}
use Rattle.spec_decoder.specs.Pictures.{Reading}
use Rattle.spec_coding.specs.Encoding.{State, Refusal, Chosen, Fits, Refused, Choice, Coded, coded, after, Went, behind, encoded, shown_at, placed_all, in_order}
use Rattle.spec_coding.specs.Laws.{go_on}
use Rattle.spec_coding.proofs.Going.{encoded-fits, encoded-refused, refusal, going}

behind-behind : {S : Type 0} (more : State → Went S) (ds : List (Coded S)) (w : Went S) (o : Option Refusal) → behind ds (go_on more w o) ≡ go_on more (behind ds w) o
behind-behind more ds w None = ap (λ (done : List (Coded _)). let v : Went _ = record { done = done; end = (more w.end).end; refused = (more w.end).refused } in v) (sym (append_assoc ds w.done (more w.end).done))
behind-behind more ds w (Some refusal) = refl

-- whole groups: the encoding of steps and further steps
append_by : {S : Type 0} (r : Reading S) (q : SeqHead) (c : Choice S) (s : State) (x : PlanStep × Planes) (xs ys : List (PlanStep × Planes))
    → ((t : State) → encoded r q c t (xs ++ ys) ≡ go_on (λ u. encoded r q c u ys) (encoded r q c t xs) (encoded r q c t xs).refused)
    → (ch : Chosen S) → c.chosen s x.0 x.1 ≡ ch → encoded r q c s (x ∷ xs ++ ys) ≡ go_on (λ u. encoded r q c u ys) (encoded r q c s (x ∷ xs)) (encoded r q c s (x ∷ xs)).refused
append_by r q c s x xs ys ih (Refused need have) e =
    encoded-refused r q c s x (xs ++ ys) need have e
    ∙ ap (λ (w : Went _). go_on (λ u. encoded r q c u ys) w w.refused) (sym (encoded-refused r q c s x xs need have e))
append_by r q c s x xs ys ih (Fits p) e =
    let t : State = after r q c s x.0 p in
    let ds : List (Coded _) = coded r q s x.0 p ∷ [] in
    encoded-fits r q c s x (xs ++ ys) p e
    ∙ ap (λ (w : Went _). behind ds w) (ih t)
    ∙ behind-behind (λ u. encoded r q c u ys) ds (encoded r q c t xs) (encoded r q c t xs).refused
    ∙ ap (λ (w : Went _). go_on (λ u. encoded r q c u ys) w w.refused) (sym (encoded-fits r q c s x xs p e))

pub encoded-append : {S : Type 0} (r : Reading S) (q : SeqHead) (c : Choice S) (xs ys : List (PlanStep × Planes)) (s : State) → encoded r q c s (xs ++ ys) ≡ go_on (λ u. encoded r q c u ys) (encoded r q c s xs) (encoded r q c s xs).refused
unfolding encoded
encoded-append r q c [] ys s = refl
encoded-append r q c (x ∷ xs) ys s = append_by r q c s x xs ys (λ t. encoded-append r q c xs ys t) (c.chosen s x.0 x.1) refl

-- one picture for each step, where none was refused
length-placed : (x : ℕ × Planes) (xs : List (ℕ × Planes)) → length (placed x xs) ≡ suc (length xs)
unfolding placed
length-placed x [] = refl
length-placed x (y ∷ ys) = elim (nat_lt x.0 y.0) as (λ t. length (cond t (x ∷ y ∷ ys) (y ∷ placed x ys)) ≡ suc (suc (length ys))) [ true ↦ refl | false ↦ ap suc (length-placed x ys) ]

length-placed_all : {S : Type 0} (q : SeqHead) (sh : List (ℕ × Planes)) (ds : List (Coded S)) → length (placed_all q sh ds) ≡ length sh + length ds
unfolding placed_all
length-placed_all q sh [] = omega arith
length-placed_all q sh (d ∷ ds) = omega (arith, length-placed_all q (placed (shown_at q d) sh) ds, length-placed (shown_at q d) sh)

all_done : {S : Type 0} (r : Reading S) (q : SeqHead) (c : Choice S) (xs : List (PlanStep × Planes)) (s : State) → (encoded r q c s xs).refused ≡ None → length (encoded r q c s xs).done ≡ length xs
all_done r q c xs s =
    going r q c (λ s xs w. w.refused ≡ None → length w.done ≡ length xs) (λ s h. refl) (λ s x xs need have e h. absurd (no_some _ h)) (λ s x xs p w e ih h. ap suc (ih h)) xs s
  where
    no_some : (r : Refusal) → Some r ≡ None → ⊥
    no_some r h = absurd cc

pub one_for_each : {S : Type 0} (r : Reading S) (q : SeqHead) (c : Choice S) (xs : List (PlanStep × Planes)) (s : State) → (encoded r q c s xs).refused ≡ None → length (in_order q (encoded r q c s xs).done) ≡ length xs
one_for_each r q c xs s none =
    length-map (placed_all q [] (encoded r q c s xs).done) (λ (p : ℕ × Planes). p.1) ∙ omega (arith, length-placed_all q [] (encoded r q c s xs).done, all_done r q c xs s none)
