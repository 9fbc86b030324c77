-- One of the outputs grows.
use Rattle.std.proofs.Common.{ℕ, ◌≡◌, List, [], ◌∷◌, ◌++◌, length, slice_set, ap, ◌∙◌, arith, Some, get_or, subst}
use Rattle.std.specs.Prelude.{unwrap_or, slice_get}
use Rattle.std.specs.Option.{option_map}
use Rattle.enc_edge.specs.declared.studio.Out.{Out}
use Rattle.enc_edge.specs.declared.studio.Out.TheVariants.{Stream, Recon, Report}
use Rattle.enc_edge.specs.declared.studio.Place.TheVariants.{Output}
use Rattle.enc_edge.specs.Places.{output_index}
use Rattle.enc_edge.specs.Seen.{Seen, spot_at, with_spot}
use Rattle.enc_edge.specs.Calls.{wrote}

-- the bytes of one output
abbrev pub held : {A : Type 0} → (A → List ℕ) → List A → Out → List ℕ
held items outputs out = unwrap_or (option_map items (slice_get outputs (output_index out))) []

abbrev put : Out → List ℕ → Seen → Seen
put out bytes s = with_spot (Output out) (record (spot_at (Output out) s) { bytes = Some bytes }) s

-- the three outputs, in order
abbrev pub three : {A : Type 0} → (A → List ℕ) → List A → Seen → Seen
three items outputs s = put Stream (held items outputs Stream) (put Recon (held items outputs Recon) (put Report (held items outputs Report) s))

pub grown : {A : Type 0} (items : A → List ℕ) (out : Out) (i : ℕ) (outputs : List A) (new old : A) (more : List ℕ) (s : Seen)
    → length outputs ≡ 3 → i ≡ output_index out → items new ≡ items (get_or outputs i old) ++ more
    → three items (slice_set outputs i new) s ≡ wrote (Output out) more (three items outputs s)
grown {A} items out i outputs new old more s l at e =
    ap (λ k. three items (slice_set outputs k new) s) at ∙ go out outputs l (subst (λ k. items new ≡ items (get_or outputs k old) ++ more) at e)
  where
    go : (out : Out) (outputs : List A) → length outputs ≡ 3 → items new ≡ items (get_or outputs (output_index out) old) ++ more
        → three items (slice_set outputs (output_index out) new) s ≡ wrote (Output out) more (three items outputs s)
    go Stream (a ∷ b ∷ c ∷ []) l e = ap (λ bytes. put Stream bytes (three items (a ∷ b ∷ c ∷ []) s)) e
    go Recon (a ∷ b ∷ c ∷ []) l e = ap (λ bytes. put Recon bytes (three items (a ∷ b ∷ c ∷ []) s)) e
    go Report (a ∷ b ∷ c ∷ []) l e = ap (λ bytes. put Report bytes (three items (a ∷ b ∷ c ∷ []) s)) e
    go out [] l e = absurd (omega arith)
    go out (a ∷ []) l e = absurd (omega arith)
    go out (a ∷ b ∷ []) l e = absurd (omega arith)
    go out (a ∷ b ∷ c ∷ d ∷ outputs) l e = absurd (omega arith)
