-- A standing is written in its place.
use Rattle.std.proofs.Common.{◌≡◌, ℕ, List, [], ◌∷◌, length, slice_set, refl, ap, ◌∙◌, arith, Some, get_or, subst}
use Rattle.std.specs.Prelude.{unwrap_or, slice_get}
use Rattle.enc_edge.specs.declared.studio.Out.TheVariants.{Stream, Recon, Report}
use Rattle.enc_edge.specs.declared.studio.Place.{Place}
use Rattle.enc_edge.specs.declared.studio.Place.TheVariants.{Input, Output}
use Rattle.enc_edge.specs.declared.memory.Standing.{Standing}
use Rattle.enc_edge.specs.declared.memory.Standing.TheVariants.{Fresh}
use Rattle.enc_edge.specs.Places.{place_index}
use Rattle.enc_edge.specs.Stands.{stand_of}
use Rattle.enc_edge.specs.Seen.{Seen, Spot, spot_at, with_spot}
use Rattle.enc_edge.specs.Seen.{Open}
use Rattle.enc_edge.specs.Calls.{opened, shut, shut_standing}

-- the four standings, in order
abbrev pub four : List Standing → Seen → Seen
four names s =
    let at : ℕ → Rattle.enc_edge.specs.Seen.Stand = λ i. stand_of (unwrap_or (slice_get names i) Fresh) in
    record {
      input = record (s.input) { standing = Some (at 0) };
      stream = record (s.stream) { standing = Some (at 1) };
      recon = record (s.recon) { standing = Some (at 2) };
      report = record (s.report) { standing = Some (at 3) };
      aside = s.aside;
    }

-- what the names hold after a write to one
pub named : (place : Place) (names : List Standing) (s : Standing) (seen : Seen) → length names ≡ 4
    → four (slice_set names (place_index place) s) seen ≡ with_spot place (record (spot_at place (four names seen)) { standing = Some (stand_of s) }) (four names seen)
named Input (a ∷ b ∷ c ∷ d ∷ []) s seen l = refl
named (Output Stream) (a ∷ b ∷ c ∷ d ∷ []) s seen l = refl
named (Output Recon) (a ∷ b ∷ c ∷ d ∷ []) s seen l = refl
named (Output Report) (a ∷ b ∷ c ∷ d ∷ []) s seen l = refl
named place [] s seen l = absurd (omega arith)
named place (a ∷ []) s seen l = absurd (omega arith)
named place (a ∷ b ∷ []) s seen l = absurd (omega arith)
named place (a ∷ b ∷ c ∷ []) s seen l = absurd (omega arith)
named place (a ∷ b ∷ c ∷ d ∷ e ∷ names) s seen l = absurd (omega arith)

pub named_open : (place : Place) (name : List ℕ) (names : List Standing) (s : Standing) (seen : Seen) → length names ≡ 4 → stand_of s ≡ Open name
    → four (slice_set names (place_index place) s) seen ≡ opened place name (four names seen)
named_open place name names s seen l e =
    named place names s seen l ∙ ap (λ st. with_spot place (record (spot_at place (four names seen)) { standing = Some st }) (four names seen)) e ∙ told place
  where
    told : (place : Place) → with_spot place (record (spot_at place (four names seen)) { standing = Some (Open name) }) (four names seen) ≡ opened place name (four names seen)
    told Input = refl
    told (Output Stream) = refl
    told (Output Recon) = refl
    told (Output Report) = refl

pub named_shut : (place : Place) (names : List Standing) (s old : Standing) (seen : Seen) → length names ≡ 4
    → old ≡ unwrap_or (slice_get names (place_index place)) Fresh → stand_of s ≡ shut_standing (stand_of old)
    → four (slice_set names (place_index place) s) seen ≡ shut place (four names seen)
named_shut place names s old seen l is e =
    named place names s seen l ∙ ap (λ st. with_spot place (record (spot_at place (four names seen)) { standing = Some st }) (four names seen)) (e ∙ ap (λ o. shut_standing (stand_of o)) is) ∙ told place
  where
    told : (place : Place) → with_spot place (record (spot_at place (four names seen)) { standing = Some (shut_standing (stand_of (unwrap_or (slice_get names (place_index place)) Fresh))) }) (four names seen) ≡ shut place (four names seen)
    told Input = refl
    told (Output Stream) = refl
    told (Output Recon) = refl
    told (Output Report) = refl

pub read_at : (place : Place) (i : ℕ) (names : List Standing) (old : Standing) → length names ≡ 4 → i ≡ place_index place → old ≡ get_or names i old → old ≡ unwrap_or (slice_get names (place_index place)) Fresh
read_at place i names old l at is = go place names l (subst (λ k. old ≡ get_or names k old) at is)
  where
    go : (place : Place) (names : List Standing) → length names ≡ 4 → old ≡ get_or names (place_index place) old → old ≡ unwrap_or (slice_get names (place_index place)) Fresh
    go Input (a ∷ b ∷ c ∷ d ∷ []) l is = is
    go (Output Stream) (a ∷ b ∷ c ∷ d ∷ []) l is = is
    go (Output Recon) (a ∷ b ∷ c ∷ d ∷ []) l is = is
    go (Output Report) (a ∷ b ∷ c ∷ d ∷ []) l is = is
    go place [] l is = absurd (omega arith)
    go place (a ∷ []) l is = absurd (omega arith)
    go place (a ∷ b ∷ []) l is = absurd (omega arith)
    go place (a ∷ b ∷ c ∷ []) l is = absurd (omega arith)
    go place (a ∷ b ∷ c ∷ d ∷ e ∷ names) l is = absurd (omega arith)
