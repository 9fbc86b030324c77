-- The modes of coded records need no samples but those of neighbours that are available.
use Rattle.std.proofs.Common.{◌≡◌, ◌<◌, ◌+◌, ◌++◌, ◌&&◌, ℕ, zero, suc, Bool, true, List, get_or, replicate, refl, ap, ◌∙◌, arith, length}
use Rattle.std.specs.List.{list_all, range_with_len}
use Rattle.std.proofs.Math.ListN.{get_or-append}
use Rattle.enc_tables.specs.declared.records.MbKind.{MbKind}
use Rattle.enc_tables.specs.declared.records.MbPlan.{MbPlan}
use Rattle.spec_film.specs.Films.{Planes}
use Rattle.spec_intra.specs.declared.Avail.{Avail}
use Rattle.spec_intra.specs.Predictions.{is_allowed_nxn}
use Rattle.spec_reconstruction.specs.declared.Site.{Site}
use Rattle.spec_reconstruction.specs.Records.{intra_record, intra4_record, intra8_record, intra16_record}
use Rattle.spec_reconstruction.specs.Slices.{coded_record}
use Rattle.spec_record_laws.specs.Coded.{ModesFit, IsCodedKind, avail4, avail8, ModesAllowed}
use Rattle.spec_slice_payload.specs.Allowed.{modes_allowed}

pub both : (a b : Bool) → a ≡ true → b ≡ true → (a && b) ≡ true
both a b h k = rw (h, k) refl

all_in : (test : ℕ → Bool) (a n : ℕ) → ((k : ℕ) → k < a + n → test k ≡ true) → list_all test (range_with_len a n) ≡ true
all_in test a zero h = refl
all_in test a (suc n) h = both _ _ (h a (omega arith)) (all_in test (a + 1) n (λ k inside. h k (omega (arith, inside))))

-- the modes of 8x8 blocks stand before those that aren't there
first_four : (modes : List ℕ) (k n : ℕ) → k < n → length modes ≡ n → get_or (modes ++ replicate 12 0) k 0 ≡ get_or modes k 0
first_four modes k n h e = get_or-append modes (replicate 12 0) 0 k (omega arith)

pub coded_allowed : (t8x8 : Bool) (mb : Avail) (width : ℕ) (site : Site) (kind : MbKind) (plan : MbPlan) (source p : Planes) → IsCodedKind t8x8 kind → ModesFit plan → ModesAllowed t8x8 mb plan → modes_allowed mb (coded_record width site kind plan source p) ≡ true
unfolding coded_record intra4_record intra8_record intra16_record intra_record modes_allowed
coded_allowed t8x8 mb width site MbKind.Intra4 plan source p k m a =
    both _ _ (all_in (λ b. is_allowed_nxn (get_or plan.modes4 b 0) (avail4 mb b)) 0 16 (λ b inside. a.modes4 b (omega (arith, inside)))) a.chroma_mode
coded_allowed t8x8 mb width site MbKind.Intra8 plan source p k m a =
    both _ _ (all_in (λ b. is_allowed_nxn (get_or (plan.modes8 ++ replicate 12 0) b 0) (avail8 mb b)) 0 4 (λ b inside.
    ap (λ (mode : ℕ). is_allowed_nxn mode (avail8 mb b)) (first_four plan.modes8 b 4 (omega (arith, inside)) m.modes8_length) ∙ a.modes8 k b (omega (arith, inside)))) a.chroma_mode
coded_allowed t8x8 mb width site MbKind.Intra16 plan source p k m a = both _ _ a.mode16 a.chroma_mode
coded_allowed t8x8 mb width site _ plan source p k m a = absurd k
