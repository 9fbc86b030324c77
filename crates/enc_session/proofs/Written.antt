-- What is written of one picture.
use Rattle.std.proofs.Common.{ℕ, ◌≡◌, List, [], ◌++◌, take, drop, refl, ap, sym, subst, ◌∙◌, append-nil, arith}
use Rattle.std.proofs.lemmas.Grind.{common_steps}
use Rattle.enc_edge.specs.declared.studio.Out.TheVariants.{Stream, Recon, Report}
use Rattle.enc_edge.specs.declared.studio.Place.TheVariants.{Output}
use Rattle.enc_edge.specs.Seen.{Seen}
use Rattle.enc_edge.specs.Calls.{LaterFailed, wrote}
use Rattle.enc_edge.proofs.Spots.{wrote_none}
use Rattle.spec_session.specs.Outputs.{IsFront}
use Rattle.enc_session.specs.Left.{CutShort, with_line}

pub front_of : (xs : List ℕ) (n : ℕ) → IsFront (take n xs) xs
front_of xs n = (drop n xs, taken xs n)
  where
    taken : (xs : List ℕ) (n : ℕ) → take n xs ++ drop n xs ≡ xs
    taken xs n = grind (arith, common_steps)

pub none_front : (xs : List ℕ) → IsFront [] xs
none_front xs = (xs, refl)

pub all_front : (xs : List ℕ) → IsFront xs xs
all_front xs = ([], append-nil xs)

-- the access unit was cut
pub stream_cut : (unit line : List ℕ) (n : ℕ) (old new : Seen) → LaterFailed (Output Stream) (wrote (Output Stream) (take n unit) old) new → CutShort Stream (with_line unit line) old new
stream_cut unit line n old new failed = record {
  written = record { stream = take n unit; recon = []; report = [] };
  fronts = record { stream = front_of unit n; recon = none_front []; report = none_front line };
  failed = subst (λ (s : Seen). LaterFailed (Output Stream) s new)
      (sym (wrote_none (Output Recon) (wrote (Output Report) [] (wrote (Output Stream) (take n unit) old)) ∙ wrote_none (Output Report) (wrote (Output Stream) (take n unit) old))) failed;
}

-- the line was
pub line_cut : (unit line : List ℕ) (n : ℕ) (old mid new : Seen) → mid ≡ wrote (Output Stream) unit old → LaterFailed (Output Report) (wrote (Output Report) (take n line) mid) new → CutShort Report (with_line unit line) old new
line_cut unit line n old mid new e failed = record {
  written = record { stream = unit; recon = []; report = take n line };
  fronts = record { stream = all_front unit; recon = none_front []; report = front_of line n };
  failed = subst (λ (s : Seen). LaterFailed (Output Report) s new)
      (ap (λ (s : Seen). wrote (Output Report) (take n line) s) e ∙ sym (wrote_none (Output Recon) (wrote (Output Report) (take n line) (wrote (Output Stream) unit old)))) failed;
}
