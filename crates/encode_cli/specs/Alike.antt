-- Runs that write the same.
use Rattle.std.specs.Prelude.{ℕ, ◌≡◌, List, ◌++◌}
use Rattle.std.specs.Option.{option_map}
use Rattle.enc_edge.specs.Seen.{Seen}
use Rattle.spec_session.specs.Outputs.{Outputs}

-- this stands behind what was written before, in each output that tells it
pub record Wrote (o : Outputs) (old new : Seen) : Type 0 where
  pub stream : new.stream.bytes ≡ option_map (λ (xs : List ℕ). xs ++ o.stream) old.stream.bytes
  pub recon : new.recon.bytes ≡ option_map (λ (xs : List ℕ). xs ++ o.recon) old.recon.bytes
  pub report : new.report.bytes ≡ option_map (λ (xs : List ℕ). xs ++ o.report) old.report.bytes

-- one run and another one wrote the same
pub record WroteAlike (old new old2 new2 : Seen) : Type 0 where
  pub outputs : Outputs
  pub first : Wrote outputs old new
  pub second : Wrote outputs old2 new2
