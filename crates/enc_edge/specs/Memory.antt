-- What a studio in memory shows, when its calls fail, and how much they move.
use Rattle.std.specs.Prelude.{ℕ, ◌+◌, ◌-◌, ◌*◌, ◌^◌, min, ◌≡◌, ◌==◌, ◌||◌, Bool, nat_lt, nat_le, List, [], drop, length, Some, slice_get, slice_index, unwrap_or}
use Rattle.std.specs.List.{list_any}
use Rattle.std.specs.Option.{option_map}
use Rattle.enc_edge.specs.declared.studio.Out.{Out}
use Rattle.enc_edge.specs.declared.studio.Out.TheVariants.{Stream, Recon, Report}
use Rattle.enc_edge.specs.declared.studio.Place.{Place}
use Rattle.enc_edge.specs.declared.studio.Place.TheVariants.{Input, Output}
use Rattle.enc_edge.specs.declared.memory.Standing.TheVariants.{Fresh}
use Rattle.enc_edge.specs.declared.memory.MemStudio.{MemStudio}
use Rattle.enc_edge.specs.Stands.{stand_of}
use Rattle.enc_edge.specs.Places.{place_index, output_index}
use Rattle.enc_edge.specs.Seen.{Seen, Spot, Unopened}

-- the bytes of the input that were not taken
abbrev pub left : MemStudio → List ℕ
left m = drop m.taken m.input.items

-- the bytes written to an output
abbrev pub written : Out → MemStudio → List ℕ
written out m = unwrap_or (option_map (λ held. held.items) (slice_get m.outputs (output_index out))) []

abbrev pub spot_of : Place → List ℕ → MemStudio → Spot
spot_of place bytes m = record {
  bytes = Some bytes;
  standing = Some (stand_of (unwrap_or (slice_get m.names (place_index place)) Fresh));
  opening = slice_index m.counters (2 * place_index place);
  later = slice_index m.counters (2 * place_index place + 1);
}

-- it tells all
abbrev pub memory_seen : MemStudio → Seen
memory_seen m = record {
  input = spot_of Input (left m) m;
  stream = spot_of (Output Stream) (written Stream m) m;
  recon = spot_of (Output Recon) (written Recon m) m;
  report = spot_of (Output Report) (written Report m) m;
  aside = [];
}

-- the number of the call that comes next is among those that are to fail
abbrev pub is_to_fail : MemStudio → Bool
is_to_fail m = list_any (λ k. k == m.calls) m.failing.items

-- an opening fails by its number, and for a name of over 1024 bytes
abbrev pub opening_fails : List ℕ → MemStudio → Bool
opening_fails name m = is_to_fail m || nat_lt 1024 (length name)

-- a write fails by its number, and where the output is full
abbrev pub write_fails : Out → MemStudio → Bool
write_fails out m = is_to_fail m || nat_le m.room (length (written out m))

-- one more call was counted, up to 2^64 − 1; which calls fail and how much they move stays as it was
pub record Counted (old new : MemStudio) : Type 0 where
  pub calls : new.calls ≡ min (old.calls + 1) (2 ^ 64 - 1)
  pub failing : new.failing ≡ old.failing
  pub room : new.room ≡ old.room
  pub piece : new.piece ≡ old.piece

-- a place that no call has touched
abbrev pub untouched : List ℕ → Spot
untouched bytes = record { bytes = Some bytes; standing = Some Unopened; opening = 0; later = 0 }

-- no call was made yet: the input as given, room for so many bytes, so many moved by each call, the calls chosen to fail
pub record Starts (given : List ℕ) (most each : ℕ) (chosen : List ℕ) (m : MemStudio) : Type 0 where
  pub shows : memory_seen m ≡ record { input = untouched given; stream = untouched []; recon = untouched []; report = untouched []; aside = [] }
  pub calls : m.calls ≡ 0
  pub failing : m.failing.items ≡ chosen
  pub room : m.room ≡ most
  pub piece : m.piece ≡ each
