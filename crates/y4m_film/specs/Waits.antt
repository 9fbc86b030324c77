-- Bytes that wait to be written.
use Rattle.std.specs.Prelude.{ℕ, ◌≡◌, List, ◌++◌, take}
use Rattle.enc_edge.specs.declared.studio.Out.{Out}
use Rattle.enc_edge.specs.declared.studio.Place.TheVariants.{Output}
use Rattle.enc_edge.specs.Seen.{Seen}
use Rattle.enc_edge.specs.Calls.{wrote}
use Rattle.y4m_film.specs.declared.pieces.Waiting.{Waiting}

-- the bytes that wait
abbrev pub waits : Waiting → List ℕ
waits w = take w.count w.bytes

-- bytes came behind those that waited; of all of them a front was written there, and the others wait
pub record Gathered (out : Out) (before bytes after : List ℕ) (old new : Seen) : Type 0 where
  pub front : List ℕ
  pub parts : front ++ after ≡ before ++ bytes
  pub written : new ≡ wrote (Output out) front old
