-- Pictures that are written to the reconstruction.
use Rattle.std.specs.Prelude.{ℕ, ◌≡◌, ◌-◌, ◌==◌, List, [], ◌++◌, Result, Ok, Err, map, take, if◌then◌else◌}
use Rattle.std.specs.List.{flat_map}
use Rattle.enc_edge.specs.declared.studio.Out.TheVariants.{Recon}
use Rattle.enc_edge.specs.declared.studio.Place.TheVariants.{Output}
use Rattle.enc_edge.specs.declared.studio.Failed.{Failed}
use Rattle.enc_edge.specs.Seen.{Seen}
use Rattle.enc_edge.specs.Calls.{wrote}
use Rattle.spec_film.specs.declared.FilmHead.{FilmHead}
use Rattle.spec_film.specs.Films.{Planes}
use Rattle.spec_film.specs.Cropping.{shown}
use Rattle.spec_film.specs.Written.{picture_text}
use Rattle.spec_lists.specs.References.{Reference as Shown}
use Rattle.ref_lists.specs.declared.store.RefStore.{RefStore}
use Rattle.ref_lists.specs.Stored.{held_of}
use Rattle.y4m_film.specs.Writes.{FrontWritten}

-- of pictures as they are kept, cropped to the film's sizes
abbrev pub shown_text : FilmHead → List Planes → List ℕ
shown_text h ps = flat_map picture_text (map (shown h) ps)

-- the newest of the references
abbrev pub newest_planes : RefStore → List Planes
newest_planes store = take 1 (map (λ (r : Shown). r.planes) (held_of store))

-- the pictures of a group of which so many were coded, in display order: those of the slots, and the newest reference, which was coded first
abbrev pub coded_planes : ℕ → List Planes → List Planes → List Planes
coded_planes n slots newest = if n == 0 then [] else take (n - 1) slots ++ newest

-- a text was written there, or a front of it and then a write failed
abbrev pub ShownLeft : List ℕ → Seen → Seen → Result (Unit {0}) Failed → Type 0
ShownLeft text old new (Ok done) = new ≡ wrote (Output Recon) text old
ShownLeft text old new (Err failed) = FrontWritten Recon text old new
