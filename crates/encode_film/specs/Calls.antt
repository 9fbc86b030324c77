-- What smaller parts of a run do to the outside.
use Rattle.std.specs.Prelude.{◌≡◌, [], None, Some, Result, Ok, Err}
use Rattle.enc_edge.specs.declared.studio.Out.{Out}
use Rattle.enc_edge.specs.declared.studio.Out.TheVariants.{Stream, Recon, Report}
use Rattle.enc_edge.specs.declared.studio.Place.TheVariants as places
use Rattle.enc_edge.specs.Seen.{Seen}
use Rattle.enc_edge.specs.Calls.{OpeningFailed, LaterFailed, opened, shut}
use Rattle.enc_edge.specs.Reads.{Took, TookSome, ReadFailed}
use Rattle.spec_film.specs.declared.FilmHead.{FilmHead}
use Rattle.spec_film.specs.Films.{Broken, frame_step}
use Rattle.spec_words.specs.declared.command.Settings.{Settings}
use Rattle.spec_decoder.specs.Macroblocks.{Slice as Read}
use Rattle.spec_coding.specs.Encoding.{State, Went}
use Rattle.spec_session.specs.Settings.{SessionSettings, settled}
use Rattle.spec_session.specs.Outputs.{Outputs, group_text}
use Rattle.enc_session.specs.Left.{added, grown, CutShort}
use Rattle.encode_film.specs.declared.ends.EncodeEnd.{EncodeEnd}
use Rattle.encode_film.specs.declared.ends.EncodeEnd.TheVariants as ends
use Rattle.encode_film.specs.Outputs.{Names, all_open, all_shut}

-- completed settings are those of a command for a film with this head
abbrev pub Settles : Settings → FilmHead → SessionSettings → Type 0
Settles s head f = f ≡ settled s head f.level

-- the outputs were to be opened
abbrev pub OutputsOpened : Names → Seen → Seen → Result (Unit {0}) EncodeEnd → Type 0
OutputsOpened names old new (Ok done) = new ≡ all_open names old
OutputsOpened names old new (Err (ends.Open places.Input)) = ⊥
OutputsOpened names old new (Err (ends.Open (places.Output Stream))) = OpeningFailed (places.Output Stream) old new
OutputsOpened names old new (Err (ends.Open (places.Output Recon))) = OpeningFailed (places.Output Recon) (opened (places.Output Stream) names.stream old) new
OutputsOpened names old new (Err (ends.Open (places.Output Report))) =
    OpeningFailed (places.Output Report) (opened (places.Output Recon) names.recon (opened (places.Output Stream) names.stream old)) new
OutputsOpened names old new (Err ends.Read) = ⊥
OutputsOpened names old new (Err (ends.Write out)) = ⊥
OutputsOpened names old new (Err (ends.Input fault)) = ⊥
OutputsOpened names old new (Err (ends.Setting fault)) = ⊥
OutputsOpened names old new (Err (ends.Buffer picture need have)) = ⊥
OutputsOpened names old new (Err ends.OutOfMemory) = ⊥

-- the outputs that stand before one were closed
abbrev pub shut_before : Out → Seen → Seen
shut_before Stream s = s
shut_before Recon s = shut (places.Output Stream) s
shut_before Report s = shut (places.Output Recon) (shut (places.Output Stream) s)

-- the outputs were to be closed
abbrev pub OutputsClosed : Seen → Seen → Result (Unit {0}) EncodeEnd → Type 0
OutputsClosed old new (Ok done) = new ≡ all_shut old
OutputsClosed old new (Err (ends.Write out)) = LaterFailed (places.Output out) (shut_before out old) new
OutputsClosed old new (Err (ends.Open place)) = ⊥
OutputsClosed old new (Err ends.Read) = ⊥
OutputsClosed old new (Err (ends.Input fault)) = ⊥
OutputsClosed old new (Err (ends.Setting fault)) = ⊥
OutputsClosed old new (Err (ends.Buffer picture need have)) = ⊥
OutputsClosed old new (Err ends.OutOfMemory) = ⊥

-- this was to be written
abbrev pub TextWritten : Outputs → Seen → Seen → Result (Unit {0}) EncodeEnd → Type 0
TextWritten due old new (Ok done) = new ≡ added due old
TextWritten due old new (Err (ends.Write out)) = CutShort out due old new
TextWritten due old new (Err (ends.Open place)) = ⊥
TextWritten due old new (Err ends.Read) = ⊥
TextWritten due old new (Err (ends.Input fault)) = ⊥
TextWritten due old new (Err (ends.Setting fault)) = ⊥
TextWritten due old new (Err (ends.Buffer picture need have)) = ⊥
TextWritten due old new (Err ends.OutOfMemory) = ⊥

-- a group was to be coded from state s0 on, which goes as w says
abbrev pub GroupCoded : SessionSettings → State → Went Read → Seen → Seen → State → Result (Unit {0}) EncodeEnd → Type 0
GroupCoded f s0 w old new s (Ok done) = (w.refused ≡ None) × (s ≡ w.end) × (new ≡ grown f s0.ledger.units w.done old)
GroupCoded f s0 w old new s (Err (ends.Buffer picture need have)) = (w.refused ≡ Some (record { picture = picture; need = need; have = have })) × (new ≡ grown f s0.ledger.units w.done old)
GroupCoded f s0 w old new s (Err (ends.Write out)) = CutShort out (group_text f s0.ledger.units w.done) old new
GroupCoded f s0 w old new s (Err (ends.Open place)) = ⊥
GroupCoded f s0 w old new s (Err ends.Read) = ⊥
GroupCoded f s0 w old new s (Err (ends.Input fault)) = ⊥
GroupCoded f s0 w old new s (Err (ends.Setting fault)) = ⊥
GroupCoded f s0 w old new s (Err ends.OutOfMemory) = ⊥

-- behind the last picture that a film may have the input was to end
abbrev pub EndRead : FilmHead → Seen → Seen → Result (Unit {0}) EncodeEnd → Type 0
EndRead head old new (Ok done) = Took 0 (λ left. left ≡ []) old new
EndRead head old new (Err ends.Read) = ReadFailed old new
EndRead head old new (Err (ends.Input fault)) = TookSome (λ left. frame_step 0 head left ≡ Broken fault) old new
EndRead head old new (Err (ends.Write out)) = ⊥
EndRead head old new (Err (ends.Open place)) = ⊥
EndRead head old new (Err (ends.Setting fault)) = ⊥
EndRead head old new (Err (ends.Buffer picture need have)) = ⊥
EndRead head old new (Err ends.OutOfMemory) = ⊥
