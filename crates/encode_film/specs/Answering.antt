-- Which end a film and the settings have where nothing outside fails.
use Rattle.std.specs.Prelude.{◌≡◌, ◌⊎◌, Result, Ok, Err}
use Rattle.spec_film.specs.Films.{Film}
use Rattle.spec_words.specs.declared.command.Settings.{Settings}
use Rattle.spec_session.specs.Answers.{Ending, Done, Setting, Input, Buffer, ending_of}
use Rattle.encode_film.specs.declared.ends.EncodeEnd.{EncodeEnd}
use Rattle.encode_film.specs.declared.ends.EncodeEnd.TheVariants as ends

abbrev pub end_of : Ending → Result (Unit {0}) EncodeEnd
end_of Done = Ok tt
end_of (Setting fault) = Err (ends.Setting fault)
end_of (Input fault) = Err (ends.Input fault)
end_of (Buffer refusal) = Err (ends.Buffer refusal.picture refusal.need refusal.have)

-- the end that the film and the settings alone decide, or memory was wanting
abbrev pub Answers : Settings → Film → Result (Unit {0}) EncodeEnd → Type 0
Answers s film answer = (answer ≡ end_of (ending_of s film)) ⊎ (answer ≡ Err ends.OutOfMemory)
