-- How many bytes the payloads and the access units of stored pictures have at most.
use Rattle.std.specs.Prelude.{ℕ, ◌+◌, ◌*◌, ◌/◌}
use Rattle.spec_film.specs.declared.FilmHead.{FilmHead}
use Rattle.spec_stream.specs.Stored.{mbs_across, mbs_down}

-- 387 bytes for each macroblock, and 512 for heads
abbrev pub payload_most : FilmHead → ℕ
payload_most h = 512 + 387 * (mbs_across h * mbs_down h)

-- at most one byte 03 for two bytes of the payload, and 4096 for parameter sets and start codes
abbrev pub units_most : FilmHead → ℕ
units_most h = 4096 + payload_most h + payload_most h / 2
