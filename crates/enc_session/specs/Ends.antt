-- How a group ended.
use Rattle.std.specs.Prelude.{Option, Some, None, Result, Ok, Err}
use Rattle.enc_edge.specs.declared.studio.Out.{Out}
use Rattle.enc_session.specs.declared.ends.GroupEnd.{GroupEnd}
use Rattle.enc_session.specs.declared.ends.GroupEnd.TheVariants.{Buffer, Write}

-- the output to which a write failed
abbrev pub failed_in : Result (Unit {0}) GroupEnd → Option Out
failed_in (Ok done) = None
failed_in (Err (Buffer picture need have)) = None
failed_in (Err (Write out)) = Some out
