-- How a run ends where something below it didn't come to its end.
use Rattle.std.specs.Prelude.{Option, Some, None}
use Rattle.spec_film.specs.declared.HeadFault.{HeadFault}
use Rattle.spec_film.specs.declared.HeadFault.TheVariants as heads
use Rattle.spec_film.specs.declared.InputFault.{InputFault}
use Rattle.spec_film.specs.declared.InputFault.TheVariants as faults
use Rattle.y4m_film.specs.declared.pictures.FrameFault.{FrameFault}
use Rattle.y4m_film.specs.FrameEnds.{input_fault}
use Rattle.enc_session.specs.declared.ends.OpenEnd.{OpenEnd}
use Rattle.enc_session.specs.declared.ends.OpenEnd.TheVariants as opens
use Rattle.enc_session.specs.declared.ends.GroupEnd.{GroupEnd}
use Rattle.enc_session.specs.declared.ends.GroupEnd.TheVariants as groups
use Rattle.encode_film.specs.declared.ends.EncodeEnd.{EncodeEnd}
use Rattle.encode_film.specs.declared.ends.EncodeEnd.TheVariants.{Read, Write, Input, Setting, Buffer, OutOfMemory}

-- a read failed, or the head is none for this cause
abbrev pub head_end : HeadFault → EncodeEnd
head_end heads.ReadFault = Read
head_end heads.NotY4m = Input (faults.Head heads.NotY4m)
head_end heads.LongLine = Input (faults.Head heads.LongLine)
head_end heads.BadNumber = Input (faults.Head heads.BadNumber)
head_end heads.Chroma = Input (faults.Head heads.Chroma)
head_end heads.Interlace = Input (faults.Head heads.Interlace)
head_end heads.Missing = Input (faults.Head heads.Missing)
head_end heads.Size = Input (faults.Head heads.Size)
head_end heads.OddSize = Input (faults.Head heads.OddSize)

-- by the fault of the input; there is none where a read failed
abbrev pub end_by : Option InputFault → EncodeEnd
end_by None = Read
end_by (Some fault) = Input fault

abbrev pub frame_end : FrameFault → EncodeEnd
frame_end fault = end_by (input_fault fault)

-- a session wasn't opened
abbrev pub open_end : OpenEnd → EncodeEnd
open_end (opens.Setting fault) = Setting fault
open_end opens.OutOfMemory = OutOfMemory

-- a group wasn't coded to its end
abbrev pub group_end : GroupEnd → EncodeEnd
group_end (groups.Buffer picture need have) = Buffer picture need have
group_end (groups.Write out) = Write out
