-- The picture that slices make, as it is kept for later pictures.
use Rattle.std.specs.Prelude.{◌≡◌, pos, List, map}
use Rattle.enc_tables.specs.declared.records.PlanStep.{PlanStep}
use Rattle.spec_lists.specs.References.{Reference as Shown}
use Rattle.spec_slice_payload.specs.Layer.{Slice}
use Rattle.spec_decoder.specs.Frames.{motion_of}
use Rattle.spec_encoding.specs.Frames.{picture_of, all_records}
use Rattle.spec_film_coder.specs.Pictures.{Shape}
use Rattle.ref_lists.specs.declared.held.Reference.{Reference}
use Rattle.ref_lists.specs.Held.{seen}

-- what a decoder keeps of the picture that slices make, where these references were held
abbrev pub shown_by : Shape → List Shown → PlanStep → List Slice → Shown
shown_by s held st slices = record { planes = picture_of s.across s.down held slices; motion = map motion_of (all_records slices); poc = st.poc; frame_num = st.frame_num }

-- a reference is that of a decoder
pub record IsKept (r : Reference) (shown : Shown) : Type 0 where
  pub seen_is : seen r ≡ shown
  pub poc_is : r.poc ≡ pos shown.poc
