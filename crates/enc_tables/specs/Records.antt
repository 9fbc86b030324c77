-- Records with nothing in them.
use Rattle.std.specs.Prelude.{ℕ, false, [], ◌∷◌, replicate, pos, negsuc, Bool, true, ℤ}
use Rattle.enc_tables.specs.declared.records.MbKind.{MbKind}
use Rattle.enc_tables.specs.declared.records.MbRecord.{MbRecord}
use Rattle.enc_tables.specs.declared.records.Motion.{Motion}
use Rattle.enc_tables.specs.declared.records.Vector.{Vector}

abbrev pub zero_vector : Vector
zero_vector = record { x = pos 0; y = pos 0 }

-- neither list is used
abbrev pub no_motion : Motion
no_motion = record { refs = negsuc 0 ∷ negsuc 0 ∷ []; vectors = zero_vector ∷ zero_vector ∷ [] }

-- whether a reference index is one: below 0 is none
abbrev pub is_used : ℤ → Bool
is_used (pos n) = true
is_used (negsuc n) = false

-- a macroblock of a kind and a quantisation parameter, of which nothing else is said
unfoldable pub blank_record : MbKind → ℕ → MbRecord
blank_record kind qp = record {
  kind = kind;
  transform8 = false;
  modes = replicate 16 0;
  chroma_mode = 0;
  motion = replicate 4 no_motion;
  mvd = replicate 8 zero_vector;
  luma_cbp = 0;
  chroma_cbp = 0;
  qp = qp;
  luma_dc = replicate 16 (pos 0);
  luma = replicate 256 (pos 0);
  chroma_dc = replicate 8 (pos 0);
  chroma_ac = replicate 120 (pos 0);
}

-- what stands where no macroblock is known
abbrev pub no_record : MbRecord
no_record = blank_record MbKind.Pcm 0
