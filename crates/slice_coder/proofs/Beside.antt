-- The macroblocks around, as the code finds them.
use Rattle.std.proofs.Common.{◌≡◌, ℕ, ◌+◌, ◌-◌, ◌%◌, ◌==◌, ◌||◌, nat_lt, List, length, get_or, Option, Some, None, if◌then◌else◌, sym}
use Rattle.enc_tables.specs.declared.records.MbRecord.{MbRecord}
use Rattle.enc_tables.specs.declared.records.Motion.{Motion}
use Rattle.enc_tables.specs.Records.{no_record}
use Rattle.spec_contexts.specs.Near.{pointed}
use Rattle.spec_partitions.specs.Near.{SliceFacts, back, near_in, view_in}
use Rattle.inter_coder.specs.declared.given.Beside.{Beside}
use Rattle.inter_coder.specs.Given.{IsBeside}

pub beside_is : (s : SliceFacts) (c : ℕ → List (Option Motion)) (before : List MbRecord) (across first : ℕ) (b : Beside) → s.width ≡ across → s.first ≡ first
    → pointed b.left ≡ (if length before == 0 || (first + length before) % across == 0 then None else Some (get_or before (length before - 1) no_record))
    → pointed b.above ≡ (if nat_lt (length before) across then None else Some (get_or before (length before - across) no_record))
    → pointed b.above_right ≡ back before (across - 1) ((first + length before + 1) % across == 0)
    → pointed b.above_left ≡ back before (across + 1) ((first + length before) % across == 0)
    → IsBeside (view_in s c before) b
unfolding near_in
beside_is s c before across first b w f l a r k = record {
  left = rw (w, f) (sym l);
  above = rw w (sym a);
  above_right = rw (w, f) (sym r);
  above_left = rw (w, f) (sym k);
}
