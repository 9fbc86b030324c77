-- Plans in which nothing is planned.
use Rattle.std.specs.Prelude.{replicate}
use Rattle.enc_tables.specs.declared.records.PartPlan.{PartPlan}
use Rattle.enc_tables.specs.declared.records.MbPlan.{MbPlan}
use Rattle.enc_tables.specs.Records.{no_motion}

abbrev pub blank_part : PartPlan
blank_part = record { motion = no_motion; cost = 0 }

unfoldable pub blank_plan : MbPlan
blank_plan = record {
  mode16 = 0;
  modes8 = replicate 4 0;
  modes4 = replicate 16 0;
  chroma_mode = 0;
  intra = replicate 3 0;
  parts = replicate 9 blank_part;
}
