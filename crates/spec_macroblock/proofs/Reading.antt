-- A macroblock is read back from its bins.
use Rattle.enc_tables.specs.declared.records.MbRecord.{MbRecord}
use Rattle.spec_syntax.specs.Syntax.{Reads}
use Rattle.spec_syntax.proofs.Walks.{reads_then}
use Rattle.spec_partitions.specs.Near.{View}
use Rattle.spec_macroblock.specs.Macroblock.{macroblock, with_transform, with_modes, with_chroma_mode, with_luma_pattern, with_chroma_pattern, with_inter_transform, with_qp, with_luma_dc, with_luma, with_chroma_dc, with_chroma_ac}
use Rattle.spec_macroblock.specs.Strings.{macroblock_string}
use Rattle.spec_partitions.specs.Records.{HasMotion}
use Rattle.spec_macroblock.specs.Records.{IsRecord}
use Rattle.spec_macroblock.proofs.Types.{step_type}
use Rattle.spec_macroblock.proofs.Heads.{step_transform, step_modes, step_chroma_mode}
use Rattle.spec_macroblock.proofs.Patterns.{step_luma_pattern, step_chroma_pattern, step_inter_transform, step_qp}
use Rattle.spec_macroblock.proofs.Levels.{step_luma_dc, step_luma, step_chroma_dc, step_chroma_ac}

pub reads_macroblock : (view : View) (mb : MbRecord) → IsRecord view.near mb → HasMotion view mb → Reads (macroblock view) (macroblock_string view.near mb) mb
unfolding macroblock macroblock_string
reads_macroblock view mb h g =
    let a = step_type view mb h g in
    let b = reads_then (with_transform view.near) a (step_transform view.near mb h) in
    let c = reads_then (with_modes view.near) b (step_modes view.near mb h) in
    let d = reads_then (with_chroma_mode view.near) c (step_chroma_mode view.near mb h) in
    let e = reads_then (with_luma_pattern view.near) d (step_luma_pattern view.near mb h) in
    let f = reads_then (with_chroma_pattern view.near) e (step_chroma_pattern view.near mb h) in
    let t = reads_then (with_inter_transform view.near) f (step_inter_transform view.near mb h) in
    let q = reads_then (with_qp view.near) t (step_qp view.near mb h) in
    let i = reads_then (with_luma_dc view.near) q (step_luma_dc view.near mb h) in
    let j = reads_then (with_luma view.near) i (step_luma view.near mb h) in
    let k = reads_then (with_chroma_dc view.near) j (step_chroma_dc view.near mb h) in
    reads_then (with_chroma_ac view.near) k (step_chroma_ac view.near mb h)
