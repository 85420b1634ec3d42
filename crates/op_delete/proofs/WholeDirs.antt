-- The first header of a directory lists all of its blocks, so all of them were seen.
use Rattle.std.proofs.Common.{◌≡◌, ◌≤◌, ◌+◌, ◌∙◌, ℕ, List, ◌++◌, Some, length, min, flat_map, ap, arith}
use Rattle.std.specs.List.{range_with_len}
use Rattle.std.proofs.lemmas.List.{length-append, length-take}
use Rattle.std.proofs.lemmas.List.Concat.{flat_map-append}
use Rattle.base_words.specs.Fields.{Block}
use Rattle.fx_header.specs.declared.run.Run.{Run}
use Rattle.fx_header.specs.Headers.{runs_in}
use Rattle.fx_header.specs.Pointers.{blocks_in, lbns_in}
use Rattle.vol_parts.specs.Chains.{cut}
use Rattle.vol_parts.specs.Volumes.{fields_in, runs_with}
use Rattle.vol_parts.proofs.Cuts.{cut-takes}
use Rattle.vol_parts.proofs.Sizes.{length-lbns_in}
use Rattle.vol_spell.specs.Reading.{fields_told}
use Rattle.vol_spell.proofs.Heads.{first_reads, used_first}
use Rattle.op_law.specs.Readable.{AreInside}
use Rattle.op_law.specs.SeenFiles.{runs_listed}
use Rattle.op_steps.specs.declared.seeing.FileSeen.{FileSeen}
use Rattle.op_delete.specs.Looking.{IsWholeDir}

-- whichever headers were seen besides
pub dir_whole : (f : FileSeen) → fields_told f.head.now ≡ Some f.fields → AreInside f.head.now → IsWholeDir f
dir_whole f told inside dir =
    let b : Block = f.head.now in
    let front : List Run = runs_listed b in
    let rest : List Run = flat_map (λ (x : ℕ × Block). runs_listed x.1) f.rest.now in
    let alone : front ≡ runs_in b = ap (λ r. runs_with (fields_in r) b) (first_reads b f.fields (used_first b f.fields told)) in
    let enough : f.fields.blocks ≤ blocks_in (runs_in b) = inside.enough f.fields told dir in
    let many : length (lbns_in front) ≡ blocks_in (runs_in b) = length-lbns_in front ∙ ap blocks_in alone in
    let both : length (lbns_in (front ++ rest)) ≡ length (lbns_in front) + length (lbns_in rest) =
    ap length (flat_map-append (λ (r : Run). range_with_len r.lbn r.count) front rest) ∙ length-append (lbns_in front) (lbns_in rest) in
    let all : length (lbns_in (cut f.fields.blocks (front ++ rest))) ≡ min f.fields.blocks (length (lbns_in (front ++ rest))) =
    ap length (cut-takes f.fields.blocks (front ++ rest)) ∙ length-take f.fields.blocks (lbns_in (front ++ rest)) in
    omega arith
