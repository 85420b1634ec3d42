use Rattle.std.proofs.Common.{◌≡◌, ◌≤◌, ◌∙◌, ◌-◌, ◌*◌, List, ℕ, length, take, drop, ap, arith}
use Rattle.std.proofs.lemmas.List.{length-take}
use Rattle.vol_records.specs.Storing.{filled}
use Rattle.vol_records.proofs.Chunks.{put_filled, part_of_bytes}
use Rattle.vol_records.proofs.placing.chunk.Goals as goal

pub returns : goal.returns
returns c =
    let bytes = c.args.bytes.now in
    let rest : List ℕ = take (length bytes - 512 * c.args.i) (drop (512 * c.args.i) bytes) in
    let part = part_of_bytes bytes c.args.i c.min.result c.min.ensures in
    let top = length-take 512 (drop (512 * c.args.i) bytes) in
    let same : length (take c.min.result rest) ≡ length (take 512 (drop (512 * c.args.i) bytes)) = ap length part in
    let few : length (take c.min.result rest) ≤ 512 = omega (arith, same, top) in
    c.put_bytes.ensures ∙ (put_filled c.zeros-b.result (take c.min.result rest) c.zeros-b.ensures few ∙ ap filled part)
