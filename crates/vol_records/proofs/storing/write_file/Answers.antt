use Rattle.std.proofs.Common.{◌∷◌, [], ℕ, List, length, arith}
use Rattle.base_words.specs.Fields.{Block}
use Rattle.vol_records.specs.Making.{placed}
use Rattle.vol_records.specs.Storing.{chunks, blocks_for}
use Rattle.vol_records.proofs.Made.{first_made, last_made, made_length}
use Rattle.vol_records.proofs.storing.write_file.Goals as goal

pub write-requires : goal.write-requires
write-requires g c =
    let len = made_length _ _ _ _ _ _ _ _ c.write_blocks.ensures in
    let here = c.requires.header in
    omega (arith, len, here)

pub returns : goal.returns
returns g c =
    let w : ℕ × Block = (c.args.lbn, c.args.head.now) in
    let ws : List (ℕ × Block) = placed c.args.places.now (chunks (blocks_for (length c.args.bytes.now)) c.args.bytes.now) in
    last_made ws w _ _ _ _ _ _ _ _ _ c.write.result (first_made ws (w ∷ []) _ _ _ _ _ _ _ c.in_ok-write_blocks.ensures (λ e. absurd (cc e)))
    c.write.ensures.ok c.write.ensures.image c.write.ensures.same c.write.ensures.failed c.write.ensures.cause
