use Rattle.std.proofs.Common.{length}
use Rattle.vol_records.specs.Making.{placed}
use Rattle.vol_records.specs.Storing.{chunks, blocks_for}
use Rattle.vol_records.proofs.Made.{AreMade}
use Rattle.vol_records.proofs.storing.write_blocks.Given as goal

abbrev pub invariant-loop-i : goal.invariant-loop-i
invariant-loop-i g l =
    let I = g.I.ImageDev in
    AreMade (placed l.places (chunks (blocks_for (length l.bytes)) l.bytes)) l.fn.m.blocks l.m.blocks (I.told l.fn.m.image) (I.told l.m.image) (I.faults l.fn.m.image) (I.faults l.m.image) l.i
