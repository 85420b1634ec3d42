-- The moves before the next one are made.
use Rattle.std.proofs.Common.{◌≡◌, ◌≤◌, take}
use Rattle.vol_rebuild.specs.Places.{written_at}
use Rattle.blk_drive.specs.Telling.{IsTold as Shows}
use Rattle.blk_drive.specs.Telling.{told_as}
use Rattle.vol_repair.proofs.making.make_moves.Given as goal

abbrev pub invariant-loop-next : goal.invariant-loop-next
invariant-loop-next g l =
    let I = g.I.ImageDev in
    record {
      blocks : l.m.blocks ≡ written_at l.places (take l.next-index l.moves) l.fn.m.blocks;
      told : Shows (I.told l.fn.m.image) l.fn.m.blocks → I.told l.m.image ≡ told_as (I.told l.fn.m.image) l.m.blocks;
      later : I.faults l.fn.m.image ≤ I.faults l.m.image;
    }
