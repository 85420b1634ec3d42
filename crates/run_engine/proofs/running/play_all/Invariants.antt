use Rattle.std.proofs.Common.{◌≡◌, ◌≤◌, take}
use Rattle.blk_drive.specs.Telling.{IsTold}
use Rattle.blk_drive.specs.Telling.{told_as}
use Rattle.run_engine.specs.Walks.{played}
use Rattle.run_engine.proofs.running.play_all.Given as goal

abbrev pub invariant-loop-node : goal.invariant-loop-node
invariant-loop-node g l = record {
  at : l.w.world ≡ played (take l.node-index l.plays) l.fn.w.world;
  drive : IsTold (g.I.ImageDev.told l.fn.w.image) l.fn.w.world.blocks → g.I.ImageDev.told l.w.image ≡ told_as (g.I.ImageDev.told l.fn.w.image) l.w.world.blocks;
  later : g.I.ImageDev.faults l.fn.w.image ≤ g.I.ImageDev.faults l.w.image;
}
