use Rattle.std.proofs.Common.{◌≡◌, ◌≤◌, ◌+◌, ◌-◌, length}
use Rattle.blk_drive.specs.Telling.{IsTold}
use Rattle.blk_drive.specs.Telling.{told_as}
use Rattle.core_state.specs.Goods.{Good}
use Rattle.core_ends.specs.Turns.{IsEnough}
use Rattle.run_engine.specs.Walks.{rotation}
use Rattle.run_engine.proofs.rotation.rotate.Given as goal

abbrev pub invariant-loop-turns : goal.invariant-loop-turns
invariant-loop-turns g l = record {
  at : rotation l._turns (record { world = l.fn.w.world; from = 1 }) ≡ record { world = l.w.world; from = l.from };
  low : 1 ≤ l.from;
  high : l.from ≤ length l.w.world.nodes + 1;
  good : Good l.w.world;
  enough : IsEnough (l.fn.budget - l._turns) l.w.world l.from;
  drive : IsTold (g.I.ImageDev.told l.fn.w.image) l.fn.w.world.blocks → g.I.ImageDev.told l.w.image ≡ told_as (g.I.ImageDev.told l.fn.w.image) l.w.world.blocks;
  later : g.I.ImageDev.faults l.fn.w.image ≤ g.I.ImageDev.faults l.w.image;
}
