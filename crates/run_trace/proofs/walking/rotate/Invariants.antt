use Rattle.std.proofs.Common.{◌≡◌, ◌≤◌, ◌+◌, ◌-◌, ◌++◌, length}
use Rattle.blk_drive.specs.Telling.{IsTold}
use Rattle.core_state.specs.Goods.{Good}
use Rattle.core_ends.specs.Turns.{IsEnough}
use Rattle.run_engine.specs.Walks.{rotation}
use Rattle.run_trace.specs.Steps.{turns_text}
use Rattle.run_trace.proofs.walking.rotate.Given as goal

abbrev pub invariant-loop-turns : goal.invariant-loop-turns
invariant-loop-turns g l = record {
  at : rotation l.turns (record { world = l.fn.w.world; from = 1 }) ≡ record { world = l.w.world; from = l.from };
  text : l.out.items ≡ l.fn.out.items ++ turns_text (l.made + 1) l.turns (record { world = l.fn.w.world; from = 1 });
  drive : IsTold (g.I.ImageDev.told l.fn.w.image) l.fn.w.world.blocks → IsTold (g.I.ImageDev.told l.w.image) l.w.world.blocks;
  low : 1 ≤ l.from;
  high : l.from ≤ length l.w.world.nodes + 1;
  good : Good l.w.world;
  enough : IsEnough (l.fn.budget - l.turns) l.w.world l.from;
}
