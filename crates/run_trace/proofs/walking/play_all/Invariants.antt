use Rattle.std.proofs.Common.{◌≡◌, ◌++◌, ◌+◌, take}
use Rattle.blk_drive.specs.Telling.{IsTold}
use Rattle.run_engine.specs.Walks.{played}
use Rattle.run_trace.specs.Steps.{plays_text}
use Rattle.run_trace.proofs.walking.play_all.Given as goal

abbrev pub invariant-loop-node : goal.invariant-loop-node
invariant-loop-node g l = record {
  number : l.number ≡ l.node-index + 1;
  at : l.w.world ≡ played (take l.node-index l.plays) l.fn.w.world;
  drive : IsTold (g.I.ImageDev.told l.fn.w.image) l.fn.w.world.blocks → IsTold (g.I.ImageDev.told l.w.image) l.w.world.blocks;
  text : l.out.items ≡ l.fn.out.items ++ plays_text 1 (take l.node-index l.plays) l.fn.w.world;
}
