use Rattle.std.proofs.Common.{refl, arith}
use Rattle.run_engine.proofs.Staying.{played_stays, still_of_world}
use Rattle.run_engine.proofs.Playing.{play_more}
use Rattle.run_trace.proofs.Lines.{appended, plays_first, plays_more}
use Rattle.run_trace.proofs.walking.play_all.Goals as goal

pub loop-node-init : goal.loop-node-init
loop-node-init g c = record { number = omega arith; at = refl; drive = λ told. told; text = plays_first c.args.out.now.items 1 c.args.w.now.world }

pub play-requires : goal.play-requires
play-requires g c =
    let stays = played_stays c.args.w.now.world c.args.plays.now c.loop-node.w.world (c.loop-node.node-index, c.loop-node.invariant.at) in
    still_of_world c.args.w.now.world c.loop-node.w.world _ stays (c.requires c.loop-node.node-index 0 (omega arith))

pub loop-node-preserved : goal.loop-node-preserved
loop-node-preserved g c = record {
  number = omega (arith, c.loop-node.invariant.number);
  at = play_more c.args.plays.now c.loop-node.node-index 0 c.args.w.now.world c.loop-node.w.world c.play.new.w.world (omega arith) c.loop-node.invariant.at c.in_ok-play.ensures.played;
  drive = λ told. c.in_ok-play.ensures.drive (c.loop-node.invariant.drive told);
  text = appended _ _ _ _ _ _ c.loop-node.invariant.text c.in_ok-play.ensures.text
      (plays_more c.args.plays.now c.loop-node.node-index 0 c.args.w.now.world c.loop-node.w.world c.loop-node.number (omega arith) c.loop-node.invariant.at c.loop-node.invariant.number);
}
