use Rattle.std.proofs.Common.{◌+◌, [], drop, get_or, refl, arith}
use Rattle.fx_dir.specs.Moves.{key}
use Rattle.fx_dir.specs.Walk.{walked_of, walked}
use Rattle.fx_dir.proofs.RoomStreams.{walks, blocks-here, blocks-passed, blocks-none}
use Rattle.fx_dir.proofs.room.blocks_taken.Goals as goal

pub loop-block-init : goal.loop-block-init
loop-block-init c = record { read = c.requires; same = refl }

pub block_taken-now-requires : goal.block_taken-now-requires
block_taken-now-requires c =
    (blocks-here (walked (key c.args.name.now c.args.ver)) _ (walked_of c.loop-block.now) c.args.seen.now c.loop-block.block-index (0, []) c.loop-block-test.true c.loop-block.invariant).read.0

pub loop-block-preserved : goal.loop-block-preserved
loop-block-preserved c =
    let e = key c.args.name.now c.args.ver in
    let seen = c.args.seen.now in
    let i = c.loop-block.block-index in
    let left = blocks-here (walked e) _ (walked_of c.loop-block.now) seen i (0, []) c.loop-block-test.true c.loop-block.invariant in
    blocks-passed (walked e) _ (walked_of c.loop-block.now) (walked_of c.block_taken-now.result) (get_or seen i (0, [])) (drop (i + 1) seen) left c.block_taken-now.ensures (walks e)

pub returns : goal.returns
returns c =
    let l = c.loop-block-test.false in
    blocks-none (walked (key c.args.name.now c.args.ver)) _ (walked_of c.loop-block.now) c.args.seen.now c.loop-block.block-index (omega arith) c.loop-block.invariant (walks (key c.args.name.now c.args.ver))
