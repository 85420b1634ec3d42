use Rattle.std.proofs.Common.{◌+◌, [], drop, get_or, arith}
use Rattle.fx_dir.proofs.Tallying.{blocks-next, blocks-more, blocks-done}
use Rattle.fx_dir.proofs.room.blocks_counted.Goals as goal

pub loop-block-init : goal.loop-block-init
loop-block-init c = record { read = c.requires; few = omega arith; names = omega arith }

pub block_counted-own-requires : goal.block_counted-own-requires
block_counted-own-requires c =
    (blocks-next c.args.seen.now c.args.seen.now c.loop-block.bytes c.loop-block.longest c.loop-block.block-index (0, []) c.loop-block-test.true c.loop-block.invariant).read.0

pub loop-block-preserved : goal.loop-block-preserved
loop-block-preserved c =
    let seen = c.args.seen.now in
    let i = c.loop-block.block-index in
    let here = blocks-next seen seen c.loop-block.bytes c.loop-block.longest i (0, []) c.loop-block-test.true c.loop-block.invariant in
    let own = c.block_counted-own in
    rw (c.saturating_add-bytes.ensures, c.max-longest.ensures)
    (blocks-more seen (get_or seen i (0, [])) (drop (i + 1) seen) c.loop-block.bytes c.loop-block.longest own.result.bytes own.result.longest here own.ensures.bytes own.ensures.longest)

pub returns : goal.returns
returns c =
    let l = c.loop-block-test.false in
    let done = blocks-done c.args.seen.now c.loop-block.bytes c.loop-block.longest c.loop-block.block-index (omega arith) c.loop-block.invariant in
    record { bytes = done.0; longest = done.1 }
