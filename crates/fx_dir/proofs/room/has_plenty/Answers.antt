use Rattle.std.proofs.Common.{◌+◌, ◌%◌, arith}
use Rattle.fx_dir.specs.Walk.{blocks_alone}
use Rattle.fx_dir.proofs.RoomStreams.{blocks-read}
use Rattle.fx_dir.proofs.Tallying.{told_plenty}
use Rattle.fx_dir.proofs.room.has_plenty.Goals as goal

pub blocks_counted-all-requires : goal.blocks_counted-all-requires
blocks_counted-all-requires c = blocks-read (blocks_alone c.args.seen.now) c.requires

pub returns : goal.returns
returns c = λ yes ver es read.
    let n = c.max-longest.result in
    let few = c.blocks_counted-all.ensures.bytes in
    let names = c.blocks_counted-all.ensures.longest in
    told_plenty c.args.k ver c.blocks_counted-all.result.bytes (14 + n + n % 2) n c.args.name.now (blocks_alone c.args.seen.now) es
    (omega arith) read few (omega arith) (omega arith) (omega arith) (rw (← c.saturating_add.ensures) yes)
