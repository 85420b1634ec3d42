use Rattle.op_law.proofs.Heads.{head_inside}
use Rattle.op_law.proofs.seeing.directory_seen.Goals as goal

pub entries_looked-requires : goal.entries_looked-requires
entries_looked-requires c =
    let head = rw c.in-Seen.is at c.header_seen.ensures.head in
    head_inside c.args.rest.blocks.now c.in-Seen.header.now c.in-Seen.behind.blocks.now head c.requires.inside
