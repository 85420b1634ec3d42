use Rattle.std.proofs.Common.{ap, ◌∙◌, set}
use Rattle.lock_db.proofs.Places.{used-there, recovered-here}
use Rattle.lock_db.proofs.table.recover.Goals as goal

pub unreachable-requires : goal.unreachable-requires
unreachable-requires c = used-there c.args.name c.args.table.now c.in_default.field-0 c.in_default.ensures c.requires.used

pub returns : goal.returns
returns c =
    ap (set c.args.table.now c.in-Ok.i) c.recover.ensures
    ∙ recovered-here c.args.name c.args.table.now c.in-Ok.i c.args.value c.args.valid c.index-table-i.result c.requires.ordered c.in-Ok.ensures c.requires.used
