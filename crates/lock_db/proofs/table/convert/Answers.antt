use Rattle.std.proofs.Common.{ap, ◌∙◌, set}
use Rattle.lock_db.proofs.Places.{lock-there, resource_at-here, converted-here}
use Rattle.lock_db.proofs.table.convert.Goals as goal

pub unreachable-requires : goal.unreachable-requires
unreachable-requires c = lock-there c.args.name c.args.table.now c.in_default.field-0 c.args.owner c.in_default.ensures c.requires.lock

pub convert-requires : goal.convert-requires
convert-requires c = rw (← resource_at-here c.args.name c.args.table.now c.in-Ok.i c.index-table-i.result c.requires.ordered c.in-Ok.ensures) c.requires.lock

pub returns-clause-after : goal.returns-clause-after
returns-clause-after c =
    ap (set c.args.table.now c.in-Ok.i) c.convert.ensures.after
    ∙ converted-here c.args.name c.args.table.now c.in-Ok.i c.args.owner c.args.mode c.args.value c.index-table-i.result c.requires.ordered c.in-Ok.ensures c.requires.lock

pub returns-clause-answer : goal.returns-clause-answer
returns-clause-answer c = rw (resource_at-here c.args.name c.args.table.now c.in-Ok.i c.index-table-i.result c.requires.ordered c.in-Ok.ensures) c.convert.ensures.answer
