use Rattle.fx_dir.proofs.Rising.{cmp-lower, cmp-equal}
use Rattle.fx_dir.proofs.room.name_order.Goals as goal

pub returns : goal.returns
returns c = record {
  lower = cmp-lower c.args.a.now c.args.b.now c.cmp.result c.cmp.ensures;
  equal = cmp-equal c.args.a.now c.args.b.now c.cmp.result c.cmp.ensures;
}
