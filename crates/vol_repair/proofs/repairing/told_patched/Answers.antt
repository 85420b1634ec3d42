use Rattle.std.proofs.Common.{Result, subst}
use Rattle.plain_cat.specs.declared.cat.Cat.{Cat}
use Rattle.vol_parts.specs.declared.finding.Finding.{Finding}
use Rattle.vol_faults.specs.Whole.{IsRead}
use Rattle.vol_repair.proofs.Ending.{none_read, read_patched}
use Rattle.vol_repair.proofs.repairing.told_patched.Goals as goal

pub unreachable-requires : goal.unreachable-requires
unreachable-requires c =
    let p = c.requires.patched in
    none_read p.0 p.1 c.args.blocks.now p.2 c.in_ok-cat.field-0 c.in_default.field-0 c.in_ok-cat.ensures c.in_default.is

pub returns : goal.returns
returns c home first p =
    read_patched home first c.args.blocks.now p c.in-Ok.cat (subst (λ (x : Result Cat Finding). IsRead c.args.blocks.now x) c.in-Ok.is c.in_ok-cat.ensures)
