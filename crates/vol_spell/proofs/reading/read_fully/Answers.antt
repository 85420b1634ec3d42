use Rattle.std.proofs.Common.{Option, Result, subst}
use Rattle.plain_cat.specs.declared.cat.Cat.{Cat}
use Rattle.vol_parts.specs.declared.finding.Finding.{Finding}
use Rattle.vol_faults.specs.CatFindings.{IsFirstIn}
use Rattle.vol_faults.specs.Whole.{IsRead}
use Rattle.vol_spell.proofs.Fully.{few_files, room_first, room_none}
use Rattle.vol_spell.proofs.reading.read_fully.Goals as goal

pub first_without_room-requires : goal.first_without_room-requires
first_without_room-requires c =
    let read = subst (λ (r : Result Cat Finding). IsRead c.args.blocks.now r) c.in-Ok.is c.in_ok-cat.ensures in
    few_files c.args.blocks.now c.in-Ok.cat read.1

pub returns-in-Some : goal.returns-in-Some
returns-in-Some c =
    let read = subst (λ (r : Result Cat Finding). IsRead c.args.blocks.now r) c.in-Ok.is c.in_ok-cat.ensures in
    let first = subst (λ (o : Option Finding). IsFirstIn c.in-Ok.cat 16 o) c.in-Some.is c.in_ok-found.ensures in
    room_first c.args.blocks.now c.in-Ok.cat c.in-Some.found read.0 read.1 first

pub returns-in-None : goal.returns-in-None
returns-in-None c =
    let read = subst (λ (r : Result Cat Finding). IsRead c.args.blocks.now r) c.in-Ok.is c.in_ok-cat.ensures in
    let none = subst (λ (o : Option Finding). IsFirstIn c.in-Ok.cat 16 o) c.in-None.is c.in_ok-found.ensures in
    room_none c.args.blocks.now c.in-Ok.cat read.0 read.1 none
