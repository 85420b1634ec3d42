use Rattle.std.proofs.Common.{◌∙◌, Option, ap, sym}
use Rattle.plain_cat.specs.declared.entries.DirEnt.{DirEnt}
use Rattle.op_law.specs.declared.need.Need.TheVariants as need
use Rattle.op_law.specs.declared.need.Plan.{Plan}
use Rattle.op_law.specs.Behind.{blocks_alone}
use Rattle.op_law.specs.Removing.{delete_plan}
use Rattle.op_steps.specs.Names.{dir_seen}
use Rattle.op_steps.specs.Seeing.{file_seen}
use Rattle.op_steps.specs.Looking.{space_seen}
use Rattle.op_delete.specs.Deleting.{plan_by}
use Rattle.op_delete.proofs.Found.{found_so}
use Rattle.op_delete.proofs.deleting.deleted_by.Goals as goal

pub deleted-requires-clause-entry : goal.deleted-requires-clause-entry
deleted-requires-clause-entry c =
    let name = c.args.name.now in
    let found = sym c.in_ok-e.ensures ∙ c.in-Some.is in
    record {
      readable = c.requires.dir;
      read = c.requires.read;
      few = c.requires.few;
      there = found_so (blocks_alone c.args.d.now.blocks.now) name c.args.ver c.in-Some.e found;
    }

pub returns : goal.returns
returns c =
    let name = c.args.name.now in
    let found = sym c.in_ok-e.ensures ∙ c.in-Some.is in
    let plan : DirEnt → Plan = λ e. delete_plan c.args.g.now (dir_seen c.args.d.now) e (file_seen c.args.g.now c.args.f.now) (space_seen c.args.space.now) in
    ap (λ (p : Plan). need.Ready p) c.in_ok-plan.ensures ∙ ap (λ (o : Option DirEnt). need.Ready (plan_by plan o)) (sym found)
