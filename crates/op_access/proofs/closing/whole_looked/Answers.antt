use Rattle.std.proofs.Common.{◌≡◌, ◌∙◌, ap, sym}
use Rattle.op_law.specs.declared.need.Need.TheVariants as need
use Rattle.op_law.specs.declared.need.Plan.{Plan}
use Rattle.op_law.specs.Channels.{close_plan}
use Rattle.op_law.specs.Freeing.{SeenSpace, freeing_writes}
use Rattle.op_steps.specs.Seeing.{file_seen}
use Rattle.op_steps.specs.Looking.{behind_space}
use Rattle.op_access.proofs.closing.whole_looked.Goals as goal

pub returns-in-Next : goal.returns-in-Next
returns-in-Next c = λ given.
    let g = c.args.g.now in
    let f = file_seen g c.args.f.now in
    let plan : SeenSpace → Plan = λ s. close_plan f.num c.args.chan c.args.mode (freeing_writes g f s) in
    c.in_ok-need.ensures.need f plan given c.in_ok-clusters.ensures ∙ ap (behind_space plan) c.in-Next.is

pub returns : goal.returns
returns c = λ given.
    let g = c.args.g.now in
    let f = file_seen g c.args.f.now in
    let plan : SeenSpace → Plan = λ s. close_plan f.num c.args.chan c.args.mode (freeing_writes g f s) in
    c.in_ok-need.ensures.need f plan given c.in_ok-clusters.ensures
    ∙ ap (behind_space plan) c.in-All.is
    ∙ ap (λ (p : Plan). need.Ready p) (sym c.in_ok-plan-in-All.ensures)
