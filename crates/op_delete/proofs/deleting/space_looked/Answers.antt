use Rattle.std.proofs.Common.{◌≡◌, ◌∙◌, ap, sym}
use Rattle.plain_rules.specs.Lookups.{versions, entry_of}
use Rattle.op_law.specs.declared.need.Need.TheVariants as need
use Rattle.op_law.specs.declared.need.Plan.{Plan}
use Rattle.op_law.specs.Events.{Make, Space as Given}
use Rattle.op_law.specs.Behind.{goes_on_by}
use Rattle.op_law.specs.Freeing.{SeenSpace, through_space}
use Rattle.op_law.specs.Moving.{entries_of}
use Rattle.op_law.specs.Removing.{delete_plan}
use Rattle.op_steps.specs.Names.{dir_seen}
use Rattle.op_steps.specs.Seeing.{file_seen}
use Rattle.op_delete.specs.Deleting.{plan_by}
use Rattle.op_steps.specs.Looking.{space_seen, behind_space}
use Rattle.op_steps.proofs.Mapped.{mapped}
use Rattle.op_delete.proofs.deleting.space_looked.Goals as goal

pub returns-in-Next : goal.returns-in-Next
returns-in-Next c = λ given.
    let g = c.args.g.now in
    let d = dir_seen c.args.d.now in
    let f = file_seen g c.args.f.now in
    let o = entry_of (versions c.args.name.now (entries_of d)) c.args.ver in
    let plan : SeenSpace → Plan = λ s. plan_by (λ e. delete_plan g d e f s) o in
    c.in_ok-need.ensures.need f plan given c.in_ok-clusters.ensures ∙ ap (behind_space plan) c.in-Next.is

pub returns : goal.returns
returns c =
    let g = c.args.g.now in
    let d = dir_seen c.args.d.now in
    let f = file_seen g c.args.f.now in
    let o = entry_of (versions c.args.name.now (entries_of d)) c.args.ver in
    let plan : SeenSpace → Plan = λ s. plan_by (λ e. delete_plan g d e f s) o in
    mapped _ _ (λ n. n ≡ need.Ready (plan (space_seen c.in-All.space))) (λ n. (given : Given) → goes_on_by (through_space g f (λ s. Make (plan s))) c.args.rest given ≡ n) c.deleted_by.result
    (λ n h given. c.in_ok-need.ensures.need f plan given c.in_ok-clusters.ensures ∙ ap (behind_space plan) c.in-All.is ∙ sym h) c.deleted_by.ensures
