use Rattle.std.proofs.Common.{◌≡◌, ◌∙◌, ap}
use Rattle.plain_rules.specs.Lookups.{versions, entry_of}
use Rattle.op_law.specs.Events.{Events, Make, Space as Given}
use Rattle.op_law.specs.Behind.{goes_on_by, FollowsBy}
use Rattle.op_law.specs.Freeing.{through_space}
use Rattle.op_law.specs.Moving.{entries_of}
use Rattle.op_law.specs.Removing.{if_empty, delete_plan}
use Rattle.op_steps.specs.Names.{dir_seen}
use Rattle.op_steps.specs.Seeing.{file_seen}
use Rattle.op_delete.specs.Deleting.{plan_by}
use Rattle.op_delete.specs.Looking.{behind_empty}
use Rattle.op_steps.proofs.Mapped.{mapped}
use Rattle.op_delete.proofs.deleting.whole_looked.Goals as goal

pub returns-in-Next : goal.returns-in-Next
returns-in-Next c = λ given follows.
    let g = c.args.g.now in
    let d = dir_seen c.args.d.now in
    let f = file_seen g c.args.f.now in
    let o = entry_of (versions c.args.name.now (entries_of d)) c.args.ver in
    let then : Events = through_space g f (λ s. Make (plan_by (λ e. delete_plan g d e f s) o)) in
    c.in_ok-need.ensures then given follows ∙ ap (behind_empty then given) c.in-Next.is

pub returns-in-Shown : goal.returns-in-Shown
returns-in-Shown c =
    let g = c.args.g.now in
    let d = dir_seen c.args.d.now in
    let f = file_seen g c.args.f.now in
    let o = entry_of (versions c.args.name.now (entries_of d)) c.args.ver in
    let then : Events = through_space g f (λ s. Make (plan_by (λ e. delete_plan g d e f s) o)) in
    mapped _ _ (λ n. (given : Given) → goes_on_by then c.in-Shown.behind given ≡ n) (λ n. (given : Given) → FollowsBy (if_empty f then) c.args.rest given → goes_on_by (if_empty f then) c.args.rest given ≡ n) c.space_looked.result
    (λ n h given follows. c.in_ok-need.ensures then given follows ∙ ap (behind_empty then given) c.in-Shown.is ∙ h given) c.space_looked.ensures
