use Rattle.std.proofs.Common.{◌≡◌, ◌∙◌, Some, ap, sym, subst}
use Rattle.plain_cat.specs.declared.history.Stage.TheVariants as stage
use Rattle.plain_cat.specs.declared.reply.Reply.TheVariants as reply
use Rattle.plain_rules.specs.Lookups.{versions, entry_of}
use Rattle.op_law.specs.declared.need.Plan.{Plan}
use Rattle.op_law.specs.Events.{Space as Given}
use Rattle.op_law.specs.Behind.{goes_on_by, FollowsBy}
use Rattle.op_law.specs.Moving.{entries_of, removal_writes}
use Rattle.op_law.specs.Removing.{delete_in}
use Rattle.op_law.specs.Writing.{plan_of}
use Rattle.op_steps.specs.Names.{dir_seen}
use Rattle.op_steps.specs.Seeing.{file_seen}
use Rattle.op_delete.specs.Deleting.{file_goes}
use Rattle.op_steps.proofs.Mapped.{mapped}
use Rattle.op_delete.proofs.deleting.delete_in.Goals as goal

pub returns-in-File : goal.returns-in-File
returns-in-File c =
    let g = c.args.g.now in
    let d = dir_seen c.args.d.now in
    let e = c.args.e.now in
    let rest = c.args.rest in
    let f = file_seen g c.in-File.f in
    let behind = c.in-File.behind in
    let o = entry_of (versions c.args.name.now (entries_of d)) c.args.ver in
    let plan : Plan = plan_of (removal_writes d e stage.Nothing stage.Done) reply.EntryRemoved in
    mapped _ _ (λ n. (given : Given) → FollowsBy (file_goes g d o f) behind given → goes_on_by (file_goes g d o f) behind given ≡ n)
    (λ n. (given : Given) → FollowsBy (delete_in g d e) rest given → goes_on_by (delete_in g d e) rest given ≡ n) c.file_looked.result
    (λ n h given follows.
    c.in-File.ensures.need plan (file_goes g d (Some e)) given
    ∙ ap (λ x. goes_on_by (file_goes g d x f) behind given) (sym c.requires.found)
    ∙ h given (subst (λ x. FollowsBy (file_goes g d x f) behind given) (sym c.requires.found) (c.in-File.ensures.follows plan (file_goes g d (Some e)) given follows)))
    c.file_looked.ensures
