use Rattle.std.proofs.Common.{◌≡◌, ◌∙◌}
use Rattle.plain_rules.specs.Lookups.{versions, entry_of}
use Rattle.op_law.specs.Events.{Space as Given}
use Rattle.op_law.specs.Behind.{goes_on_by, FollowsBy}
use Rattle.op_law.specs.Moving.{entries_of}
use Rattle.op_law.specs.Refusing.{if_entry}
use Rattle.op_law.specs.Removing.{delete_in}
use Rattle.op_steps.specs.Names.{dir_seen}
use Rattle.op_steps.specs.Seeing.{file_seen}
use Rattle.op_delete.specs.Deleting.{file_goes}
use Rattle.op_steps.proofs.Mapped.{mapped}
use Rattle.op_delete.proofs.deleting.dir_looked.Goals as goal

pub returns-in-Next : goal.returns-in-Next
returns-in-Next c = λ given follows. c.in-Next.ensures.told (entry_of (versions c.args.name.now (entries_of (dir_seen c.args.d.now))) c.args.ver) given follows

pub returns-in-File : goal.returns-in-File
returns-in-File c =
    let g = c.args.g.now in
    let d = dir_seen c.args.d.now in
    let rest = c.args.rest in
    let f = file_seen g c.in-File.f in
    let behind = c.in-File.behind in
    let o = entry_of (versions c.args.name.now (entries_of d)) c.args.ver in
    mapped _ _ (λ n. (given : Given) → FollowsBy (file_goes g d o f) behind given → goes_on_by (file_goes g d o f) behind given ≡ n)
    (λ n. (given : Given) → FollowsBy (if_entry o (delete_in g d)) rest given → goes_on_by (if_entry o (delete_in g d)) rest given ≡ n) c.file_looked.result
    (λ n h given follows. let passes = c.in-File.ensures.told o given follows in passes.need ∙ h given passes.follows) c.file_looked.ensures
