use Rattle.std.proofs.Common.{◌+◌, ◌++◌, ap, ◌∙◌, take, drop}
use Rattle.lock_db.specs.declared.resource.Resource.{Resource}
use Rattle.lock_db.specs.Resources.{released_of}
use Rattle.lock_db.specs.Tables.{IsAt, IsGap, kept}
use Rattle.lock_db.proofs.Places.{lock-there, vacated-set, released-here}
use Rattle.lock_db.proofs.table.release.Goals as goal

pub unreachable-requires : goal.unreachable-requires
unreachable-requires c =
    let gap : IsGap c.args.name c.args.table.now.items c.in_default.field-0 = rw c.deref.ensures.value at c.in_default.ensures in
    lock-there c.args.name c.args.table.now.items c.in_default.field-0 c.args.owner gap c.requires.lock

pub returns : goal.returns
returns c =
    let t = c.args.table.now.items in
    let i = c.in-Ok.i in
    let r : Resource = c.index_mut-r.result.now in
    let at : IsAt c.args.name t i = rw c.deref.ensures.value at c.in-Ok.ensures in
    c.vacate.ensures r
    ∙ vacated-set t i c.release.new.self r at.within
    ∙ ap (λ (s : Resource). take i t ++ (kept s ++ drop (i + 1) t)) (c.release.ensures ∙ ap (released_of c.args.owner c.args.value) c.index_mut-r.ensures.value)
    ∙ released-here c.args.name t i c.args.owner c.args.value r c.requires.ordered at
