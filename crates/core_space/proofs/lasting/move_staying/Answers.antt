use Rattle.std.proofs.Common.{◌∙◌, get_or, sym, rules}
use Rattle.lock_db.specs.declared.name.LockName.TheVariants.{S}
use Rattle.plain_cat.specs.declared.mode.Mode.TheVariants.{NL}
use Rattle.core_space.specs.Lasting.{stays_by}
use Rattle.core_space.proofs.Staying.{moved-stays, moved-goes, stays-so}
use Rattle.core_space.proofs.lasting.move_staying.Goals as goal
use Rattle.core_space.proofs.lasting.move_staying.Goals.{then-stays_behind, else-stays_behind}

pub loop-at-preserved : goal.loop-at-preserved
loop-at-preserved c =
    let p = stays_by c.args.stocked c.args.cache.now in
    let xs = c.loop-at.locks in
    let so = c.stays_behind.ensures.stays ∙ stays-so c.args.stocked c.args.cache.now c.loop-at.walk (get_or xs c.loop-at.at (S 0, NL)) c.loop-at.invariant.walked in
    record {
      walked = c.stays_behind.ensures.same ∙ c.loop-at.invariant.walked;
      moved = elim c.if-stays_behind.branch [
        | then-stays_behind w ↦ rw (w.locks-is, w.kept-is) (moved-stays p xs c.args.locks.now c.loop-at.kept c.loop-at.at (S 0, NL) c.loop-at.invariant.moved (search rules) (sym so ∙ w.if-stays_behind.true))
        | else-stays_behind w ↦ rw (w.locks-is, w.kept-is) (moved-goes p xs c.args.locks.now c.loop-at.kept c.loop-at.at (S 0, NL) c.loop-at.invariant.moved (search rules) (sym so ∙ w.if-stays_behind.false))
      ];
    }
