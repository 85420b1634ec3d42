use Rattle.std.proofs.Common.{◌∙◌, ap, sym}
use Rattle.lock_db.specs.declared.name.LockName.TheVariants.{X, V}
use Rattle.core_space.specs.Lasting.{mode_on, noted}
use Rattle.core_space.proofs.Modes.{mode_on-push}
use Rattle.core_space.proofs.lasting.LastingLocks.append.Goals as goal

pub invariant_of-self : goal.invariant_of-self
invariant_of-self c =
    let ls = c.self.inside.list.items in
    let item = c.args.item in (
      rw (c.push_reserved.ensures.capacity) c.self.invariant.0,
      c.noted-self-inside.ensures ∙ ap (noted X item) c.self.invariant.1 ∙ mode_on-push X ls item ∙ ap (mode_on X) (sym c.push_reserved.ensures.items),
      c.noted-self-inside-2.ensures ∙ ap (noted V item) c.self.invariant.2 ∙ mode_on-push V ls item ∙ ap (mode_on V) (sym c.push_reserved.ensures.items),
    )
