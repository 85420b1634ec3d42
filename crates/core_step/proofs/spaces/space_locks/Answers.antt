use Rattle.std.proofs.Common.{◌∙◌}
use Rattle.std.specs.Option.{option_or}
use Rattle.lock_db.specs.declared.name.LockName.TheVariants.{X, V}
use Rattle.core_step.proofs.SpaceStates.{mode_both}
use Rattle.core_step.proofs.spaces.space_locks.Goals as goal

pub returns : goal.returns
returns g c =
    let kept = c.args.node.now.kept in
    let claims = c.args.node.now.claims in
    λ i. record {
      x = (c.or.ensures ∙ (λ j. option_or (c.x.ensures j) (c.x-2.ensures j)) ∙ mode_both X kept claims) i;
      v = (c.or-2.ensures ∙ (λ j. option_or (c.v.ensures j) (c.v-2.ensures j)) ∙ mode_both V kept claims) i;
    }
