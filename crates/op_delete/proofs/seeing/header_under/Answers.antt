use Rattle.std.proofs.Common.{rules, ◌≡◌, ◌∙◌, true, false, ap, sym, subst}
use Rattle.std.specs.Prelude.{◌==◌}
use Rattle.lock_db.specs.declared.name.LockName.TheVariants.{S}
use Rattle.vol_spell.specs.Reading.{header_place}
use Rattle.op_law.specs.Events.{Look, following}
use Rattle.op_law.specs.Behind.{FollowsBy}
use Rattle.op_delete.proofs.Locked.{same_lock, own_lock, own_following}
use Rattle.op_delete.proofs.seeing.header_under.Goals as goal

pub returns-then-n-dir-clause-follows : goal.returns-then-n-dir-clause-follows
returns-then-n-dir-clause-follows c = λ next space follows.
    let t : (c.args.n == c.args.dir) ≡ true = search rules in
    c.block_seen.ensures.follows next space
    (subst (λ es. FollowsBy es c.args.rest space) (same_lock c.args.g.now c.args.dir c.args.n next t ∙ ap (λ l. Look (S c.args.n) l next) (sym c.header_lbn-lbn.ensures)) follows)

pub returns-in-Next-clause-need : goal.returns-in-Next-clause-need
returns-in-Next-clause-need c = λ next space.
    let t : (c.args.n == c.args.dir) ≡ false = search rules in
    own_following c.args.g.now c.args.dir c.args.n next c.args.rest.locks.now c.args.rest.blocks.now space t
    ∙ c.in-Next.ensures.need (Look (S c.args.n) (header_place c.args.g.now c.args.n) next) space

pub returns-in-Held-clause-need : goal.returns-in-Held-clause-need
returns-in-Held-clause-need c = λ next space.
    let t : (c.args.n == c.args.dir) ≡ false = search rules in
    own_following c.args.g.now c.args.dir c.args.n next c.args.rest.locks.now c.args.rest.blocks.now space t
    ∙ c.in-Held.ensures.need (Look (S c.args.n) (header_place c.args.g.now c.args.n) next) space
    ∙ ap (λ l. following (Look (S c.args.n) l next) c.in-Held.behind.locks.now c.in-Held.behind.blocks.now space) (sym c.header_lbn-lbn.ensures)
    ∙ c.block_seen-in-Held.ensures.need next space

pub returns-in-Held-clause-follows : goal.returns-in-Held-clause-follows
returns-in-Held-clause-follows c = λ next space follows.
    let t : (c.args.n == c.args.dir) ≡ false = search rules in
    let held = c.in-Held.ensures.follows (Look (S c.args.n) (header_place c.args.g.now c.args.n) next) space (subst (λ es. FollowsBy es c.args.rest space) (own_lock c.args.g.now c.args.dir c.args.n next t) follows) in
    c.block_seen-in-Held.ensures.follows next space (subst (λ l. FollowsBy (Look (S c.args.n) l next) c.in-Held.behind space) (sym c.header_lbn-lbn.ensures) held)
