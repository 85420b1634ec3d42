use Rattle.std.proofs.Common.{◌∙◌, ap, sym, subst}
use Rattle.lock_db.specs.declared.name.LockName.TheVariants.{S}
use Rattle.vol_spell.specs.Reading.{header_place}
use Rattle.op_law.specs.Behind.{FollowsBy, IsHeadOf}
use Rattle.op_law.specs.Events.{Look, following}
use Rattle.op_steps.proofs.chains.slot_seen.Goals as goal

pub returns-in-Next-clause-need : goal.returns-in-Next-clause-need
returns-in-Next-clause-need c = λ next space. c.in-Next.ensures.need (Look (S c.args.n) (header_place c.args.g.now c.args.n) next) space

pub returns-in-Held-clause-head : goal.returns-in-Held-clause-head
returns-in-Held-clause-head c = subst (λ bs. IsHeadOf bs c.block_seen.result) c.in-Held.ensures.blocks c.block_seen.ensures.head

pub returns-in-Held-clause-need : goal.returns-in-Held-clause-need
returns-in-Held-clause-need c = λ next space.
    c.in-Held.ensures.need (Look (S c.args.n) (header_place c.args.g.now c.args.n) next) space
    ∙ ap (λ l. following (Look (S c.args.n) l next) c.in-Held.behind.locks.now c.in-Held.behind.blocks.now space) (sym c.header_lbn.ensures)
    ∙ c.block_seen.ensures.need next space

pub returns-in-Held-clause-follows : goal.returns-in-Held-clause-follows
returns-in-Held-clause-follows c = λ next space f.
    let looked = c.in-Held.ensures.follows (Look (S c.args.n) (header_place c.args.g.now c.args.n) next) space f in
    c.block_seen.ensures.follows next space (subst (λ l. FollowsBy (Look (S c.args.n) l next) c.in-Held.behind space) (sym c.header_lbn.ensures) looked)
