use Rattle.std.proofs.Common.{◌∙◌, sym, ap}
use Rattle.lock_db.specs.declared.name.LockName.TheVariants.{S}
use Rattle.vol_spell.specs.Reading.{header_place}
use Rattle.op_law.specs.Events.{Look, following}
use Rattle.op_law.specs.Behind.{blocks_alone}
use Rattle.op_create.proofs.places.slot_seen.Goals as goal

pub returns-in-Next-clause-need : goal.returns-in-Next-clause-need
returns-in-Next-clause-need c = λ next space.
    c.in-Next.ensures.need (Look (S c.args.n) (header_place c.args.g.now c.args.n) (next (blocks_alone c.args.quota.now) space.clusters c.args.n)) space

pub returns-in-Next-block_seen-clause-need : goal.returns-in-Next-block_seen-clause-need
returns-in-Next-block_seen-clause-need c = λ next space.
    let then = next (blocks_alone c.args.quota.now) space.clusters c.args.n in
    c.in-Held.ensures.need (Look (S c.args.n) (header_place c.args.g.now c.args.n) then) space
    ∙ ap (λ l. following (Look (S c.args.n) l then) c.in-Held.behind.locks.now c.in-Held.behind.blocks.now space) (sym c.header_lbn-lbn.ensures)
    ∙ c.in-Next-block_seen.ensures.need then space

pub returns-in-Seen-clause-need : goal.returns-in-Seen-clause-need
returns-in-Seen-clause-need c = λ next space.
    let then = next (blocks_alone c.args.quota.now) space.clusters c.args.n in
    c.in-Held.ensures.need (Look (S c.args.n) (header_place c.args.g.now c.args.n) then) space
    ∙ ap (λ l. following (Look (S c.args.n) l then) c.in-Held.behind.locks.now c.in-Held.behind.blocks.now space) (sym c.header_lbn-lbn.ensures)
    ∙ c.in-Seen.ensures.need then space
