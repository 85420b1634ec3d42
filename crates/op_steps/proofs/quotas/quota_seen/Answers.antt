use Rattle.std.proofs.Common.{◌∙◌, sym}
use Rattle.std.proofs.lemmas.List.FromFn.{length-range_with_len}
use Rattle.lock_db.specs.declared.name.LockName.TheVariants.{Q}
use Rattle.vol_spell.specs.Reading.{quota_places}
use Rattle.op_law.specs.Rows.{look_all}
use Rattle.op_steps.proofs.quotas.quota_seen.Goals as goal

pub returns-in-Held-clause-need : goal.returns-in-Held-clause-need
returns-in-Held-clause-need c = λ next space.
    let g = c.args.g.now in
    c.in-Held.ensures.need (look_all Q (quota_places g) next) space
    ∙ c.blocks_seen.ensures.need (quota_places g) next space (length-range_with_len g.quota_lbn g.cluster) (sym c.quota_lbn.ensures)

pub returns-in-Held-clause-follows : goal.returns-in-Held-clause-follows
returns-in-Held-clause-follows c = λ next space f.
    let g = c.args.g.now in
    c.blocks_seen.ensures.follows (quota_places g) next space (length-range_with_len g.quota_lbn g.cluster) (sym c.quota_lbn.ensures)
    (c.in-Held.ensures.follows (look_all Q (quota_places g) next) space f)
