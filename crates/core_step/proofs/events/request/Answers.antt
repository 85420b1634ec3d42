use Rattle.core_step.proofs.Lists.{removed}
use Rattle.std.proofs.Common.{ap, ◌∙◌}
use Rattle.std.specs.Prelude.{not, filter}
use Rattle.lock_db.specs.Names.{is_same}
use Rattle.core_step.proofs.events.request.Goals as goal

pub returns-in-Err-clause-err : goal.returns-in-Err-clause-err
returns-in-Err-clause-err c = (c.in-Err.ensures.err, c.remove.ensures ∙ ap (filter (λ l. not (is_same l.0 c.args.name))) c.in_ok-push.ensures.ok ∙ removed c.args.list.now c.args.name c.args.mode c.requires.apart)
