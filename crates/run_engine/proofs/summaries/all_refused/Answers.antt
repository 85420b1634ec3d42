use Rattle.std.proofs.Common.{◌∙◌, ap, count_by}
use Rattle.run_engine.specs.Summaries.{is_refused}
use Rattle.run_engine.proofs.Showing.{refused_shown}
use Rattle.run_engine.proofs.summaries.all_refused.Goals as goal

pub returns : goal.returns
returns g c = c.refused.ensures ∙ ap (count_by is_refused) c.items.ensures ∙ refused_shown c.history.result.now.items ∙ ap (count_by is_refused) c.history.ensures
