use Rattle.std.proofs.Common.{◌∙◌, ap, count_by}
use Rattle.run_engine.specs.Summaries.{is_carried_out}
use Rattle.run_engine.proofs.Showing.{carried_out_shown}
use Rattle.run_engine.proofs.summaries.all_carried_out.Goals as goal

pub returns : goal.returns
returns g c = c.carried_out.ensures ∙ ap (count_by is_carried_out) c.items.ensures ∙ carried_out_shown c.history.result.now.items ∙ ap (count_by is_carried_out) c.history.ensures
