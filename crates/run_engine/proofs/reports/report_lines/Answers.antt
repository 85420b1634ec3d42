use Rattle.std.proofs.Common.{◌++◌, ◌∙◌}
use Rattle.plain_texts.specs.Reports.{lines_text}
use Rattle.run_engine.proofs.Showing.{lines_shown}
use Rattle.run_engine.proofs.reports.report_lines.Goals as goal

pub returns : goal.returns
returns c = c.in_ok-push_lines.ensures.ok ∙ (λ i. c.new-text.ensures.items i ++ lines_text (c.items.ensures i)) ∙ lines_shown c.args.h.now.items
